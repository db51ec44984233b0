-- The runs of a load that was planned end.
use Rattle.std.proofs.Common.{Option, ap, sym, subst}
use Rattle.kx_pages.specs.declared.image.Wish.{Wish}
use Rattle.segments.specs.inner.Rules.{IsBare}
use Rattle.kimage_list.specs.Laying.{mode_with}
use Rattle.kimage_list.specs.Laying.{swap_of as swap_in}
use Rattle.load_states.specs.Ready.{Told}
use Rattle.load_states.specs.States.{Checked, Load}
use Rattle.kexec_words.specs.declared.commands.Runs.{Runs}
use Rattle.kexec_plan.specs.Requests.{Plan}
use Rattle.kexec_plan.proofs.Bare.{planned_bare}
use Rattle.load_commands.specs.Inputs.{LoadInputs}
use Rattle.load_commands.specs.Loading.{IsLoaded}
use Rattle.command_parts.specs.Runs.{EndsAgain, MachineLeaves, wish_of}
use Rattle.command_parts.proofs.Leaving.{has_mode}
use Rattle.command_parts.proofs.Ending.{ends_again, machine_leaves}

-- the segments of a load break no rule
pub loaded_bare : (wish : Wish) (i : LoadInputs) (p : Plan) (load : Load) → IsLoaded wish i p load → IsBare load.segments
loaded_bare wish i p load l = subst IsBare (sym l.laid.segments) (planned_bare i.request i.map p l.planned)

pub again_of : (runs : Option Runs) (i : LoadInputs) (p : Plan) (c : Checked) → IsLoaded (wish_of runs) i p c.load → Told c.load c.words c.links c.pairs → EndsAgain runs c
again_of runs i p c l told =
    let swap = swap_in l.laid.loading in
    ends_again runs c (mode_with (wish_of runs) swap) (ap (λ i. i.mode) l.laid.image) (has_mode runs swap) (loaded_bare (wish_of runs) i p c.load l) told

pub machine_of : (runs : Option Runs) (i : LoadInputs) (p : Plan) (c : Checked) → IsLoaded (wish_of runs) i p c.load → Told c.load c.words c.links c.pairs → MachineLeaves runs c
machine_of runs i p c l told =
    let swap = swap_in l.laid.loading in
    machine_leaves runs c (mode_with (wish_of runs) swap) (ap (λ i. i.mode) l.laid.image) (has_mode runs swap) (loaded_bare (wish_of runs) i p c.load l) told
