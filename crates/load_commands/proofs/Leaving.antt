-- What the runs of a load that was planned leave.
use Rattle.std.proofs.Common.{Option, ap}
use Rattle.kexec_words.specs.declared.commands.Runs.{Runs}
use Rattle.kimage_list.specs.Laying.{mode_with, swap_of}
use Rattle.load_states.specs.States.{Checked}
use Rattle.load_states.specs.Ready.{Told}
use Rattle.kexec_plan.specs.Requests.{Plan}
use Rattle.load_commands.specs.Inputs.{LoadInputs}
use Rattle.load_commands.specs.Loading.{IsLoaded}
use Rattle.command_parts.specs.Runs.{Leaves, after_runs, wish_of}
use Rattle.command_parts.proofs.Leaving.{has_mode, leaves_by}

pub leaves_of : (runs : Option Runs) (i : LoadInputs) (p : Plan) (c : Checked) → IsLoaded (wish_of runs) i p c.load → Told c.load c.words c.links c.pairs → Leaves runs c (after_runs runs c)
leaves_of runs i p c l told =
    leaves_by runs c (mode_with (wish_of runs) (swap_of l.laid.loading)) (ap (λ i. i.mode) l.laid.image) (has_mode runs (swap_of l.laid.loading)) told
