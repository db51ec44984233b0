-- A load with a purgatory proves itself once more: after one run the test of its regions finds them the same.
use Rattle.std.proofs.Common.{◌≡◌, ◌∙◌, ℕ, List, Option, Some, None, ap, sym}
use Rattle.kx_pages.specs.Bytes.{Mem}
use Rattle.segments.specs.inner.Rules.{IsBare}
use Rattle.segments.specs.Values.{SegmentValue, want}
use Rattle.segments.proofs.Laws.{AreSegments-from_IsBare, want-from_Has}
use Rattle.purgatory_link.specs.declared.region_test.RegionTest.TheVariants.{Same}
use Rattle.purgatory_link.specs.RegionTest.{test}
use Rattle.purgatory_link.specs.inner.Tie.{HasWanted}
use Rattle.load_states.specs.Ready.{Told}
use Rattle.load_states.specs.States.{Checked}
use Rattle.kexec_words.specs.declared.commands.Runs.{Runs}
use Rattle.kexec_words.specs.declared.commands.Runs.TheVariants.{Once, Twice}
use Rattle.kexec_plan.specs.Finish.{HasTableApart}
use Rattle.kexec_plan.specs.Requests.{Plan}
use Rattle.kexec_plan.proofs.Regions.{same_where_planned}
use Rattle.kexec_plan.proofs.Bare.{planned_bare}
use Rattle.load_commands.specs.Inputs.{LoadInputs}
use Rattle.load_commands.specs.Loading.{IsLoaded}
use Rattle.command_parts.specs.Runs.{Arrives, IsOnce, Leaves, after_runs, wish_of}
use Rattle.load_commands.proofs.Leaving.{leaves_of}

-- one run leaves each page of the segments what it is to have
pub arrives : (runs : Option Runs) (c : Checked) (N : Mem) → IsOnce runs → Leaves runs c N → Arrives c N
arrives None c N once h = h.0
arrives (Some Once) c N once h = h
arrives (Some Twice) c N once h = absurd once

-- which is that each has what is wanted
pub has_wanted_of : (ss : List SegmentValue) (N : Mem) → IsBare ss → ((q : ℕ) (bytes : List ℕ) → want ss q ≡ Some bytes → N q ≡ bytes) → HasWanted N ss
has_wanted_of ss N bare h = λ q has.
    let w = want-from_Has ss q (AreSegments-from_IsBare ss bare).placed has in
    w.1 ∙ ap Some (sym (h q w.0 w.1))

pub proves_itself : (runs : Option Runs) (i : LoadInputs) (p : Plan) (c : Checked) → IsLoaded (wish_of runs) i p c.load → Told c.load c.words c.links c.pairs
    → HasTableApart p → IsOnce runs → test (after_runs runs c) p.regions p.digest ≡ Same
proves_itself runs i p c l told apart once =
    let N = after_runs runs c in
    let there = arrives runs c N once (leaves_of runs i p c l told) in
    same_where_planned i.request i.map p N l.planned apart
    (has_wanted_of p.segments N (planned_bare i.request i.map p l.planned)
    (λ q bytes e. there q bytes (ap (λ ss. want ss q) l.laid.segments ∙ e)))
