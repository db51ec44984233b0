-- Boots of which all is so but one field.
use Rattle.std.proofs.Common.{◌≡◌, ◌∙◌, ℕ, List, [], Option, Some, None, refl, sym, ap, arith, inl, inr}
use Rattle.std.specs.FinMap.{empty}
use Rattle.std.specs.Fmt.{digits}
use Rattle.std.specs.Prelude.{codes}
use Rattle.kx_pages.specs.declared.image.Mode.TheVariants as modes
use Rattle.page_memory.specs.Contents.{at}
use Rattle.segments.specs.Values.{SegmentValue, want}
use Rattle.segments.specs.inner.Rules.{IsBare}
use Rattle.relocate_machine.specs.Machine.{kind_of, step_of}
use Rattle.relocate_machine.specs.Run.{run_from}
use Rattle.load_states.specs.States.{Checked, swap_of}
use Rattle.kimage_list.specs.Laying.{mode_with}
use Rattle.kexec_plan.specs.Finish.{HasTableApart}
use Rattle.kexec_plan.specs.Requests.{Plan}
use Rattle.kexec_plan.proofs.Bare.{planned_bare}
use Rattle.kexec_plan.proofs.Regions.{same_where_planned}
use Rattle.kexec_words.specs.declared.commands.Runs.{Runs}
use Rattle.purgatory_link.specs.declared.region_test.RegionTest.TheVariants.{Same}
use Rattle.purgatory_link.specs.RegionTest.{test}
use Rattle.load_commands.specs.Inputs.{LoadInputs}
use Rattle.load_commands.specs.NormalLoad.{NormalLoad}
use Rattle.command_parts.specs.Runs.{EndsAgain, IsOnce, Leaves, MachineLeaves, after_runs, run_text, wish_of}
use Rattle.load_commands.specs.Startup.{planned_startup}
use Rattle.command_parts.proofs.Ending.{ends_again, machine_leaves}
use Rattle.command_parts.proofs.Leaving.{has_mode, leaves_by}
use Rattle.load_commands.proofs.Proving.{arrives, has_wanted_of}
use Rattle.worked_commands.specs.Drawn.{found}
use Rattle.worked_commands.specs.Inputs.{no_pages_file, three_bytes}
use Rattle.worked_commands.specs.Loads.{boot_text, few_plan, nothing_loaded}
use Rattle.worked_commands.specs.Memories.{abc_page, run_file}
use Rattle.worked_commands.specs.Texts.{no_memory}
use Rattle.worked_commands.specs.Wrong.{BootNeeds, BootsTo, nothing_text, with_o}
use Rattle.worked_commands.proofs.DrawnLoads.{nothing_told}
use Rattle.worked_commands.proofs.FoundLoad.{few_load, is_memory, leaves, runs}
use Rattle.worked_commands.proofs.Loads.{one_plan}
use Rattle.worked_commands.proofs.Memories.{no_page, no_pages_are, wanted}
use Rattle.worked_commands.proofs.OneOutput.{is_put, is_said, no_empty_file, not_zeros, one_memory, put_is, put_something, said_is}

-- ---- what follows from a load
module _ (asked : Option Runs) (i : LoadInputs) (p : Plan) (c : Checked) (l : NormalLoad (wish_of asked) i p c) where
  bare : IsBare c.load.segments
  bare = rw l.segments (planned_bare i.request i.map p l.planned)

  pub again_follows : EndsAgain asked c
  again_follows = ends_again asked c (mode_with (wish_of asked) (swap_of c.load)) l.mode (has_mode asked (swap_of c.load)) bare l.accepted

  pub runs_follow : MachineLeaves asked c
  runs_follow = machine_leaves asked c (mode_with (wish_of asked) (swap_of c.load)) l.mode (has_mode asked (swap_of c.load)) bare l.accepted

  pub leaves_follow : Leaves asked c (after_runs asked c)
  leaves_follow = leaves_by asked c (mode_with (wish_of asked) (swap_of c.load)) l.mode (has_mode asked (swap_of c.load)) l.accepted

  pub proof_follows : HasTableApart p → IsOnce asked → test (after_runs asked c) p.regions p.digest ≡ Same
  proof_follows apart once =
      let there = arrives asked c (after_runs asked c) once leaves_follow in
      same_where_planned i.request i.map p (after_runs asked c) l.planned apart
      (has_wanted_of p.segments (after_runs asked c) (planned_bare i.request i.map p l.planned)
      (λ q bytes e. there q bytes (ap (λ ss. want ss q) l.segments ∙ e)))

-- ---- the kernel `abc`
-- it has no purgatory
no_table : HasTableApart few_plan → ⊥
no_table (inl h) = omega (arith, h)
no_table (inr h) = omega (arith, h)

says : run_text None found (planned_startup few_plan) ≡ boot_text
unfolding digits
says = refl

abbrev Finds : Checked → Type 0
Finds c = HasTableApart few_plan → IsOnce None → test (after_runs None c) few_plan.regions few_plan.digest ≡ Same

finds : (c : Checked) → Finds c
finds c = λ apart once. absurd (no_table apart)

pub right : BootsTo (with_o run_file) boot_text
right = record {
  planned = few_plan;
  checked = found;
  load = few_load;
  ends_again = tt;
  runs = runs;
  leaves = leaves;
  proves_itself = finds found;
  output = run_file;
  is_memory = is_memory;
  put = is_put (codes "o") run_file;
  said = rw says (is_said boot_text);
}

-- nothing was loaded: the machine is done at the head
nothing_runs : MachineLeaves None nothing_loaded
unfolding run_from step_of kind_of
nothing_runs = λ q. refl

wanted_by : (ss : List SegmentValue) → ss ≡ three_bytes → want ss 2 ≡ Some abc_page
wanted_by ss e = ap (λ ss. want ss 2) e ∙ wanted

page_2_arrives : (now : List ℕ) (text : List ℕ) (h : BootsTo (with_o now) text) → after_runs None h.checked 2 ≡ abc_page
page_2_arrives now text h =
    h.leaves.0 2 abc_page (wanted_by h.checked.load.segments (h.load.segments ∙ ap (λ (p : Plan). p.segments) (one_plan h.planned h.load.planned)))

pub without_load : BootNeeds 0 nothing_loaded no_pages_file (with_o no_pages_file) nothing_text
without_load = (
  (
    tt,
    (
      nothing_runs,
      (
        leaves_by None nothing_loaded modes.Plain refl tt nothing_told,
        (finds nothing_loaded, (no_pages_are, (is_put (codes "o") no_pages_file, (is_said nothing_text, tt)))),
      ),
    ),
  ),
  λ h.
      let file = put_is (codes "o") h.output no_pages_file h.put in
      let same = one_memory (after_runs None h.checked) (at no_memory) no_pages_file (rw (sym file) h.is_memory) no_pages_are in
      not_zeros (sym (no_page 2) ∙ sym (same 2) ∙ page_2_arrives no_pages_file nothing_text h),
)

pub without_is_memory : BootNeeds 5 found [] (with_o []) boot_text
without_is_memory = (
  (few_load, (tt, (runs, (leaves, (finds found, (is_put (codes "o") [], (rw says (is_said boot_text), tt))))))),
  λ h. no_empty_file (after_runs None h.checked) (rw (sym (put_is (codes "o") h.output [] h.put)) h.is_memory),
)

pub without_put : BootNeeds 6 found run_file empty boot_text
without_put = (
  (few_load, (tt, (runs, (leaves, (finds found, (is_memory, (rw says (is_said boot_text), tt))))))),
  λ h. put_something (codes "o") h.output h.put,
)

-- each run is told
not_silent : (c : Checked) (p : Plan) → [] ≡ run_text None c (planned_startup p) → ⊥
not_silent c p e = cc

pub without_said : BootNeeds 7 found run_file (with_o run_file) []
without_said = (
  (few_load, (tt, (runs, (leaves, (finds found, (is_memory, (is_put (codes "o") run_file, tt))))))),
  λ h. not_silent h.checked h.planned (said_is (run_text None h.checked (planned_startup h.planned)) [] h.said),
)
