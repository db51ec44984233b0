-- Runs of `exec` of which all is so but one field.
use Rattle.std.proofs.Common.{◌≡◌, ◌≢◌, ◌∙◌, ℕ, List, [], ◌∷◌, Option, Some, None, refl, sym, ap, subst}
use Rattle.std.specs.FinMap.{empty}
use Rattle.std.specs.Fmt.{digits}
use Rattle.std.specs.List.{AllByRecursion}
use Rattle.std.specs.Prelude.{codes}
use Rattle.kx_pages.specs.declared.image.Mode.TheVariants as modes
use Rattle.kx_pages.specs.declared.item.Item.TheVariants.{Done}
use Rattle.page_memory.specs.Contents.{Contents, at}
use Rattle.segments.specs.Values.{SegmentValue, want}
use Rattle.segments.specs.inner.Rules.{IsBare}
use Rattle.relocate_machine.specs.Machine.{kind_of, step_of}
use Rattle.relocate_machine.specs.Run.{run_from}
use Rattle.list_checker.specs.Walk.{pairs}
use Rattle.list_checker.proofs.Unique.{walk_same}
use Rattle.load_record.specs.File.{Record}
use Rattle.load_states.specs.Ready.{Told}
use Rattle.load_states.specs.Runs.{EndsAfter}
use Rattle.load_states.specs.States.{Checked, Load}
use Rattle.load_states.proofs.Ready.{list_ends}
use Rattle.kexec_words.specs.Values.{ExecValue}
use Rattle.list_commands.specs.Exec.{load_of, runs_asked}
use Rattle.list_commands.specs.Records.{list_files}
use Rattle.command_parts.specs.Runs.{EndsAgain, Leaves, MachineLeaves, after_runs}
use Rattle.command_parts.proofs.Ending.{ends_again, machine_leaves}
use Rattle.list_commands.proofs.Executes.{runs_fit}
use Rattle.command_parts.proofs.Leaving.{leaves_by}
use Rattle.worked_commands.specs.Drawn.{found}
use Rattle.worked_commands.specs.Execs.{ran_text}
use Rattle.worked_commands.specs.Inputs.{three_bytes}
use Rattle.worked_commands.specs.Lists.{one_move, plain_record}
use Rattle.worked_commands.specs.Memories.{abc_page, loaded, loaded_file, run_file}
use Rattle.worked_commands.specs.Wrong.{ExecNeeds, ExecsTo, control_found, control_record, nothing_found, text_of_exec, with_x}
use Rattle.worked_commands.proofs.FoundLoad.{ends, is_memory, leaves, runs, told}
use Rattle.worked_commands.proofs.Lists.{walk_is}
use Rattle.worked_commands.proofs.Memories.{has_list, loaded_is, nothing_at_2, wanted}
use Rattle.worked_commands.proofs.OneOutput.{is_put, is_said, no_empty_file, not_zeros, one_memory, put_is, put_something, said_is}

-- ---- what follows from an accepted list
module _ (e : ExecValue) (m : Contents) (r : Record) (c : Checked) (is : c.load ≡ load_of (list_files m r)) (t : Told c.load c.words c.links c.pairs) where
  mode : c.load.image.mode ≡ r.image.mode
  mode = ap (λ (l : Load). l.image.mode) is

  pub leaves_follow : Leaves (runs_asked e.twice (list_files m r)) c (after_runs (runs_asked e.twice (list_files m r)) c)
  leaves_follow = leaves_by (runs_asked e.twice (list_files m r)) c r.image.mode mode (runs_fit e.twice r.image.mode) t

  module _ (plain : IsBare r.segments) where
    bare : IsBare c.load.segments
    bare = rw (ap (λ (l : Load). l.segments) is) plain

    pub end_follows : EndsAfter c.load c.words
    end_follows = list_ends c.load c.words c.links c.pairs bare t

    pub again_follows : EndsAgain (runs_asked e.twice (list_files m r)) c
    again_follows = ends_again (runs_asked e.twice (list_files m r)) c r.image.mode mode (runs_fit e.twice r.image.mode) bare t

    pub runs_follow : MachineLeaves (runs_asked e.twice (list_files m r)) c
    runs_follow = machine_leaves (runs_asked e.twice (list_files m r)) c r.image.mode mode (runs_fit e.twice r.image.mode) bare t

-- ---- the list that moves page 12 to page 2
says : text_of_exec plain_record found ≡ ran_text
unfolding digits
says = refl

pub right : ExecsTo plain_record (with_x run_file) ran_text
right = record {
  checked = found;
  of_files = refl;
  accepted = told;
  ends = ends;
  ends_again = tt;
  runs = runs;
  leaves = leaves;
  output = run_file;
  is_memory = is_memory;
  put = is_put (codes "x") run_file;
  said = rw says (is_said ran_text);
}

-- the done word alone is accepted for no segments
nothing_wanted : (p : ℕ) (bytes : List ℕ) → want [] p ≡ Some bytes → ⊥
nothing_wanted p bytes e = let f : ◌≡◌ {A = Option (List ℕ)} None (Some bytes) = e in cc

nothing_told : Told nothing_found.load 1 0 []
nothing_told = record {
  items = Done 0 ∷ [];
  accepted = record {
    walk = (refl, refl);
    once = tt;
    destination_first = tt;
    in_order = tt;
    whole = λ p bytes e. absurd (nothing_wanted p bytes e);
    right_bytes = tt;
    links_unwritten = tt;
    control_apart = (tt, tt);
  };
  count = refl;
  link_pages = refl;
  same_pairs = refl;
}

-- and the machine is done at the head
nothing_ends : EndsAfter nothing_found.load 1
unfolding run_from step_of kind_of
nothing_ends = refl

nothing_runs : MachineLeaves None nothing_found
unfolding run_from step_of kind_of
nothing_runs = λ q. refl

wanted_by : (ss : List SegmentValue) → ss ≡ three_bytes → want ss 2 ≡ Some abc_page
wanted_by ss e = ap (λ ss. want ss 2) e ∙ wanted

pub without_of_files : ExecNeeds 0 plain_record nothing_found loaded_file (with_x loaded_file) (text_of_exec plain_record nothing_found)
without_of_files = (
  (
    nothing_told,
    (
      nothing_ends,
      (
        tt,
        (
          nothing_runs,
          (
            leaves_by None nothing_found modes.Plain refl tt nothing_told,
            (loaded_is, (is_put (codes "x") loaded_file, (is_said (text_of_exec plain_record nothing_found), tt))),
          ),
        ),
      ),
    ),
  ),
  λ h.
      let file = put_is (codes "x") h.output loaded_file h.put in
      let same = one_memory (after_runs None h.checked) (at loaded) loaded_file (rw (sym file) h.is_memory) loaded_is in
      let there = h.leaves.0 2 abc_page (wanted_by h.checked.load.segments (ap (λ (l : Load). l.segments) h.of_files)) in
      not_zeros (sym nothing_at_2 ∙ sym (same 2) ∙ there),
)

-- the control page is the list's source
apart_not : (l : Load) (words links : ℕ) (qs : List (ℕ × ℕ)) → l ≡ load_of (list_files loaded control_record) → Told l words links qs → ⊥
apart_not l words links qs is t =
    let k : Told (load_of (list_files loaded control_record)) words links qs = subst (λ l. Told l words links qs) is t in
    let same = walk_same (at loaded) 0x11002 k.items one_move k.accepted.walk (walk_is (at loaded) has_list) in
    let apart : AllByRecursion (λ q. (q.0 ≢ 0x12) × (q.1 ≢ 0x12)) (pairs one_move) = subst (λ is. AllByRecursion (λ q. (q.0 ≢ 0x12) × (q.1 ≢ 0x12)) (pairs is)) same k.accepted.control_apart.1 in
    apart.0.1 refl

pub without_accepted : ExecNeeds 1 control_record control_found run_file (with_x run_file) (text_of_exec control_record control_found)
without_accepted = (
  (refl, (ends, (tt, (runs, (leaves, (is_memory, (is_put (codes "x") run_file, (is_said (text_of_exec control_record control_found), tt)))))))),
  λ h. apart_not h.checked.load h.checked.words h.checked.links h.checked.pairs h.of_files h.accepted,
)

pub without_is_memory : ExecNeeds 6 plain_record found [] (with_x []) ran_text
without_is_memory = (
  (refl, (told, (ends, (tt, (runs, (leaves, (is_put (codes "x") [], (rw says (is_said ran_text), tt)))))))),
  λ h. no_empty_file (after_runs None h.checked) (rw (sym (put_is (codes "x") h.output [] h.put)) h.is_memory),
)

pub without_put : ExecNeeds 7 plain_record found run_file empty ran_text
without_put = (
  (refl, (told, (ends, (tt, (runs, (leaves, (is_memory, (rw says (is_said ran_text), tt)))))))),
  λ h. put_something (codes "x") h.output h.put,
)

-- each run is told
not_silent : (c : Checked) → [] ≡ text_of_exec plain_record c → ⊥
not_silent c e = cc

pub without_said : ExecNeeds 8 plain_record found run_file (with_x run_file) []
without_said = (
  (refl, (told, (ends, (tt, (runs, (leaves, (is_memory, (is_put (codes "x") run_file, tt)))))))),
  λ h. not_silent h.checked (said_is (text_of_exec plain_record h.checked) [] h.said),
)
