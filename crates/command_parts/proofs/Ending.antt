-- The runs of accepted lists end.
use Rattle.std.proofs.Common.{◌≡◌, ◌∙◌, ℕ, ◌+◌, ◌^◌, ◌<◌, List, length, Option, Some, None, ap, refl, sym, subst, arith}
use Rattle.std.specs.List.{AllByRecursion}
use Rattle.std.specs.Prelude.{unwrap_or}
use Rattle.kx_pages.specs.Lists.{Has}
use Rattle.kx_pages.specs.Modes.{swap_page}
use Rattle.kx_pages.specs.declared.image.Mode.{Mode}
use Rattle.kx_pages.specs.declared.image.Mode.TheVariants.{Plain, Kept}
use Rattle.kx_pages.proofs.Lists.{Each-map}
use Rattle.page_memory.specs.Contents.{Contents, at}
use Rattle.page_memory.specs.Memory.{Agree}
use Rattle.kx_pages.specs.Bytes.{Mem}
use Rattle.segments.specs.inner.Rules.{IsBare}
use Rattle.segments.specs.Values.{SegmentValue, overlay, want}
use Rattle.segments.proofs.Laws.{AreSegments-from_IsBare, Has-from_want, pages_below}
use Rattle.list_checker.specs.Walk.{Accepted, AcceptedKept, IsAccepted, links, pairs}
use Rattle.relocate_machine.specs.Run.{run_of}
use Rattle.relocate_machine.specs.declared.step.Outcome.TheVariants as outcomes
use Rattle.load_states.specs.Exchange.{exchange}
use Rattle.load_states.specs.Ready.{Told}
use Rattle.load_states.specs.Runs.{EndsAfter}
use Rattle.load_states.specs.States.{Checked, swap_of, with_memory}
use Rattle.load_states.proofs.Bridge.{kept_runs, plain_runs}
use Rattle.load_states.proofs.Exchange.{link_kept}
use Rattle.kexec_words.specs.declared.commands.Runs.{Runs}
use Rattle.kexec_words.specs.declared.commands.Runs.TheVariants.{Once, Twice}
use Rattle.command_parts.specs.Runs.{EndsAgain, MachineLeaves, memory_after}
use Rattle.command_parts.specs.inner.Ran.{HasMode}
use Rattle.command_parts.proofs.Told.{one_memory}

-- a wanted destination is a page
low : (ss : List SegmentValue) (M : Mem) (qs : List (ℕ × ℕ)) → IsBare ss → AllByRecursion (λ q. want ss q.0 ≡ Some (M q.1)) qs → AllByRecursion (λ q. (q.0 < 2 ^ 34) × (⊥ → ⊥)) qs
low ss M qs bare right =
    let a = AreSegments-from_IsBare ss bare in
    Each-map qs (λ q e. (pages_below ss q.0 a.placed (Has-from_want ss q.0 (M q.1) a.placed e), λ n. n)) right

-- what a plain run leaves
plain_leaves : (c : Checked) → c.load.image.mode ≡ Plain → IsBare c.load.segments → Told c.load c.words c.links c.pairs → Agree (memory_after c.load c.words) (overlay (at c.load.memory) (want c.load.segments))
plain_leaves c mode bare t =
    let W = want c.load.segments in
    let plain : Accepted (at c.load.memory) W c.load.image.head c.load.image.control t.items =
    subst (λ mode. IsAccepted (at c.load.memory) W c.load.image.head c.load.image.control (swap_page mode) t.items) mode t.accepted in
    let run = plain_runs ⊥ c.load.memory W c.load.image.head c.load.image.control t.items plain
    (Each-map (pairs t.items) (λ q x. (x.0, λ n. absurd n)) (low c.load.segments (at c.load.memory) (pairs t.items) bare plain.right_bytes)) in
    λ p.
    subst (λ mode. at (run_of c.load.memory c.load.image.head mode c.words).0.memory p ≡ overlay (at c.load.memory) W p) (sym mode)
    (subst (λ n. at (run_of c.load.memory c.load.image.head Plain n).0.memory p ≡ overlay (at c.load.memory) W p) t.count (run.leaves p))

-- the machine's runs of a list that is accepted with context preserved
module _ (c : Checked) (swap : ℕ) (mode : c.load.image.mode ≡ Kept swap) (bare : IsBare c.load.segments) (t : Told c.load c.words c.links c.pairs) where
  kept : AcceptedKept (at c.load.memory) (want c.load.segments) c.load.image.head c.load.image.control swap t.items
  kept = subst (λ mode. IsAccepted (at c.load.memory) (want c.load.segments) c.load.image.head c.load.image.control (swap_page mode) t.items) mode t.accepted

  its_swap : swap_of c.load ≡ swap
  its_swap = ap (λ mode. unwrap_or (swap_page mode) 0) mode

  -- the first run leaves the list's words as they were
  words_stand : (m : Contents) → Agree (at m) (exchange (at c.load.memory) c.pairs (swap_of c.load)) → (p : ℕ) → Has p (links t.items) → at m p ≡ at c.load.memory p
  words_stand m left p h =
      left p
      ∙ ap (λ qs. exchange (at c.load.memory) qs (swap_of c.load) p) (sym t.same_pairs)
      ∙ ap (λ w. exchange (at c.load.memory) (pairs t.items) w p) its_swap
      ∙ link_kept (at c.load.memory) (want c.load.segments) c.load.image.head c.load.image.control swap t.items kept p h

  -- from a memory in which they stand the run ends, and exchanges the pairs
  kept_run : (m : Contents) → ((p : ℕ) → Has p (links t.items) → at m p ≡ at c.load.memory p)
      → EndsAfter (with_memory c.load m) c.words × Agree (memory_after (with_memory c.load m) c.words) (exchange (at m) c.pairs (swap_of c.load))
  kept_run m stand =
      let run = kept_runs ⊥ (at c.load.memory) m (want c.load.segments) c.load.image.head c.load.image.control swap t.items kept stand
      (Each-map (pairs t.items) (λ q x. (x.0, λ n. absurd n)) (low c.load.segments (at c.load.memory) (pairs t.items) bare kept.plain.right_bytes)) in
      let done : (run_of m c.load.image.head (Kept swap) (length t.items)).1 ≡ outcomes.Done (length t.items) =
      run.out ∙ ap outcomes.Done (let z : 0 + length t.items ≡ length t.items = omega arith in z) in (
        subst (λ mode. (run_of m c.load.image.head mode c.words).1 ≡ outcomes.Done c.words) (sym mode)
            (subst (λ n. (run_of m c.load.image.head (Kept swap) n).1 ≡ outcomes.Done n) t.count done),
        λ p.
            subst (λ mode. at (run_of m c.load.image.head mode c.words).0.memory p ≡ exchange (at m) c.pairs (swap_of c.load) p) (sym mode)
            (subst (λ n. at (run_of m c.load.image.head (Kept swap) n).0.memory p ≡ exchange (at m) c.pairs (swap_of c.load) p) t.count
            (run.leaves p ∙ ap (λ qs. exchange (at m) qs swap p) t.same_pairs ∙ ap (λ w. exchange (at m) c.pairs w p) (sym its_swap))),
      )

  kept_leaves : Agree (memory_after c.load c.words) (exchange (at c.load.memory) c.pairs (swap_of c.load))
  kept_leaves = (kept_run c.load.memory (λ p h. refl)).1

  kept_ends_again : (m : Contents) → Agree (at m) (exchange (at c.load.memory) c.pairs (swap_of c.load)) → EndsAfter (with_memory c.load m) c.words
  kept_ends_again m left = (kept_run m (words_stand m left)).0

  kept_leaves_again : (m : Contents) → Agree (at m) (exchange (at c.load.memory) c.pairs (swap_of c.load))
      → Agree (memory_after (with_memory c.load m) c.words) (exchange (exchange (at c.load.memory) c.pairs (swap_of c.load)) c.pairs (swap_of c.load))
  kept_leaves_again m left = λ p.
      (kept_run m (words_stand m left)).1 p
      ∙ ap (λ N. exchange N c.pairs (swap_of c.load) p) (one_memory (at m) (exchange (at c.load.memory) c.pairs (swap_of c.load)) left)

pub ends_again : (runs : Option Runs) (c : Checked) (mode : Mode) → c.load.image.mode ≡ mode → HasMode runs mode → IsBare c.load.segments → Told c.load c.words c.links c.pairs → EndsAgain runs c
ends_again None c mode e h bare t = tt
ends_again (Some Once) c mode e h bare t = tt
ends_again (Some Twice) c Plain e h bare t = absurd h
ends_again (Some Twice) c (Kept swap) e h bare t = kept_ends_again c swap e bare t

-- the machine leaves what the runs are to leave
pub machine_leaves : (runs : Option Runs) (c : Checked) (mode : Mode) → c.load.image.mode ≡ mode → HasMode runs mode → IsBare c.load.segments → Told c.load c.words c.links c.pairs → MachineLeaves runs c
machine_leaves None c Plain e h bare t = plain_leaves c e bare t
machine_leaves None c (Kept swap) e h bare t = absurd h
machine_leaves (Some runs) c Plain e h bare t = absurd h
machine_leaves (Some Once) c (Kept swap) e h bare t = kept_leaves c swap e bare t
machine_leaves (Some Twice) c (Kept swap) e h bare t = (kept_leaves c swap e bare t, kept_leaves_again c swap e bare t)
