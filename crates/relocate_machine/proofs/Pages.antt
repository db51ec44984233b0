-- Which pages steps write, and which are held after them.
use Rattle.std.proofs.Common.{◌≡◌, ℕ, zero, suc, ◌+◌, ◌/◌, ◌^◌, Bool, true, false, cond, refl, sym, ap, ◌∙◌, subst, Ok, Err, Result, Some, None, inl, inr, ⊎_elim}
use Rattle.std.specs.Prelude.{◌⊎◌, nat_le}
use Rattle.kx_laws.proofs.Options.{some_same, none_some}
use Rattle.kx_pages.specs.declared.image.Mode.{Mode}
use Rattle.kx_pages.specs.declared.image.Mode.TheVariants.{Plain, Kept}
use Rattle.page_memory.specs.Contents.{Contents, at, copy_page}
use Rattle.page_memory.specs.inner.Contents.{IsHeld}
use Rattle.page_memory.proofs.Laws.{get-insert_other, held-insert, held-insert_same, held-insert_only}
use Rattle.relocate_machine.specs.declared.step.Step.{Step}
use Rattle.relocate_machine.specs.declared.step.Step.TheVariants as steps
use Rattle.relocate_machine.specs.declared.step.Writes.{Writes}
use Rattle.relocate_machine.specs.declared.word.WordKind.{WordKind}
use Rattle.relocate_machine.specs.declared.word.WordKind.TheVariants as kinds
use Rattle.relocate_machine.specs.Machine.{State, Registers, after_move, after_word, kind_of, next_word, past_word, step_by, step_of, word_address}
use Rattle.relocate_machine.specs.inner.Writes.{IsSameBut, IsWritten, move_writes, no_writes, word_writes, writes_by, writes_of}
use Rattle.relocate_machine.specs.Run.{run_after, run_from}
use Rattle.relocate_machine.specs.inner.Run.{HoldsWritten, WritesAfter, WritesWithin}
use Rattle.relocate_machine.proofs.Held.{writes_of-source}
use Rattle.relocate_machine.proofs.Stays.{run_from-stays}

-- n is m with these pages written
pub record Wrote (w : Writes) (m n : Contents) : Type 0 where
  pub others : IsSameBut w m n
  pub only : (q : ℕ) → IsHeld n q → IsHeld m q ⊎ IsWritten w q
  pub written : (q : ℕ) → IsWritten w q → IsHeld n q

wrote_nothing : (m : Contents) → Wrote no_writes m m
wrote_nothing m = record { others = λ q off. refl; only = λ q h. inl h; written = nothing }
  where
    nothing : (q : ℕ) → IsWritten no_writes q → IsHeld m q
    nothing q (inl e) = absurd (none_some None q refl e)
    nothing q (inr (inl e)) = absurd (none_some None q refl e)
    nothing q (inr (inr e)) = absurd (none_some None q refl e)

wrote_move : (mode : Mode) (m : Contents) (d s : ℕ) → Wrote (move_writes mode d s) m (after_move mode m d s)
wrote_move Plain m d s = record {
  others = λ q off. get-insert_other m.pages d (at m s) q (λ e. off (inl (ap Some (sym e))));
  only = λ q h. ⊎_elim inl (λ e. inr (inl (ap Some (sym e)))) (held-insert_only m.pages d (at m s) q h);
  written = written;
}
  where
    written : (q : ℕ) → IsWritten (move_writes Plain d s) q → IsHeld (copy_page m d s) q
    written q (inl e) = subst (IsHeld (copy_page m d s)) (some_same d q e) (held-insert_same m.pages d (at m s))
    written q (inr (inl e)) = absurd (none_some None q refl e)
    written q (inr (inr e)) = absurd (none_some None q refl e)
wrote_move (Kept w) m d s =
    let m1 = copy_page m w s in
    let m2 = copy_page m1 s d in
    record {
      others = λ q off. get-insert_other m2.pages d (at m2 w) q (λ e. off (inl (ap Some (sym e))))
          ∙ get-insert_other m1.pages s (at m1 d) q (λ e. off (inr (inl (ap Some (sym e)))))
          ∙ get-insert_other m.pages w (at m s) q (λ e. off (inr (inr (ap Some (sym e)))));
      only = λ q h. ⊎_elim
          (λ h2. ⊎_elim
          (λ h1. ⊎_elim inl (λ e. inr (inr (inr (ap Some (sym e))))) (held-insert_only m.pages w (at m s) q h1))
          (λ e. inr (inr (inl (ap Some (sym e))))) (held-insert_only m1.pages s (at m1 d) q h2))
          (λ e. inr (inl (ap Some (sym e)))) (held-insert_only m2.pages d (at m2 w) q h);
      written = written;
    }
  where
    last : Contents
    last = after_move (Kept w) m d s

    written : (q : ℕ) → IsWritten (move_writes (Kept w) d s) q → IsHeld last q
    written q (inl e) = subst (IsHeld last) (some_same d q e) (held-insert_same (copy_page (copy_page m w s) s d).pages d (at (copy_page (copy_page m w s) s d) w))
    written q (inr (inl e)) =
        subst (IsHeld last) (some_same s q e)
        (held-insert (copy_page (copy_page m w s) s d).pages d (at (copy_page (copy_page m w s) s d) w) s (held-insert_same (copy_page m w s).pages s (at (copy_page m w s) d)))
    written q (inr (inr e)) =
        subst (IsHeld last) (some_same w q e)
        (held-insert (copy_page (copy_page m w s) s d).pages d (at (copy_page (copy_page m w s) s d) w) w
        (held-insert (copy_page m w s).pages s (at (copy_page m w s) d) w (held-insert_same m.pages w (at m s))))

source_wrote : (s : State) (r : Registers) (a : ℕ) (far far_to : Bool)
    → Wrote (cond far no_writes (cond far_to no_writes (move_writes s.machine.mode (s.machine.destination / 4096) (a / 4096)))) s.memory
    (cond {A = State × Step} far (s, steps.Off a) (cond far_to (s, steps.Off s.machine.destination) (record { machine = r; memory = after_move s.machine.mode s.memory (s.machine.destination / 4096) (a / 4096) }, steps.Went))).0.memory
source_wrote s r a true far_to = wrote_nothing s.memory
source_wrote s r a false true = wrote_nothing s.memory
source_wrote s r a false false = wrote_move s.machine.mode s.memory (s.machine.destination / 4096) (a / 4096)

word_wrote : (s : State) (r : Registers) (k : WordKind) (a : ℕ) → Wrote (word_writes s.machine k a) s.memory (after_word s r k a).0.memory
word_wrote s r kinds.Destination a = wrote_nothing s.memory
word_wrote s r kinds.Link a = wrote_nothing s.memory
word_wrote s r kinds.Done a = wrote_nothing s.memory
word_wrote s r kinds.Source a =
    source_wrote s (record r { destination = s.machine.destination + 4096 }) a (nat_le (2 ^ 46) a) (nat_le (2 ^ 46) s.machine.destination)
word_wrote s r kinds.Nothing a = wrote_nothing s.memory

fetch_wrote : (s : State) (w : Result ℕ ℕ) → Wrote (writes_by s.machine w) s.memory (step_by s w).0.memory
fetch_wrote s (Ok w) = word_wrote s (past_word s.machine.first s.machine) (kind_of w) (word_address w)
fetch_wrote s (Err a) = wrote_nothing s.memory

-- a step writes what `writes_of` tells
pub step_of-wrote : (s : State) → Wrote (writes_of s) s.memory (step_of s).0.memory
unfolding step_of writes_of
step_of-wrote s = fetch_wrote s (next_word s.machine.first s.machine.cursor s.memory)

-- the same of a source word, as the step handles it
pub source_others : (s : State) (w a : ℕ) (p : State × Step) → Ok w ≡ next_word s.machine.first s.machine.cursor s.memory → kinds.Source ≡ kind_of w
    → a ≡ word_address w → p ≡ after_word s (past_word s.machine.first s.machine) kinds.Source a → IsSameBut (writes_of s) s.memory p.0.memory
source_others s w a p f k e g =
    subst (λ x. IsSameBut x s.memory p.0.memory) (sym (writes_of-source s w f k))
    (subst (λ a. IsSameBut (word_writes s.machine kinds.Source a) s.memory p.0.memory) e
    (subst (λ p. IsSameBut (word_writes s.machine kinds.Source a) s.memory p.0.memory) (sym g)
    (word_wrote s (past_word s.machine.first s.machine) kinds.Source a).others))

-- what is held after a run was held before it, or a step wrote it
after_only : (n k q : ℕ) (p : State × Step)
    → ((t : State) → IsHeld (run_from n (k + 1) t).0.memory q → IsHeld t.memory q ⊎ WritesWithin n t q)
    → IsHeld (run_after k (λ t. run_from n (k + 1) t) p).0.memory q → IsHeld p.0.memory q ⊎ WritesAfter (λ t. WritesWithin n t q) p
after_only n k q (t, steps.Went) next h = next t h
after_only n k q (t, steps.Ended) next h = inl h
after_only n k q (t, steps.Off a) next h = inl h

run_from-only : (n k : ℕ) (s : State) (q : ℕ) → IsHeld (run_from n k s).0.memory q → IsHeld s.memory q ⊎ WritesWithin n s q
unfolding run_from WritesWithin
run_from-only zero k s q h = inl h
run_from-only (suc n) k s q h =
    ⊎_elim (λ now. ⊎_elim inl (λ w. inr (inl w)) ((step_of-wrote s).only q now)) (λ later. inr (inr later))
    (after_only n k q (step_of s) (λ t. run_from-only n (k + 1) t q) h)

after_written : (n k q : ℕ) (p : State × Step) → ((t : State) → WritesWithin n t q → IsHeld (run_from n (k + 1) t).0.memory q)
    → WritesAfter (λ t. WritesWithin n t q) p → IsHeld (run_after k (λ t. run_from n (k + 1) t) p).0.memory q
after_written n k q (t, steps.Went) next h = next t h
after_written n k q (t, steps.Ended) next h = absurd h
after_written n k q (t, steps.Off a) next h = absurd h

after_held : (n k q : ℕ) (p : State × Step) → IsHeld p.0.memory q → IsHeld (run_after k (λ t. run_from n (k + 1) t) p).0.memory q
after_held n k q (t, steps.Went) h = (run_from-stays n (k + 1) t).held q h
after_held n k q (t, steps.Ended) h = h
after_held n k q (t, steps.Off a) h = h

run_from-written : (n k : ℕ) (s : State) (q : ℕ) → WritesWithin n s q → IsHeld (run_from n k s).0.memory q
unfolding run_from WritesWithin
run_from-written zero k s q h = absurd h
run_from-written (suc n) k s q h =
    ⊎_elim (λ now. after_held n k q (step_of s) ((step_of-wrote s).written q now))
    (λ later. after_written n k q (step_of s) (λ t. run_from-written n (k + 1) t q) later) h

pub holds_written : (n : ℕ) (s : State) (m : Contents) → m ≡ (run_from n 0 s).0.memory → HoldsWritten n s m
holds_written n s m e q = (
  λ h. run_from-only n 0 s q (subst (λ m. IsHeld m q) e h),
  λ w. subst (λ m. IsHeld m q) (sym e) (⊎_elim (λ h. (run_from-stays n 0 s).held q h) (λ x. run_from-written n 0 s q x) w),
)
