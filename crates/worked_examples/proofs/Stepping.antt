-- Steps and runs, one after the other.
use Rattle.std.proofs.Common.{◌≡◌, ◌+◌, ◌^◌, ℕ, zero, suc, false, cond, refl, ap, ◌∙◌, None, Ok, Err}
use Rattle.std.specs.Prelude.{nat_le}
use Rattle.kx_pages.specs.declared.image.Mode.{Mode}
use Rattle.page_memory.specs.Contents.{Contents, at}
use Rattle.kx_pages.specs.Bytes.{Mem}
use Rattle.page_memory.specs.Memory.{word}
use Rattle.page_memory.specs.inner.Memory.{copied_page}
use Rattle.page_memory.proofs.Laws.{at-with_page}
use Rattle.relocate_machine.specs.declared.step.Step.TheVariants as steps
use Rattle.relocate_machine.specs.declared.step.Outcome.{Outcome}
use Rattle.relocate_machine.specs.declared.step.Outcome.TheVariants.{Done, Running, Off}
use Rattle.relocate_machine.specs.Machine.{State, step_by, step_of}
use Rattle.page_memory.specs.Contents.{copy_page}
use Rattle.relocate_machine.specs.Run.{run_from, run_after, run_of}
use Rattle.worked_examples.specs.Runs.{ComesOut}

-- a state past the head
abbrev pub standing : Mode → Contents → ℕ → ℕ → State
standing mode m cursor destination = record { machine = record { first = None; cursor = cursor; destination = destination; ended = false; mode = mode }; memory = m }

-- a step reads its word in the memory as it is now
pub reads : (mode : Mode) (m : Contents) (N : Mem) (cursor destination w : ℕ) → at m ≡ N → nat_le (2 ^ 46) cursor ≡ false → word N cursor ≡ w
    → step_of (standing mode m cursor destination) ≡ step_by (standing mode m cursor destination) (Ok w)
unfolding step_of
reads mode m N cursor destination w is near e =
    ap (λ b. step_by (standing mode m cursor destination) (cond b (Err cursor) (Ok (word (at m) cursor)))) near
    ∙ ap (λ v. step_by (standing mode m cursor destination) (Ok v)) (ap (λ K. word K cursor) is ∙ e)

-- a step that goes on, the last step, a step that cannot be taken, and no step
pub goes : (n k : ℕ) (s t : State) (r : State × Outcome) → step_of s ≡ (t, steps.Went) → run_from n (k + 1) t ≡ r → run_from (suc n) k s ≡ r
unfolding run_from
goes n k s t r e h = ap (run_after k (λ t. run_from n (k + 1) t)) e ∙ h

pub ends : (n k : ℕ) (s t : State) → step_of s ≡ (t, steps.Ended) → run_from (suc n) k s ≡ (t, Done (k + 1))
unfolding run_from
ends n k s t e = ap (run_after k (λ t. run_from n (k + 1) t)) e

pub is_off : (n k a : ℕ) (s t : State) → step_of s ≡ (t, steps.Off a) → run_from (suc n) k s ≡ (t, Off a k)
unfolding run_from
is_off n k a s t e = ap (run_after k (λ t. run_from n (k + 1) t)) e

pub stops : (k : ℕ) (s : State) → run_from zero k s ≡ (s, Running k)
unfolding run_from
stops k s = refl

-- a page that was copied
pub at-copied : (m : Contents) (N : Mem) (d s : ℕ) → at m ≡ N → at (copy_page m d s) ≡ copied_page N s d
at-copied m N d s e = at-with_page m d (at m s) ∙ ap (λ K. copied_page K s d) e

pub comes_out : (m : Contents) (head : ℕ) (mode : Mode) (limit : ℕ) (how : Outcome) (left : Mem) (t : State) → run_of m head mode limit ≡ (t, how) → at t.memory ≡ left → ComesOut m head mode limit how left
comes_out m head mode limit how left t run is = record { outcome = ap (λ r. r.1) run; memory = ap (λ r. at r.0.memory) run ∙ is }
