-- Steps and runs, one after the other, in the loaded memory.
use Rattle.std.proofs.Common.{◌≡◌, ◌∙◌, ◌+◌, ◌^◌, ℕ, zero, suc, false, cond, true, refl, ap, arith, drop, None, Ok, Err}
use Rattle.std.specs.FinMap.{insert}
use Rattle.byteorder.specs.Endian.{little_number}
use Rattle.std.specs.Prelude.{nat_le}
use Rattle.kx_pages.specs.declared.image.Mode.TheVariants.{Plain}
use Rattle.page_memory.specs.Contents.{Contents, at, copy_page}
use Rattle.page_memory.specs.Memory.{word}
use Rattle.relocate_machine.specs.declared.step.Step.TheVariants as steps
use Rattle.relocate_machine.specs.declared.step.Outcome.{Outcome}
use Rattle.relocate_machine.specs.declared.step.Outcome.TheVariants.{Done, Running, Off}
use Rattle.relocate_machine.specs.Machine.{State, kind_of, start_at, step_by, step_of}
use Rattle.relocate_machine.specs.Run.{run_after, run_from, run_of}
use Rattle.worked_commands.specs.Memories.{abc_page, loaded, loaded_pages, memory_with, pages_of, run_pages}
use Rattle.worked_commands.proofs.Memories.{has_list, loaded_source, other_page}

-- a state past the head
abbrev pub standing : Contents → ℕ → ℕ → State
standing m cursor destination = record { machine = record { first = None; cursor = cursor; destination = destination; ended = false; mode = Plain }; memory = m }

-- a step reads its word in the memory as it is now
reads : (m : Contents) (cursor destination w : ℕ) → nat_le (2 ^ 46) cursor ≡ false → word (at m) cursor ≡ w
    → step_of (standing m cursor destination) ≡ step_by (standing m cursor destination) (Ok w)
unfolding step_of
reads m cursor destination w near e =
    ap (λ b. step_by (standing m cursor destination) (cond b (Err cursor) (Ok (word (at m) cursor)))) near
    ∙ ap (λ v. step_by (standing m cursor destination) (Ok v)) e

-- a step that goes on, the last step, a step that cannot be taken, and no step
goes : (n k : ℕ) (s t : State) (r : State × Outcome) → step_of s ≡ (t, steps.Went) → run_from n (k + 1) t ≡ r → run_from (suc n) k s ≡ r
unfolding run_from
goes n k s t r e h = ap (run_after k (λ t. run_from n (k + 1) t)) e ∙ h

ends : (n k : ℕ) (s t : State) → step_of s ≡ (t, steps.Ended) → run_from (suc n) k s ≡ (t, Done (k + 1))
unfolding run_from
ends n k s t e = ap (run_after k (λ t. run_from n (k + 1) t)) e

is_off : (n k a : ℕ) (s t : State) → step_of s ≡ (t, steps.Off a) → run_from (suc n) k s ≡ (t, Off a k)
unfolding run_from
is_off n k a s t e = ap (run_after k (λ t. run_from n (k + 1) t)) e

stops : (k : ℕ) (s : State) → run_from zero k s ≡ (s, Running k)
unfolding run_from
stops k s = refl

-- page 2 becomes what page 12 reads as
copied : copy_page loaded 2 0x12 ≡ memory_with run_pages
copied = ap (λ bytes. record { pages = insert (pages_of loaded_pages) 2 bytes; sets = 0 }) loaded_source

-- the done word stands in the copied memory too
last_word : word (at (copy_page loaded 2 0x12)) 0x11010 ≡ 4
unfolding word
last_word =
    ap (λ (m : Contents). little_number 8 (drop 16 (at m 0x11))) copied
    ∙ ap (λ page. little_number 8 (drop 16 page)) (other_page (2, abc_page) loaded_pages 0x11 (λ e. omega (arith, e)))
    ∙ has_list.1.1.0

first : (n : ℕ) (r : State × Outcome) → run_from n 1 (standing loaded 0x11000 0) ≡ r → run_from (suc n) 0 (start_at loaded 0x11002 Plain) ≡ r
unfolding kind_of step_of
first n r h = goes n 0 _ (standing loaded 0x11000 0) r refl h

second : (n : ℕ) (r : State × Outcome) → run_from n 2 (standing loaded 0x11008 0x2000) ≡ r → run_from (suc n) 1 (standing loaded 0x11000 0) ≡ r
unfolding kind_of
second n r h = goes n 1 _ (standing loaded 0x11008 0x2000) r (reads loaded 0x11000 0 0x2001 refl has_list.0) h

third : (n : ℕ) (r : State × Outcome) → run_from n 3 (standing (copy_page loaded 2 0x12) 0x11010 0x3000) ≡ r → run_from (suc n) 2 (standing loaded 0x11008 0x2000) ≡ r
unfolding kind_of
third n r h = goes n 2 _ (standing (copy_page loaded 2 0x12) 0x11010 0x3000) r (reads loaded 0x11008 0x2000 0x12008 refl has_list.1.0) h

abbrev pub at_end : State
at_end = record { machine = record { first = None; cursor = 0x11018; destination = 0x3000; ended = true; mode = Plain }; memory = copy_page loaded 2 0x12 }

fourth : (n : ℕ) → run_from (suc n) 3 (standing (copy_page loaded 2 0x12) 0x11010 0x3000) ≡ (at_end, Done 4)
unfolding kind_of
fourth n = ends n 3 _ at_end (reads (copy_page loaded 2 0x12) 0x11010 0x3000 4 refl last_word)

-- the whole run with five steps to spare or with none, two steps of it, and a run that leaves memory
pub whole : run_of loaded 0x11002 Plain 9 ≡ (at_end, Done 4)
whole = first 8 _ (second 7 _ (third 6 _ (fourth 5)))

pub just_whole : run_of loaded 0x11002 Plain 4 ≡ (at_end, Done 4)
just_whole = first 3 _ (second 2 _ (third 1 _ (fourth 0)))

pub two_steps : run_of loaded 0x11002 Plain 2 ≡ (standing loaded 0x11008 0x2000, Running 2)
two_steps = first 1 _ (second 0 _ (stops 2 (standing loaded 0x11008 0x2000)))

pub leaves : (m : Contents) → run_of m 0x4000_0000_0002 Plain 9 ≡ (standing m 0x4000_0000_0000 0, Off 0x4000_0000_0000 1)
unfolding kind_of step_of
leaves m = goes 8 0 _ (standing m 0x4000_0000_0000 0) _ refl (is_off 7 1 0x4000_0000_0000 _ (standing m 0x4000_0000_0000 0) refl)

-- the memory at the end is that of the run
pub end_is : at at_end.memory ≡ at (memory_with run_pages)
end_is = ap at copied
