-- What steps leave of the number of sets and of the pages that are held.
use Rattle.std.proofs.Common.{◌≡◌, ℕ, zero, suc, ◌+◌, ◌/◌, ◌^◌, Bool, true, false, cond, refl, ◌∙◌, ap, subst, sym, Ok, Err, Result}
use Rattle.std.specs.Prelude.{nat_le}
use Rattle.kx_pages.specs.declared.image.Mode.{Mode}
use Rattle.kx_pages.specs.declared.image.Mode.TheVariants.{Plain, Kept}
use Rattle.page_memory.specs.Contents.{Contents, at, copy_page}
use Rattle.page_memory.proofs.Laws.{held-insert}
use Rattle.relocate_machine.specs.declared.step.Step.{Step}
use Rattle.relocate_machine.specs.declared.step.Step.TheVariants as steps
use Rattle.relocate_machine.specs.declared.step.Outcome.{Outcome}
use Rattle.relocate_machine.specs.declared.word.WordKind.{WordKind}
use Rattle.relocate_machine.specs.declared.word.WordKind.TheVariants as kinds
use Rattle.relocate_machine.specs.Machine.{State, Registers, after_move, after_word, step_by, next_word, past_word, kind_of, word_address, step_of}
use Rattle.relocate_machine.specs.inner.Writes.{Stays}
use Rattle.relocate_machine.specs.Run.{run_from, run_after}

pub stays_same : (m : Contents) → Stays m m
stays_same m = record { sets = refl; held = λ q h. h }

pub stays_then : (l m n : Contents) → Stays l m → Stays m n → Stays l n
stays_then l m n h k = record { sets = k.sets ∙ h.sets; held = λ q x. k.held q (h.held q x) }

stays_copied : (m : Contents) (d s : ℕ) → Stays m (copy_page m d s)
stays_copied m d s = record { sets = refl; held = held-insert m.pages d (at m s) }

stays_moved : (mode : Mode) (m : Contents) (d s : ℕ) → Stays m (after_move mode m d s)
stays_moved Plain m d s = stays_copied m d s
stays_moved (Kept w) m d s =
    let one = copy_page m w s in
    let two = copy_page one s d in
    stays_then m one (copy_page two d w) (stays_copied m w s) (stays_then one two (copy_page two d w) (stays_copied one s d) (stays_copied two d w))

source_stays : (s : State) (r : Registers) (a : ℕ) (far far_to : Bool) → Stays s.memory (cond {A = State × Step} far (s, steps.Off a) (cond far_to (s, steps.Off s.machine.destination) (record { machine = r; memory = after_move s.machine.mode s.memory (s.machine.destination / 4096) (a / 4096) }, steps.Went))).0.memory
source_stays s r a true far_to = stays_same s.memory
source_stays s r a false true = stays_same s.memory
source_stays s r a false false = stays_moved s.machine.mode s.memory (s.machine.destination / 4096) (a / 4096)

handled_stays : (s : State) (r : Registers) (k : WordKind) (a : ℕ) → Stays s.memory (after_word s r k a).0.memory
handled_stays s r kinds.Destination a = stays_same s.memory
handled_stays s r kinds.Link a = stays_same s.memory
handled_stays s r kinds.Done a = stays_same s.memory
handled_stays s r kinds.Source a = source_stays s (record r { destination = s.machine.destination + 4096 }) a (nat_le (2 ^ 46) a) (nat_le (2 ^ 46) s.machine.destination)
handled_stays s r kinds.Nothing a = stays_same s.memory

taken_stays : (s : State) (w : Result ℕ ℕ) → Stays s.memory (step_by s w).0.memory
taken_stays s (Ok w) = handled_stays s (past_word s.machine.first s.machine) (kind_of w) (word_address w)
taken_stays s (Err a) = stays_same s.memory

pub step_of-stays : (s : State) → Stays s.memory (step_of s).0.memory
unfolding step_of
step_of-stays s = taken_stays s (next_word s.machine.first s.machine.cursor s.memory)

after_stays : (m : Contents) (k : ℕ) (rest : State → State × Outcome) (p : State × Step) → Stays m p.0.memory → ((t : State) → Stays t.memory (rest t).0.memory) → Stays m (run_after k rest p).0.memory
after_stays m k rest (t, steps.Went) h next = stays_then m t.memory (rest t).0.memory h (next t)
after_stays m k rest (t, steps.Ended) h next = h
after_stays m k rest (t, steps.Off a) h next = h

pub run_from-stays : (n k : ℕ) (s : State) → Stays s.memory (run_from n k s).0.memory
unfolding run_from
run_from-stays zero k s = stays_same s.memory
run_from-stays (suc n) k s = after_stays s.memory k (λ t. run_from n (k + 1) t) (step_of s) (step_of-stays s) (λ t. run_from-stays n (k + 1) t)

pub stays_as : (m n k : Contents) → k ≡ n → Stays m n → Stays m k
stays_as m n k e h = subst (λ x. Stays m x) (sym e) h

-- what a step left
pub stays_step : (s t : State) (r : Step) → (t, r) ≡ step_of s → Stays s.memory t.memory
stays_step s t r e = stays_as s.memory (step_of s).0.memory t.memory (ap (λ p. p.0.memory) e) (step_of-stays s)
