-- Steps whose words only read.
use Rattle.std.proofs.Common.{◌≡◌, ℕ, zero, suc, ◌+◌, ◌/◌, ◌%◌, ◌^◌, ◌<◌, Bool, true, false, cond, refl, sym, ap, ◌∙◌, subst, Option, Some, None, Ok, Err, List, arith}
use Rattle.std.specs.Prelude.{nat_le, ◌==◌, is_some, IfSome}
use Rattle.std.proofs.lemmas.Bool.Decides.{nat_tests}
use Rattle.page_memory.specs.Contents.{Contents, at}
use Rattle.page_memory.specs.Memory.{word}
use Rattle.page_memory.proofs.Laws.{word-same_page}
use Rattle.relocate_machine.specs.declared.reading.Place.{Place}
use Rattle.relocate_machine.specs.declared.step.Step.{Step}
use Rattle.relocate_machine.specs.declared.step.Step.TheVariants as steps
use Rattle.relocate_machine.specs.declared.step.Outcome.TheVariants as outcomes
use Rattle.relocate_machine.specs.declared.word.WordKind.{WordKind}
use Rattle.relocate_machine.specs.declared.word.WordKind.TheVariants as kinds
use Rattle.relocate_machine.specs.Machine.{State, after_word, kind_of, next_word, past_word, step_by, step_of, word_address}
use Rattle.relocate_machine.specs.inner.Reading.{GoesOn, IsIn, IsRead, place_past, standing}
use Rattle.relocate_machine.specs.Run.{run_after, run_from}
use Rattle.relocate_machine.specs.inner.Run.{HeldAfter, HeldFrom}
use Rattle.relocate_machine.proofs.More.{run_from-more}
use Rattle.relocate_machine.proofs.Runs.{run_from-none, run_from-went, step_of-runs}

-- steps that went on, one after the other
pub goes_none : (s : State) → GoesOn 0 s s
goes_none s k = run_from-none 0 k s refl ∙ ap (λ n. (s, outcomes.Running n)) (let e : k ≡ k + 0 = omega arith in e)

pub goes_more : (n : ℕ) (s t u : State) → GoesOn n s t → (u, steps.Went) ≡ step_of t → GoesOn (n + 1) s u
goes_more n s t u h is k =
    let e : k + n + 1 ≡ k + (n + 1) = omega arith in
    run_from-more n 1 k (k + n) s t (h k)
    ∙ run_from-went 1 0 (k + n) t u refl is
    ∙ run_from-none 0 (k + n + 1) u refl
    ∙ ap (λ j. (u, outcomes.Running j)) e

pub runs_on : (k n : ℕ) (s0 s t : State) → run_from k 0 s0 ≡ (s, outcomes.Running k) → GoesOn n s t
    → run_from (k + n) 0 s0 ≡ (t, outcomes.Running (k + n))
runs_on k n s0 s t h g =
    let z : 0 + k ≡ k = omega arith in
    run_from-more k n 0 k s0 s h ∙ ap (λ j. run_from n j s) z ∙ g k

-- they did not end the run
went_runs : (n k x : ℕ) (s t : State) (p : State × Step) → p ≡ step_of s
    → run_after k (λ u. run_from n (k + 1) u) p ≡ (t, outcomes.Running x)
    → ((u : State) → run_from n (k + 1) u ≡ (t, outcomes.Running x) → t.machine.ended ≡ u.machine.ended)
    → t.machine.ended ≡ s.machine.ended
went_runs n k x s t (u, steps.Went) is h next = next u h ∙ step_of-runs s u is
went_runs n k x s t (u, steps.Ended) is h next = let e : outcomes.Done (k + 1) ≡ outcomes.Running x = ap (λ r. r.1) h in absurd (cc)
went_runs n k x s t (u, steps.Off a) is h next = let e : outcomes.Off a k ≡ outcomes.Running x = ap (λ r. r.1) h in absurd (cc)

running : (n k x : ℕ) (s t : State) → run_from n k s ≡ (t, outcomes.Running x) → t.machine.ended ≡ s.machine.ended
unfolding run_from
running zero k x s t h = ap (λ r. r.0.machine.ended) (sym h)
running (suc n) k x s t h = went_runs n k x s t (step_of s) refl h (λ u e. running n (k + 1) x u t e)

pub goes-runs : (n : ℕ) (s t : State) → GoesOn n s t → t.machine.ended ≡ s.machine.ended
goes-runs n s t g = running n 0 (0 + n) s t (g 0)

-- and what later steps write is held where all of it was
went_held : (n r k x : ℕ) (t : State) (p : State × Step)
    → run_after k (λ u. run_from n (k + 1) u) p ≡ (t, outcomes.Running x)
    → HeldAfter (λ u. HeldFrom (n + r) u) p
    → ((u : State) → run_from n (k + 1) u ≡ (t, outcomes.Running x) → HeldFrom (n + r) u → HeldFrom r t)
    → HeldFrom r t
went_held n r k x t (u, steps.Went) h held next = next u h held
went_held n r k x t (u, steps.Ended) h held next = let e : outcomes.Done (k + 1) ≡ outcomes.Running x = ap (λ r. r.1) h in absurd (cc)
went_held n r k x t (u, steps.Off a) h held next = let e : outcomes.Off a k ≡ outcomes.Running x = ap (λ r. r.1) h in absurd (cc)

still_held : (n r k x : ℕ) (s t : State) → run_from n k s ≡ (t, outcomes.Running x) → HeldFrom (n + r) s → HeldFrom r t
unfolding run_from HeldFrom
still_held zero r k x s t h held =
    let e : zero + r ≡ r = omega arith in
    subst (λ u. HeldFrom r u) (ap (λ p. p.0) h) (subst (λ m. HeldFrom m s) e held)
still_held (suc n) r k x s t h held =
    let e : suc n + r ≡ suc (n + r) = omega arith in
    let all : HeldFrom (suc (n + r)) s = subst (λ m. HeldFrom m s) e held in
    went_held n r k x t (step_of s) h all.1 (λ u f g. still_held n r (k + 1) x u t f g)

pub HeldFrom-goes : (n r : ℕ) (s t : State) → GoesOn n s t → HeldFrom (n + r) s → HeldFrom r t
HeldFrom-goes n r s t g held = still_held n r 0 (0 + n) s t (g 0) held

-- a step whose word only reads
link_past : (s : State) (p q : Place) (a : ℕ) (here : Bool)
    → cond {A = Option Place} here (Some (record { cursor = a; destination = p.destination })) None ≡ Some q
    → ◌≡◌ {A = State × Step} (standing s (record { cursor = a; destination = p.destination }), steps.Went) (standing s q, steps.Went)
link_past s p q a true is = let e : record { cursor = a; destination = p.destination } ≡ q = (cc) in ap (λ q. (standing s q, steps.Went)) e
link_past s p q a false is = absurd (cc)

word_past : (s : State) (start : ℕ) (p q : Place) (k : WordKind) (a : ℕ) → place_past start p k a ≡ Some q
    → after_word (standing s p) (past_word None (standing s p).machine) k a ≡ (standing s q, steps.Went)
word_past s start p q kinds.Destination a is =
    let e : record { cursor = p.cursor + 8; destination = a } ≡ q = (cc) in ap (λ q. (standing s q, steps.Went)) e
word_past s start p q kinds.Link a is = link_past s p q a (a == start) is
word_past s start p q kinds.Nothing a is =
    let e : record { cursor = p.cursor + 8; destination = p.destination } ≡ q = (cc) in ap (λ q. (standing s q, steps.Went)) e
word_past s start p q kinds.Done a is = absurd (cc)
word_past s start p q kinds.Source a is = absurd (cc)

-- the word at a place of a page
pub next_word-in : (first : Option ℕ) (cursor : ℕ) (m : Contents) (page : List ℕ) → first ≡ None → cursor < 2 ^ 46
    → at m (cursor / 4096) ≡ page → next_word first cursor m ≡ Ok (word (λ q. page) cursor)
next_word-in first cursor m page e near is =
    let inside : nat_le (2 ^ 46) cursor ≡ false = grind (arith, nat_tests) in
    ap (λ f. next_word f cursor m) e
    ∙ ap (λ b. cond b (Err cursor) (Ok (word (at m) cursor))) inside
    ∙ ap Ok (word-same_page (at m) (λ q. page) cursor is)

read_step : (s : State) (page : List ℕ) (start : ℕ) (p q : Place) → s.machine.first ≡ None → at s.memory (p.cursor / 4096) ≡ page
    → p.cursor < 2 ^ 46 → place_past start p (kind_of (word (λ q. page) p.cursor)) (word_address (word (λ q. page) p.cursor)) ≡ Some q
    → (standing s q, steps.Went) ≡ step_of (standing s p)
unfolding step_of
read_step s page start p q first is near past =
    let w = word (λ q. page) p.cursor in
    sym
    (ap (step_by (standing s p)) (next_word-in s.machine.first p.cursor s.memory page first near is)
    ∙ ap (λ f. after_word (standing s p) (past_word f (standing s p).machine) (kind_of w) (word_address w)) first
    ∙ word_past s start p q (kind_of w) (word_address w) past)

-- one more word of the page that was read
pub read_more : (page : List ℕ) (n start w : ℕ) (p q r : Place) → IsRead page n p q → q.cursor / 4096 ≡ p.cursor / 4096
    → q.cursor < 2 ^ 46 → w ≡ word (λ q. page) q.cursor → place_past start q (kind_of w) (word_address w) ≡ Some r
    → IsRead page (n + 1) p r
read_more page n start w p q r h here near is past s first bytes =
    let past_it = subst (λ w. place_past start q (kind_of w) (word_address w) ≡ Some r) is past in
    goes_more n (standing s p) (standing s q) (standing s r) (h s first bytes)
    (read_step s page start q r first (ap (at s.memory) here ∙ bytes) near past_it)

pub read_none : (page : List ℕ) (p : Place) → IsRead page 0 p p
read_none page p s first bytes = goes_none (standing s p)

-- where it leads to
link_in : (a to : ℕ) (p q : Place) (here : Bool) → (here ≡ true → to ≡ word_address a) → IsIn a p
    → cond {A = Option Place} here (Some (record { cursor = to; destination = p.destination })) None ≡ Some q → IsIn a q
link_in a to p q true same h is =
    let e : record { cursor = to; destination = p.destination } ≡ q = (cc) in
    let start : to ≡ word_address a = same refl in
    let there : IsIn a (record { cursor = to; destination = p.destination }) =
    record { low = omega (arith, start); high = omega (arith, start); aligned = omega (arith, start); destination = h.destination } in
    subst (IsIn a) e there
link_in a to p q false same h is = absurd (cc)

goes_in : (a to : ℕ) (p q : Place) → to % 4096 ≡ 0 → IsIn a p → p.cursor < word_address a + 4096
    → record { cursor = p.cursor + 8; destination = to } ≡ q → IsIn a q
goes_in a to p q page h inside e =
    let low = h.low in
    let aligned = h.aligned in
    let there : IsIn a (record { cursor = p.cursor + 8; destination = to }) =
    record { low = omega arith; high = omega arith; aligned = omega arith; destination = page } in
    subst (IsIn a) e there

kind_in : (a w : ℕ) (p q : Place) (k : WordKind) → IsIn a p → p.cursor < word_address a + 4096
    → place_past (word_address a) p k (word_address w) ≡ Some q → IsIn a q
kind_in a w p q kinds.Destination h inside is = goes_in a (word_address w) p q (omega arith) h inside (cc)
kind_in a w p q kinds.Link h inside is =
    link_in a (word_address w) p q (word_address w == word_address a) (λ e. grind (arith, nat_tests)) h is
kind_in a w p q kinds.Nothing h inside is = goes_in a p.destination p q h.destination h inside (cc)
kind_in a w p q kinds.Done h inside is = absurd (cc)
kind_in a w p q kinds.Source h inside is = absurd (cc)

pub in_past : (a w : ℕ) (p q : Place) → IsIn a p → p.cursor < word_address a + 4096
    → place_past (word_address a) p (kind_of w) (word_address w) ≡ Some q → IsIn a q
in_past a w p q h inside is = kind_in a w p q (kind_of w) h inside is

-- the word at which the reading of a page stopped
pub stopped_at : (first : Option ℕ) (m : Contents) (page : List ℕ) (a w : ℕ) (q : Place) → first ≡ None → at m (a / 4096) ≡ page
    → a < 2 ^ 46 → IsIn a q → q.cursor < word_address a + 4096 → w ≡ word (λ q. page) q.cursor → Ok w ≡ next_word first q.cursor m
stopped_at first m page a w q none bytes near place inside is =
    let low = place.low in
    let here : q.cursor / 4096 ≡ a / 4096 = omega arith in
    ap Ok is ∙ sym (next_word-in first q.cursor m page none (omega arith) (ap (at m) here ∙ bytes))

pub is_none : (o : Option ℕ) → is_some o ≡ false → o ≡ None
is_none None e = refl
is_none (Some x) e = absurd (cc)

pub if_some-more : {T : Type 0} {B C : T → Type 0} (o : Option T) → IfSome o B → ((x : T) → o ≡ Some x → B x → C x) → IfSome o C
if_some-more None h f = tt
if_some-more (Some x) h f = f x refl h

pub at_some : {T : Type 0} (B : T → Type 0) (o : Option T) (x : T) → o ≡ Some x → IfSome o B → B x
at_some B o x e h = subst (λ o. IfSome o B) e h
