-- The machine of relocate_machine follows an accepted list.
use Rattle.std.proofs.Common.{◌≡◌, ℕ, suc, ◌+◌, ◌*◌, ◌/◌, ◌%◌, ◌^◌, ◌<◌, List, [], ◌∷◌, length, Bool, true, false, cond, None, refl, sym, ap, ◌∙◌, subst, inl, inr, arith}
use Rattle.std.specs.List.{AllByRecursion}
use Rattle.std.specs.Prelude.{◌≢◌, nat_le, bit_and, eqb}
use Rattle.std.proofs.lemmas.Bool.Decides.{nat_tests}
use Rattle.std.proofs.lemmas.Nat.Bits.{and_pow}
use Rattle.kx_pages.specs.declared.image.Mode.{Mode}
use Rattle.kx_pages.specs.declared.image.Mode.TheVariants.{Plain, Kept}
use Rattle.page_memory.specs.Contents.{Contents, at, copy_page}
use Rattle.page_memory.specs.inner.Contents.{IsHeld}
use Rattle.page_memory.proofs.Laws.{frame_at-insert_same, frame_at-insert_other, held-insert, word-same_page}
use Rattle.relocate_machine.specs.declared.step.Step.{Step}
use Rattle.relocate_machine.specs.declared.step.Step.TheVariants as steps
use Rattle.relocate_machine.specs.declared.step.Outcome.TheVariants as outcomes
use Rattle.relocate_machine.specs.declared.word.WordKind.TheVariants as kinds
use Rattle.relocate_machine.specs.Machine.{State, after_move, kind_of, start_at, step_of, word_address}
use Rattle.relocate_machine.specs.inner.Writes.{AreHeld, HoldsWrites, move_writes, writes_of}
use Rattle.relocate_machine.specs.Run.{run_from, run_after}
use Rattle.relocate_machine.specs.inner.Run.{HeldFrom, HeldAfter}
use Rattle.kx_pages.specs.declared.item.Item.{Item}
use Rattle.kx_pages.specs.declared.item.Item.TheVariants.{Link, Destination, Source, Done}
use Rattle.kx_pages.specs.Items.{code}
use Rattle.kx_pages.specs.Lists.{Has}
use Rattle.kx_pages.specs.Bytes.{Mem, Wants}
use Rattle.page_memory.specs.Memory.{word}
use Rattle.page_memory.specs.inner.Memory.{copied_page}
use Rattle.list_checker.specs.Walk.{Reads, Walk, links, pairs_from, pairs, Accepted, AcceptedKept}
use Rattle.segments.specs.Values.{overlay}
use Rattle.load_states.specs.Exchange.{exchange}
use Rattle.load_states.proofs.Moves.{moves, moved_in, moved-apart, moves_alike, copied_alike, lays_over, Spares}
use Rattle.load_states.proofs.Exchange.{exchanges}
use Rattle.kx_pages.proofs.Lists.{Each-both, Each-at}

-- kinds
bit_two : (w : ℕ) → bit_and w 2 ≡ w / 2 % 2 * 2
bit_two w = and_pow w 1

bit_four : (w : ℕ) → bit_and w 4 ≡ w / 4 % 2 * 4
bit_four w = and_pow w 2

bit_eight : (w : ℕ) → bit_and w 8 ≡ w / 8 % 2 * 8
bit_eight w = and_pow w 3

bit_one : (w : ℕ) → bit_and w 1 ≡ w % 2
bit_one w = let h : bit_and w 1 ≡ w / 1 % 2 * 1 = and_pow w 0 in let e : w / 1 % 2 * 1 ≡ w % 2 = omega arith in h ∙ e

kind-destination : (p : ℕ) → kind_of (code (Destination p)) ≡ kinds.Destination
unfolding kind_of
kind-destination p = let a : bit_and (4096 * p + 1) 1 ≡ 1 = omega (arith, bit_one (4096 * p + 1)) in rw a refl

kind-link : (p : ℕ) → kind_of (code (Link p)) ≡ kinds.Link
unfolding kind_of
kind-link p =
    let a : bit_and (4096 * p + 2) 1 ≡ 0 = omega (arith, bit_one (4096 * p + 2)) in
    let b : bit_and (4096 * p + 2) 2 ≡ 2 = omega (arith, bit_two (4096 * p + 2)) in
    rw (a, b) refl

kind-done : (p : ℕ) → kind_of (code (Done p)) ≡ kinds.Done
unfolding kind_of
kind-done p =
    let a : bit_and (4096 * p + 4) 1 ≡ 0 = omega (arith, bit_one (4096 * p + 4)) in
    let b : bit_and (4096 * p + 4) 2 ≡ 0 = omega (arith, bit_two (4096 * p + 4)) in
    let c : bit_and (4096 * p + 4) 4 ≡ 4 = omega (arith, bit_four (4096 * p + 4)) in
    rw (a, b, c) refl

kind-source : (p : ℕ) → kind_of (code (Source p)) ≡ kinds.Source
unfolding kind_of
kind-source p =
    let a : bit_and (4096 * p + 8) 1 ≡ 0 = omega (arith, bit_one (4096 * p + 8)) in
    let b : bit_and (4096 * p + 8) 2 ≡ 0 = omega (arith, bit_two (4096 * p + 8)) in
    let c : bit_and (4096 * p + 8) 4 ≡ 0 = omega (arith, bit_four (4096 * p + 8)) in
    let d : bit_and (4096 * p + 8) 8 ≡ 8 = omega (arith, bit_eight (4096 * p + 8)) in
    rw (a, b, c, d) refl

masked-destination : (p : ℕ) → word_address (code (Destination p)) ≡ 4096 * p
masked-destination p = omega arith

masked-link : (p : ℕ) → word_address (code (Link p)) ≡ 4096 * p
masked-link p = omega arith

masked-source : (p : ℕ) → word_address (code (Source p)) ≡ 4096 * p
masked-source p = omega arith

-- the state before the word at a, where the next destination is page t
abbrev pub state_at : Mode → ℕ → ℕ → Contents → State
state_at mode a t m = record { machine = record { first = None; cursor = a; destination = 4096 * t; ended = false; mode = mode }; memory = m }

no_held : (m : Contents) → AreHeld m (record { destination = None; source = None; swap = None })
no_held m = (tt, tt, tt)

-- What a step does, and that what it writes is held where H is so: the machine's steps are told of any memory, and also of
-- one that holds the pages.
abbrev Steps : Type 0 → State → State × Step → Type 0
Steps H s p = (step_of s ≡ p) × (H → HoldsWrites s)

step-destination : (H : Type 0) (mode : Mode) (a t p : ℕ) (m : Contents) → a / 4096 < 2 ^ 34 → word (at m) a ≡ code (Destination p) → Steps H (state_at mode a t m) (state_at mode (a + 8) p m, steps.Went)
unfolding step_of writes_of
step-destination H mode a t p m l e =
    let near : nat_le (2 ^ 46) a ≡ false = grind (arith, nat_tests) in
    let w : word (at m) a ≡ 4096 * p + 1 = e in
    let k = kind-destination p in
    let x = masked-destination p in
    (rw (near, w, k, x) refl, λ h. rw (near, w, k) (no_held m))

step-link : (H : Type 0) (mode : Mode) (a t p : ℕ) (m : Contents) → a / 4096 < 2 ^ 34 → word (at m) a ≡ code (Link p) → Steps H (state_at mode a t m) (state_at mode (4096 * p) t m, steps.Went)
unfolding step_of writes_of
step-link H mode a t p m l e =
    let near : nat_le (2 ^ 46) a ≡ false = grind (arith, nat_tests) in
    let w : word (at m) a ≡ 4096 * p + 2 = e in
    let k = kind-link p in
    let x = masked-link p in
    (rw (near, w, k, x) refl, λ h. rw (near, w, k) (no_held m))

-- the state after the end
abbrev end_at : Mode → ℕ → ℕ → Contents → State
end_at mode a t m = record { machine = record { first = None; cursor = a; destination = 4096 * t; ended = true; mode = mode }; memory = m }

step-done : (H : Type 0) (mode : Mode) (a t p : ℕ) (m : Contents) → a / 4096 < 2 ^ 34 → word (at m) a ≡ code (Done p) → Steps H (state_at mode a t m) (end_at mode (a + 8) t m, steps.Ended)
unfolding step_of writes_of
step-done H mode a t p m l e =
    let near : nat_le (2 ^ 46) a ≡ false = grind (arith, nat_tests) in
    let w : word (at m) a ≡ 4096 * p + 4 = e in
    let k = kind-done p in
    (rw (near, w, k) refl, λ h. rw (near, w, k) (no_held m))

step-source : (H : Type 0) (mode : Mode) (a t p : ℕ) (m : Contents) → a / 4096 < 2 ^ 34 → p < 2 ^ 34 → t < 2 ^ 34 → (H → AreHeld m (move_writes mode t p)) → word (at m) a ≡ code (Source p) → Steps H (state_at mode a t m) (state_at mode (a + 8) (suc t) (after_move mode m t p), steps.Went)
unfolding step_of writes_of
step-source H mode a t p m l lp lt held e =
    let near : nat_le (2 ^ 46) a ≡ false = grind (arith, nat_tests) in
    let near_p : nat_le (2 ^ 46) (4096 * p) ≡ false = grind (arith, nat_tests) in
    let near_t : nat_le (2 ^ 46) (4096 * t) ≡ false = grind (arith, nat_tests) in
    let w : word (at m) a ≡ 4096 * p + 8 = e in
    let k = kind-source p in
    let x = masked-source p in
    let dp : 4096 * p / 4096 ≡ p = omega arith in
    let dt : 4096 * t / 4096 ≡ t = omega arith in
    let next : 4096 * t + 4096 ≡ 4096 * suc t = omega arith in
    (rw (near, w, k, x, near_p, near_t, dp, dt, next) refl, λ h. rw (near, w, k, x, near_p, near_t, dp, dt) (held h))

-- from s the run ends after exactly n more steps and leaves M; each page that it writes is held, where H is so
pub record Comes (H : Type 0) (n k : ℕ) (s : State) (M : Mem) : Type 0 where
  pub out : (run_from n k s).1 ≡ outcomes.Done (k + n)
  pub leaves : (p : ℕ) → at (run_from n k s).0.memory p ≡ M p
  pub sets : (run_from n k s).0.memory.sets ≡ s.memory.sets
  pub held : H → HeldFrom n s
  pub stay : (q : ℕ) → IsHeld s.memory q → IsHeld (run_from n k s).0.memory q

one_more : (H : Type 0) (n k : ℕ) (s t : State) (M : Mem) → Steps H s (t, steps.Went) → t.memory.sets ≡ s.memory.sets → ((q : ℕ) → IsHeld s.memory q → IsHeld t.memory q) → Comes H n (k + 1) t M → Comes H (suc n) k s M
unfolding run_from HeldFrom
one_more H n k s t M st same stay f =
    let e = ap (run_after k (λ t. run_from n (k + 1) t)) st.0 in
    let count : k + 1 + n ≡ k + suc n = omega arith in
    record {
      out = ap (λ r. r.1) e ∙ f.out ∙ ap outcomes.Done count;
      leaves = λ p. ap (λ r. at r.0.memory p) e ∙ f.leaves p;
      sets = ap (λ r. r.0.memory.sets) e ∙ f.sets ∙ same;
      held = λ h. (st.1 h, subst (HeldAfter (λ t. HeldFrom n t)) (sym st.0) (f.held h));
      stay = λ q h. subst (λ r. IsHeld r.0.memory q) (sym e) (f.stay q (stay q h));
    }

last_one : (H : Type 0) (k : ℕ) (s t : State) → Steps H s (t, steps.Ended) → t.memory ≡ s.memory → Comes H 1 k s (at s.memory)
unfolding run_from HeldFrom
last_one H k s t st same =
    let e = ap (run_after k (λ t. run_from 0 (k + 1) t)) st.0 in
    record {
      out = ap (λ r. r.1) e;
      leaves = λ p. ap (λ r. at r.0.memory p) e ∙ ap (λ m. at m p) same;
      sets = ap (λ r. r.0.memory.sets) e ∙ ap (λ m. m.sets) same;
      held = λ h. (st.1 h, subst (HeldAfter (λ t. HeldFrom 0 t)) (sym st.0) tt);
      stay = λ q h. subst (λ r. IsHeld r.0.memory q) (sym e) (subst (λ m. IsHeld m q) (sym same) h);
    }

-- the same to an alike memory
alike : (H : Type 0) (n k : ℕ) (s : State) (M N : Mem) → ((p : ℕ) → M p ≡ N p) → Comes H n k s M → Comes H n k s N
alike H n k s M N h f = record { out = f.out; leaves = λ p. f.leaves p ∙ h p; sets = f.sets; held = f.held; stay = f.stay }

at_copied : (m : Contents) (d s q : ℕ) → at (copy_page m d s) q ≡ copied_page (at m) s d q
at_copied m d s q = by_test (eqb q d) refl
  where
    by_test : (b : Bool) → eqb q d ≡ b → at (copy_page m d s) q ≡ cond b (at m s) (at m q)
    by_test true e = let same : q ≡ d = grind (arith, nat_tests) in subst (λ q. at (copy_page m d s) q ≡ at m s) (sym same) (frame_at-insert_same m.pages d (at m s))
    by_test false e = let ne : q ≢ d = grind (arith, nat_tests) in frame_at-insert_other m.pages d (at m s) q ne

at_moved : (mode : Mode) (m : Contents) (d s q : ℕ) → at (after_move mode m d s) q ≡ moved_in mode (at m) s d q
at_moved Plain m d s q = at_copied m d s q
at_moved (Kept w) m d s q =
    let m1 = copy_page m w s in
    let m2 = copy_page m1 s d in
    at_copied m2 d w q
    ∙ copied_alike (at m2) (copied_page (at m1) d s) w d (at_copied m1 s d) q
    ∙ copied_alike (copied_page (at m1) d s) (copied_page (copied_page (at m) s w) d s) w d (copied_alike (at m1) (copied_page (at m) s w) d s (at_copied m w s)) q

sets_moved : (mode : Mode) (m : Contents) (d s : ℕ) → (after_move mode m d s).sets ≡ m.sets
sets_moved Plain m d s = refl
sets_moved (Kept w) m d s = refl

stays_moved : (mode : Mode) (m : Contents) (d s q : ℕ) → IsHeld m q → IsHeld (after_move mode m d s) q
stays_moved Plain m d s q h = held-insert m.pages d (at m s) q h
stays_moved (Kept w) m d s q h =
    let m1 = copy_page m w s in
    let m2 = copy_page m1 s d in
    held-insert m2.pages d (at m2 w) q (held-insert m1.pages s (at m1 d) q (held-insert m.pages w (at m s) q h))

still_held : (mode : Mode) (m n : Contents) (d s : ℕ) → ((q : ℕ) → IsHeld m q → IsHeld n q) → AreHeld m (move_writes mode d s) → AreHeld n (move_writes mode d s)
still_held Plain m n d s stay h = (stay d h.0, tt, tt)
still_held (Kept w) m n d s stay h = (stay d h.0, stay s h.1, stay w h.2)

-- what a pair's move needs
abbrev pub Ready : Type 0 → Mode → Contents → (ℕ → Type 0) → ℕ × ℕ → Type 0
Ready H mode m K q = (q.0 < 2 ^ 34) × (H → AreHeld m (move_writes mode q.0 q.1)) × ((p : ℕ) → K p → Spares mode q p)

still_ready : (H : Type 0) (mode : Mode) (m : Contents) (K : ℕ → Type 0) (d s : ℕ) (qs : List (ℕ × ℕ)) → AllByRecursion (Ready H mode m K) qs → AllByRecursion (Ready H mode (after_move mode m d s) K) qs
still_ready H mode m K d s [] h = tt
still_ready H mode m K d s (q ∷ qs) h =
    ((h.0.0, λ x. still_held mode m (after_move mode m d s) q.0 q.1 (stays_moved mode m d s) (h.0.1 x), h.0.2), still_ready H mode m K d s qs h.1)

-- K says which pages hold the list
finishes : (H : Type 0) (mode : Mode) (M₀ : Mem) (K : ℕ → Type 0) (is : List Item) (a t k : ℕ) (m : Contents)
    → a / 4096 < 2 ^ 34 → K (a / 4096)
    → ((p : ℕ) → K p → at m p ≡ M₀ p)
    → ((p : ℕ) → Has p (links is) → K p)
    → AllByRecursion (Ready H mode m K) (pairs_from t is)
    → Reads M₀ a is
    → Comes H (length is) k (state_at mode a t m) (moves mode (at m) (pairs_from t is))
finishes H mode M₀ K [] a t k m la ka same list ready r = absurd r
finishes H mode M₀ K (Done p ∷ is) a t k m la ka same list ready r =
    let w : word (at m) a ≡ code (Done p) = word-same_page (at m) M₀ a (same (a / 4096) ka) ∙ r.0 in
    subst (λ l. Comes H (length (Done p ∷ l)) k (state_at mode a t m) (moves mode (at m) (pairs_from t l))) (sym r.1) (last_one H k (state_at mode a t m) (end_at mode (a + 8) t m) (step-done H mode a t p m la w) refl)
finishes H mode M₀ K (Link p ∷ is) a t k m la ka same list ready r =
    let w : word (at m) a ≡ code (Link p) = word-same_page (at m) M₀ a (same (a / 4096) ka) ∙ r.0 in
    let e : 4096 * p / 4096 ≡ p = omega arith in
    let l' : 4096 * p / 4096 < 2 ^ 34 = rw e r.1 in
    one_more H (length is) k _ _ _ (step-link H mode a t p m la w) refl (λ q h. h)
    (finishes H mode M₀ K is (4096 * p) t (k + 1) m l' (rw e (list p (inl refl))) same (λ q h. list q (inr h)) ready r.2)
finishes H mode M₀ K (Destination p ∷ is) a t k m la ka same list ready r =
    let w : word (at m) a ≡ code (Destination p) = word-same_page (at m) M₀ a (same (a / 4096) ka) ∙ r.0 in
    let e : (a + 8) / 4096 ≡ a / 4096 = omega (arith, r.2) in
    one_more H (length is) k _ _ _ (step-destination H mode a t p m la w) refl (λ q h. h)
    (finishes H mode M₀ K is (a + 8) p (k + 1) m (rw e la) (rw e ka) same list ready r.3)
finishes H mode M₀ K (Source p ∷ is) a t k m la ka same list ready r =
    let w : word (at m) a ≡ code (Source p) = word-same_page (at m) M₀ a (same (a / 4096) ka) ∙ r.0 in
    let e : (a + 8) / 4096 ≡ a / 4096 = omega (arith, r.2) in
    let same' : (q : ℕ) → K q → at (after_move mode m t p) q ≡ M₀ q = λ q h. at_moved mode m t p q ∙ moved-apart mode (at m) (t, p) q (ready.0.2 q h) ∙ same q h in
    one_more H (length is) k _ _ _ (step-source H mode a t p m la r.1 ready.0.0 ready.0.1 w) (sets_moved mode m t p) (stays_moved mode m t p)
    (alike H _ _ _ _ _ (moves_alike mode (at (after_move mode m t p)) (moved_in mode (at m) p t) (pairs_from (suc t) is) (at_moved mode m t p))
    (finishes H mode M₀ K is (a + 8) (suc t) (k + 1) (after_move mode m t p) (rw e la) (rw e ka) same' list (still_ready H mode m K t p (pairs_from (suc t) is) ready.1) r.3))

begin-link : (H : Type 0) (mode : Mode) (p : ℕ) (m : Contents) (head : ℕ) → head ≡ code (Link p) → Steps H (start_at m head mode) (state_at mode (4096 * p) 0 m, steps.Went)
unfolding step_of writes_of
begin-link H mode p m head e =
    let w : head ≡ 4096 * p + 2 = e in
    let k = kind-link p in
    let x = masked-link p in
    (rw (w, k, x) refl, λ h. rw (w, k) (no_held m))

begin-done : (H : Type 0) (mode : Mode) (p : ℕ) (m : Contents) (head : ℕ) → head ≡ code (Done p) → Steps H (start_at m head mode) (end_at mode 0 0 m, steps.Ended)
unfolding step_of writes_of
begin-done H mode p m head e =
    let w : head ≡ 4096 * p + 4 = e in
    let k = kind-done p in
    (rw (w, k) refl, λ h. rw (w, k) (no_held m))

pub finishes_from : (H : Type 0) (mode : Mode) (M₀ : Mem) (m : Contents) (K : ℕ → Type 0) (head : ℕ) (is : List Item)
    → ((p : ℕ) → K p → at m p ≡ M₀ p)
    → ((p : ℕ) → Has p (links is) → K p)
    → AllByRecursion (Ready H mode m K) (pairs_from 0 is)
    → Walk M₀ head is
    → Comes H (length is) 0 (start_at m head mode) (moves mode (at m) (pairs_from 0 is))
finishes_from H mode M₀ m K head [] same list ready r = absurd r
finishes_from H mode M₀ m K head (Destination p ∷ is) same list ready r = absurd r
finishes_from H mode M₀ m K head (Source p ∷ is) same list ready r = absurd r
finishes_from H mode M₀ m K head (Done p ∷ is) same list ready r =
    subst (λ l. Comes H (length (Done p ∷ l)) 0 (start_at m head mode) (moves mode (at m) (pairs_from 0 l))) (sym r.1) (last_one H 0 (start_at m head mode) (end_at mode 0 0 m) (begin-done H mode p m head r.0) refl)
finishes_from H mode M₀ m K head (Link p ∷ is) same list ready r =
    let e : 4096 * p / 4096 ≡ p = omega arith in
    let l' : 4096 * p / 4096 < 2 ^ 34 = rw e r.1 in
    one_more H (length is) 0 _ _ _ (begin-link H mode p m head r.0) refl (λ q h. h)
    (finishes H mode M₀ K is (4096 * p) 0 1 m l' (rw e (list p (inl refl))) same (λ q h. list q (inr h)) ready r.2)

-- the run of a list that is accepted with context preserved, over a memory that has its words
pub kept_runs : (H : Type 0) (M₀ : Mem) (m : Contents) (W : Wants) (head control swap : ℕ) (is : List Item) → AcceptedKept M₀ W head control swap is
    → ((p : ℕ) → Has p (links is) → at m p ≡ M₀ p)
    → AllByRecursion (λ q. (q.0 < 2 ^ 34) × (H → AreHeld m (move_writes (Kept swap) q.0 q.1))) (pairs is)
    → Comes H (length is) 0 (start_at m head (Kept swap)) (exchange (at m) (pairs is) swap)
kept_runs H M₀ m W head control swap is a same held =
    let K : ℕ → Type 0 = λ p. Has p (links is) in
    let one : AllByRecursion (λ q. (p : ℕ) → K p → (q.0 ≢ p) × (q.1 ≢ p)) (pairs is) = Each-both (pairs is) (λ q x y p h. (Each-at (λ l. q.0 ≢ l) (links is) p x h, Each-at (λ l. q.1 ≢ l) (links is) p y h)) a.plain.links_unwritten a.links_no_sources in
    let ready : AllByRecursion (Ready H (Kept swap) m K) (pairs is) = Each-both (pairs is) (λ q x b. (b.0, b.1, λ p h. ((x p h).0, (x p h).1, λ e. Each-at (λ l. l ≢ swap) (links is) p a.swap_apart.1 h (sym e)))) one held in
    alike H _ _ _ _ _ (λ p. exchanges swap (pairs is) (at m) p a.apart a.swap_apart.2) (finishes_from H (Kept swap) M₀ m K head is same (λ p h. h) ready a.plain.walk)

-- the run of a plain list that is accepted
pub plain_runs : (H : Type 0) (m : Contents) (W : Wants) (head control : ℕ) (is : List Item) → Accepted (at m) W head control is
    → AllByRecursion (λ q. (q.0 < 2 ^ 34) × (H → AreHeld m (move_writes Plain q.0 q.1))) (pairs is)
    → Comes H (length is) 0 (start_at m head Plain) (overlay (at m) W)
plain_runs H m W head control is a held =
    let K : ℕ → Type 0 = λ p. Has p (links is) in
    let ready : AllByRecursion (Ready H Plain m K) (pairs is) = Each-both (pairs is) (λ q x b. (b.0, b.1, λ p h. Each-at (λ l. q.0 ≢ l) (links is) p x h)) a.links_unwritten held in
    alike H _ _ _ _ _ (λ p. lays_over (at m) W (pairs is) a.in_order a.whole a.right_bytes p) (finishes_from H Plain (at m) m K head is (λ p h. refl) (λ p h. h) ready a.walk)

-- the run of a list that is a done word alone
pub done_runs : (H : Type 0) (mode : Mode) (m : Contents) (head : ℕ) → head % 4096 ≡ 4 → Comes H 1 0 (start_at m head mode) (at m)
done_runs H mode m head e =
    let p = head / 4096 in
    let w : head ≡ code (Done p) = omega (arith, e) in
    last_one H 0 (start_at m head mode) (end_at mode 0 0 m) (begin-done H mode p m head w) refl

-- and it leaves the memory that it found
pub done_leaves : (mode : Mode) (m : Contents) (head : ℕ) → head % 4096 ≡ 4 → (run_from 1 0 (start_at m head mode)).0.memory ≡ m
unfolding run_from
done_leaves mode m head e =
    let p = head / 4096 in
    let w : head ≡ code (Done p) = omega (arith, e) in
    ap (λ r. r.0.memory) (ap (run_after 0 (λ t. run_from 0 1 t)) (begin-done ⊥ mode p m head w).0)
