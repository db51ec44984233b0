-- Pages added, line by line.
use Rattle.std.proofs.Common.{◌≡◌, ℕ, suc, ◌+◌, ◌≤◌, ◌<◌, List, [], ◌∷◌, ◌++◌, refl, sym, ap, ◌∙◌, arith, length, length-append, Ok, Err, inl, inr, take, drop, drop-cons, true, false, Some, None, Bool, cond}
use Rattle.std.specs.Prelude.{◌⊎◌, nat_eq, if◌then◌else◌, is_some, get_or}
use Rattle.std.specs.List.{range_with_len, list_any}
use Rattle.std.specs.BTreeMap as tree
use Rattle.std.specs.Ordering.{nat_cmp}
use Rattle.std.proofs.lemmas.List.{take_more}
use Rattle.std.proofs.lemmas.List.FromFn.{length-range_with_len}
use Rattle.page_pool.specs.Repeats.{first_repeat}
use Rattle.page_pool.specs.inner.Marks.{AreMarks}
use Rattle.page_pool.specs.File.{pages_onto, line_onto}
use Rattle.page_pool.specs.declared.fault.PoolFault.{PoolFault}
use Rattle.page_pool.specs.declared.fault.PoolFault.TheVariants as faults

pub onto_ok : (n : ℕ) (pages more line : List ℕ) (ls rest : List (List ℕ)) → ls ≡ line ∷ rest → line_onto n pages line ≡ Ok more → pages_onto n pages ls ≡ pages_onto (n + 1) more rest
unfolding pages_onto
onto_ok n pages more line ls rest split step = rw (split, step) refl

pub onto_fails : (n : ℕ) (pages line : List ℕ) (ls rest : List (List ℕ)) (e : PoolFault) → ls ≡ line ∷ rest → (line_onto n pages line ≡ Err e) ⊎ (e ≡ faults.Memory) → (pages_onto n pages ls ≡ Err e) ⊎ (e ≡ faults.Memory)
unfolding pages_onto
onto_fails n pages line ls rest e split (inl step) = inl (rw (split, step) refl)
onto_fails n pages line ls rest e split (inr memory) = inr memory

pub onto_end : (n : ℕ) (pages : List ℕ) (ls : List (List ℕ)) → ls ≡ [] → pages_onto n pages ls ≡ Ok pages
unfolding pages_onto
onto_end n pages ls none = rw none refl

pub few_added : (old new : List ℕ) (a n : ℕ) → new ≡ old ++ range_with_len a n → length old + n ≤ 262144 → length new ≤ 262144
few_added old new a n h few = omega (arith, ap length h, length-append old (range_with_len a n), length-range_with_len a n)

some_of : (b : Bool) → is_some (cond b (Some false) None) ≡ b
some_of true = refl
some_of false = refl

pub repeat_step : (xs : List ℕ) (i k : ℕ) (m : tree.BTreeMap ℕ Bool) (b : Bool) → i < length xs → k ≡ get_or xs i k → AreMarks (take i xs) m → b ≡ is_some (tree.get nat_cmp m k) → first_repeat (take i xs) (drop i xs) ≡ (if b then Some k else first_repeat (take (i + 1) xs) (drop (i + 1) xs))
repeat_step xs i k m b h is marks e =
    let any : list_any (nat_eq k) (take i xs) ≡ b = sym (e ∙ ap is_some (marks.each k) ∙ some_of _) in
    let front : take (i + 1) xs ≡ take i xs ++ k ∷ [] = take_more xs i k h ∙ ap (λ (y : ℕ). take i xs ++ y ∷ []) (sym is) in
    let plus : i + 1 ≡ suc i = omega arith in
    let back : drop i xs ≡ k ∷ drop (i + 1) xs = drop-cons xs i k h ∙ ap (λ (y : ℕ). y ∷ drop (suc i) xs) (sym is) ∙ ap (λ (j : ℕ). k ∷ drop j xs) (sym plus) in
    rw (back, front, any) refl
