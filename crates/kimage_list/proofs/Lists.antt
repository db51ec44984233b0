-- Pages that are set.
use Rattle.std.proofs.Common.{◌≡◌, ℕ, suc, ◌≤◌, List, [], ◌∷◌, ◌++◌, length, refl, sym, ap, ◌∙◌, ⊎_elim, arith, drop}
use Rattle.std.specs.List.{AllByRecursion}
use Rattle.std.specs.Prelude.{◌≢◌, map, eqb, true}
use Rattle.std.proofs.lemmas.Bool.Decides.{eqb_tells}
use Rattle.kx_pages.specs.Lists.{count, sources}
use Rattle.kx_pages.proofs.Lists.{Each-both}
use Rattle.kx_pages.proofs.Counting.{Each-from_no_count}
use Rattle.page_memory.proofs.Laws.{put-apart, put-same}
use Rattle.kx_pages.specs.declared.item.Item.{Item}
use Rattle.kx_pages.specs.Bytes.{Mem, Wants}
use Rattle.kimage_list.specs.Load.{Entry, Start, Move}
use Rattle.kimage_list.specs.Laying.{items, link_pages, source_pages, put_all}
use Rattle.kimage_list.specs.inner.Laying.{Holds}

pub eqb-self : (x : ℕ) → eqb x x ≡ true
eqb-self x = ⊎_elim (λ t. t.0) (λ t. absurd (t.1 refl)) (eqb_tells x x)

-- the pages set are read back
abbrev pub keys : List (ℕ × List ℕ) → List ℕ
keys xs = map (λ x. x.0) xs

other_keys : (x : ℕ × List ℕ) (xs : List (ℕ × List ℕ)) → AllByRecursion (λ y. y ≢ x.0) (keys xs) → AllByRecursion (λ y. x.0 ≢ y.0) xs
other_keys x [] h = tt
other_keys x (y ∷ xs) h = ((λ e. h.0 (sym e)), other_keys x xs h.1)

pub holds_all : (M : Mem) (xs : List (ℕ × List ℕ)) → ((x : ℕ) → count x (keys xs) ≤ 1) → Holds (put_all M xs) xs
holds_all M [] h = tt
holds_all M (x ∷ xs) h =
    let z : count x.0 (keys xs) ≡ 0 = grind (arith, h x.0) in
    let ih = holds_all M xs (λ y. omega (arith, h y)) in
    (put-same (put_all M xs) x.0 x.1, Each-both xs (λ y n e. put-apart (put_all M xs) x.0 y.0 x.1 n ∙ e) (other_keys x xs (Each-from_no_count x.0 (keys xs) z)) ih)

pub put_all_other : (M : Mem) (xs : List (ℕ × List ℕ)) (p : ℕ) → count p (keys xs) ≡ 0 → put_all M xs p ≡ M p
put_all_other M [] p h = refl
put_all_other M (x ∷ xs) p h =
    let n : x.0 ≢ p = λ e. grind (arith, h, e) in
    put-apart (put_all M xs) x.0 p x.1 n ∙ put_all_other M xs p (omega (arith, h))

pub keys-append : (xs ys : List (ℕ × List ℕ)) → keys (xs ++ ys) ≡ keys xs ++ keys ys
keys-append [] ys = refl
keys-append (x ∷ xs) ys = ap (λ zs. x.0 ∷ zs) (keys-append xs ys)

pub keys-link_pages : (ls : List ℕ) (is : List Item) → keys (link_pages ls is) ≡ ls
keys-link_pages [] is = refl
keys-link_pages (l ∷ ls) is = ap (λ zs. l ∷ zs) (keys-link_pages ls (drop 511 is))

pub keys-source_pages : (W : Wants) (qs : List (ℕ × ℕ)) → keys (source_pages W qs) ≡ sources qs
keys-source_pages W [] = refl
keys-source_pages W (q ∷ qs) = ap (λ zs. q.1 ∷ zs) (keys-source_pages W qs)

pub length-items : (es : List Entry) (qs : List (ℕ × ℕ)) → length (items es qs) ≤ length es
length-items [] qs = omega arith
length-items (Start p ∷ es) qs = omega (arith, length-items es qs)
length-items (Move p ∷ es) [] = omega (arith, length-items es [])
length-items (Move p ∷ es) (q ∷ qs) = omega (arith, length-items es qs)

pub heads_same : {A : Type 0} (xs ys : List A) (x y : A) → x ∷ xs ≡ y ∷ ys → (x ≡ y) × (xs ≡ ys)
heads_same xs ys x y e = (cc, cc)

pub nil_cons : {A : Type 0} {x : A} {xs : List A} → x ∷ xs ≡ [] → ⊥
nil_cons {xs = xs} e = let n : suc (length xs) ≡ 0 = ap length e in omega (arith, n)
