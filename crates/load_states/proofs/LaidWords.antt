-- The list that is laid is read as a walk.
use Rattle.std.proofs.Common.{◌≡◌, ℕ, suc, ◌+◌, ◌-◌, ◌*◌, ◌^◌, ◌<◌, ◌≤◌, List, [], ◌∷◌, ◌++◌, length, refl, sym, ap, ◌∙◌, subst, arith, take, drop, append_assoc, length-append}
use Rattle.std.specs.List.{AllByRecursion}
use Rattle.std.specs.Prelude.{map, ◌/◌, ◌%◌, replicate}
use Rattle.std.proofs.Math.Seq.{drop-append_seam}
use Rattle.std.proofs.lemmas.List.{length-take, map-append, length-map}
use Rattle.byteorder.specs.Endian.{little_number, little_bytes}
use Rattle.byteorder.specs.Numbers.{little_number-reads_back}
use Rattle.kx_pages.specs.Bytes.{Mem, page_of}
use Rattle.page_memory.specs.Memory.{word}
use Rattle.kx_pages.specs.Items.{code}
use Rattle.kx_pages.specs.declared.item.Item.{Item}
use Rattle.kx_pages.specs.declared.item.Item.TheVariants.{Link, Destination, Source, Done}
use Rattle.list_checker.specs.Walk.{Reads, Walk}
use Rattle.kimage_list.specs.Laying.{chain, in_bytes, link_pages}
use Rattle.kimage_list.specs.inner.Laying.{Holds}
use Rattle.kimage_list.proofs.Words.{length-in_bytes, page-split}
use Rattle.kx_pages.proofs.Lists.{Each-drop, Each-take}

-- the word after those of xs
at_place : (xs ys : List ℕ) (w : ℕ) → length (xs ++ w ∷ ys) ≤ 512 → w < 2 ^ 64 → little_number 8 (drop (8 * length xs) (page_of (in_bytes (xs ++ w ∷ ys)))) ≡ w
at_place xs ys w l lw =
    let Z : List ℕ = in_bytes ys ++ replicate (4096 - 8 * (length xs + suc (length ys))) 0 in
    ap (λ bs. little_number 8 (drop (8 * length xs) bs)) (page-split xs ys w l)
    ∙ ap (λ n. little_number 8 (drop n (in_bytes xs ++ (little_bytes 8 w ++ Z)))) (sym (length-in_bytes xs))
    ∙ ap (little_number 8) (drop-append_seam (in_bytes xs) (little_bytes 8 w ++ Z))
    ∙ little_number-reads_back 8 w Z lw

-- the same as a word of memory
word_at : (M : Mem) (p a : ℕ) (xs ys : List ℕ) (w : ℕ) → M p ≡ page_of (in_bytes (xs ++ w ∷ ys)) → a ≡ 4096 * p + 8 * length xs → length (xs ++ w ∷ ys) ≤ 512 → w < 2 ^ 64 → word M a ≡ w
unfolding word
word_at M p a xs ys w e at l lw =
    let short : length xs < 512 = omega (arith, length-append xs (w ∷ ys), l) in
    let d : a / 4096 ≡ p = omega (arith, at, short) in
    let m : a % 4096 ≡ 8 * length xs = omega (arith, at, short) in
    ap (λ q. little_number 8 (drop (a % 4096) (M q))) d ∙ ap (λ b. little_number 8 (drop (a % 4096) b)) e ∙ ap (λ n. little_number 8 (drop n (page_of (in_bytes (xs ++ w ∷ ys))))) m ∙ at_place xs ys w l lw

-- a word of a move
abbrev pub IsMove : Item → Type 0
IsMove (Link p) = ⊥
IsMove (Destination p) = p < 2 ^ 34
IsMove (Source p) = p < 2 ^ 34
IsMove (Done p) = ⊥

-- the code of the first item
abbrev pub lead : List Item → ℕ
lead [] = 0
lead (i ∷ is) = code i

-- the word at the place after those of was
word_after : (M : Mem) (l : ℕ) (was : List Item) (i : Item) (rest : List Item)
    → M l ≡ page_of (in_bytes (map code (was ++ i ∷ rest))) → length was + suc (length rest) ≤ 512 → code i < 2 ^ 64
    → word M (4096 * l + 8 * length was) ≡ code i
word_after M l was i rest e n f =
    let split = map-append code was (i ∷ rest) in
    let len : length (map code was) ≡ length was = length-map was code in
    let all : length (map code was ++ code i ∷ map code rest) ≤ 512 =
    omega (arith, length-append (map code was) (code i ∷ map code rest), len, length-map rest code, n) in
    word_at M l (4096 * l + 8 * length was) (map code was) (map code rest) (code i) (e ∙ ap (λ ws. page_of (in_bytes ws)) split) (omega (arith, len)) all f

short_take : (r : List Item) → length (take 1 r) ≤ 1
short_take [] = omega arith
short_take (i ∷ r) = omega arith

-- what the words of one page are: some that were read, some still to be read, and the next link or done word
reads_page : (M : Mem) (l : ℕ) (was todo r : List Item)
    → M l ≡ page_of (in_bytes (map code (was ++ (todo ++ take 1 r))))
    → length was + length todo ≤ 511 → AllByRecursion IsMove todo → lead r < 2 ^ 64 → Walk M (lead r) r
    → Reads M (4096 * l + 8 * length was) (todo ++ r)
reads_page M l was [] [] e n m f w = absurd w
reads_page M l was [] (Destination p ∷ r) e n m f w = absurd w
reads_page M l was [] (Source p ∷ r) e n m f w = absurd w
reads_page M l was [] (Link p ∷ r) e n m f w = (word_after M l was (Link p) [] e (omega (arith, n)) f, w.1, w.2)
reads_page M l was [] (Done p ∷ r) e n m f w = (word_after M l was (Done p) [] e (omega (arith, n)) f, w.1)
reads_page M l was (Link p ∷ todo) r e n m f w = absurd m.0
reads_page M l was (Done p ∷ todo) r e n m f w = absurd m.0
reads_page M l was (Destination p ∷ todo) r e n m f w =
    let len : length (todo ++ take 1 r) ≤ length todo + 1 = omega (arith, length-append todo (take 1 r), short_take r) in
    let here = word_after M l was (Destination p) (todo ++ take 1 r) e (omega (arith, n, len)) (omega (arith, m.0)) in
    let more = length-append was (Destination p ∷ []) in
    let e' = e ∙ ap (λ is. page_of (in_bytes (map code is))) (sym (append_assoc was (Destination p ∷ []) (todo ++ take 1 r))) in
    let next : 4096 * l + 8 * length (was ++ Destination p ∷ []) ≡ 4096 * l + 8 * length was + 8 = omega (arith, more) in
    (here, m.0, omega (arith, n), subst (λ a. Reads M a (todo ++ r)) next (reads_page M l (was ++ Destination p ∷ []) todo r e' (omega (arith, more, n)) m.1 f w))
reads_page M l was (Source p ∷ todo) r e n m f w =
    let len : length (todo ++ take 1 r) ≤ length todo + 1 = omega (arith, length-append todo (take 1 r), short_take r) in
    let here = word_after M l was (Source p) (todo ++ take 1 r) e (omega (arith, n, len)) (omega (arith, m.0)) in
    let more = length-append was (Source p ∷ []) in
    let e' = e ∙ ap (λ is. page_of (in_bytes (map code is))) (sym (append_assoc was (Source p ∷ []) (todo ++ take 1 r))) in
    let next : 4096 * l + 8 * length (was ++ Source p ∷ []) ≡ 4096 * l + 8 * length was + 8 = omega (arith, more) in
    (here, m.0, omega (arith, n), subst (λ a. Reads M a (todo ++ r)) next (reads_page M l (was ++ Source p ∷ []) todo r e' (omega (arith, more, n)) m.1 f w))

lead_fits : (ls : List ℕ) (is : List Item) → AllByRecursion (λ l. l < 2 ^ 34) ls → lead (chain ls is) < 2 ^ 64
lead_fits [] is h = omega arith
lead_fits (l ∷ ls) is h = omega (arith, h.0)

pub walks : (M : Mem) (ls : List ℕ) (is : List Item) → AllByRecursion (λ l. l < 2 ^ 34) ls → AllByRecursion IsMove is → Holds M (link_pages ls is) → Walk M (lead (chain ls is)) (chain ls is)
walks M [] is h m k = (refl, refl)
walks M (l ∷ ls) is h m k =
    let r = chain ls (drop 511 is) in
    let w = walks M ls (drop 511 is) h.1 (Each-drop IsMove 511 is m) k.1 in
    let z : 4096 * l + 8 * length {A = Item} [] ≡ 4096 * l = omega arith in
    let n : length {A = Item} [] + length (take 511 is) ≤ 511 = omega (arith, length-take 511 is) in
    (refl, h.0, subst (λ a. Reads M a (take 511 is ++ r)) z (reads_page M l [] (take 511 is) r k.0 n (Each-take IsMove 511 is m) (lead_fits ls (drop 511 is) h.1) w))
