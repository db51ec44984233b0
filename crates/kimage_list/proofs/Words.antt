-- Words of a list as bytes of a page.
use Rattle.std.proofs.Common.{◌≡◌, ℕ, zero, suc, ◌+◌, ◌-◌, ◌*◌, ◌<◌, ◌≤◌, List, [], ◌∷◌, ◌++◌, length, refl, sym, ap, ◌∙◌, arith, take, drop, append_assoc, length-append}
use Rattle.std.specs.Prelude.{replicate}
use Rattle.std.proofs.Math.Seq.{drop-append_seam, take-append_seam, drop-append-add}
use Rattle.byteorder.specs.Endian.{little_bytes}
use Rattle.kx_pages.specs.Bytes.{page_of}
use Rattle.page_memory.specs.inner.Contents.{page_with_word}
use Rattle.kx_pages.proofs.Bytes.{page_of-fits}
use Rattle.kimage_list.specs.Laying.{in_bytes}

pub length-in_bytes : (ws : List ℕ) → length (in_bytes ws) ≡ 8 * length ws
length-in_bytes [] = refl
length-in_bytes (w ∷ ws) = omega (arith, length-append (little_bytes 8 w) (in_bytes ws), length-in_bytes ws)

pub in_bytes-append : (xs ys : List ℕ) → in_bytes (xs ++ ys) ≡ in_bytes xs ++ in_bytes ys
in_bytes-append [] ys = refl
in_bytes-append (x ∷ xs) ys = ap (λ zs. little_bytes 8 x ++ zs) (in_bytes-append xs ys) ∙ sym (append_assoc (little_bytes 8 x) (in_bytes xs) (in_bytes ys))

-- a word over eight bytes in the middle
word-middle : (fs bs cs : List ℕ) (o w : ℕ) → o ≡ length fs → length bs ≡ 8 → page_with_word (fs ++ (bs ++ cs)) o w ≡ fs ++ (little_bytes 8 w ++ cs)
unfolding page_with_word
word-middle fs bs cs o w e n =
    let t : take o (fs ++ (bs ++ cs)) ≡ fs = ap (λ m. take m (fs ++ (bs ++ cs))) e ∙ take-append_seam fs (bs ++ cs) in
    let d : drop (o + 8) (fs ++ (bs ++ cs)) ≡ cs =
    ap (λ m. drop m (fs ++ (bs ++ cs))) (ap (λ m. m + 8) e ∙ ap (λ m. length fs + m) (sym n)) ∙ drop-append-add fs (bs ++ cs) (length bs) ∙ drop-append_seam bs cs in
    ap (λ ys. ys ++ (little_bytes 8 w ++ drop (o + 8) (fs ++ (bs ++ cs)))) t ∙ ap (λ ys. fs ++ (little_bytes 8 w ++ ys)) d

-- a page of words, split at one of them
pub page-split : (xs ys : List ℕ) (w : ℕ) → length (xs ++ w ∷ ys) ≤ 512 → page_of (in_bytes (xs ++ w ∷ ys)) ≡ in_bytes xs ++ (little_bytes 8 w ++ (in_bytes ys ++ replicate (4096 - 8 * (length xs + suc (length ys))) 0))
page-split xs ys w l =
    let all = in_bytes (xs ++ w ∷ ys) in
    let n : length all ≡ 8 * (length xs + suc (length ys)) = length-in_bytes (xs ++ w ∷ ys) ∙ ap (λ m. 8 * m) (length-append xs (w ∷ ys)) in
    let Z : List ℕ = replicate (4096 - 8 * (length xs + suc (length ys))) 0 in
    let short : length all ≤ 4096 = omega (arith, length-in_bytes (xs ++ w ∷ ys), l) in
    let split : all ≡ in_bytes xs ++ (little_bytes 8 w ++ in_bytes ys) = in_bytes-append xs (w ∷ ys) in
    page_of-fits all short
    ∙ ap (λ bs. bs ++ replicate (4096 - length all) 0) split
    ∙ ap (λ m. (in_bytes xs ++ (little_bytes 8 w ++ in_bytes ys)) ++ replicate (4096 - m) 0) n
    ∙ append_assoc (in_bytes xs) (little_bytes 8 w ++ in_bytes ys) Z ∙ ap (λ bs. in_bytes xs ++ bs) (append_assoc (little_bytes 8 w) (in_bytes ys) Z)

-- one word is written over another
pub word-changed : (xs ys : List ℕ) (v w : ℕ) → length (xs ++ v ∷ ys) ≤ 512 → page_with_word (page_of (in_bytes (xs ++ v ∷ ys))) (8 * length xs) w ≡ page_of (in_bytes (xs ++ w ∷ ys))
word-changed xs ys v w l =
    let l' : length (xs ++ w ∷ ys) ≤ 512 = omega (arith, length-append xs (w ∷ ys), length-append xs (v ∷ ys), l) in
    let Z : List ℕ = in_bytes ys ++ replicate (4096 - 8 * (length xs + suc (length ys))) 0 in
    ap (λ bs. page_with_word bs (8 * length xs) w) (page-split xs ys v l)
    ∙ word-middle (in_bytes xs) (little_bytes 8 v) Z (8 * length xs) w (sym (length-in_bytes xs)) refl
    ∙ sym (page-split xs ys w l')

abbrev zeros : ℕ → List ℕ
zeros n = replicate n 0

replicate-more : (m n : ℕ) → zeros (m + n) ≡ zeros m ++ zeros n
replicate-more zero n = let e : 0 + n ≡ n = omega arith in ap zeros e
replicate-more (suc m) n = let e : suc m + n ≡ suc (m + n) = omega arith in ap zeros e ∙ ap (λ zs. 0 ∷ zs) (replicate-more m n)

-- the next word is written
pub next-word : (xs : List ℕ) (w : ℕ) → length xs < 512 → page_with_word (page_of (in_bytes xs)) (8 * length xs) w ≡ page_of (in_bytes (xs ++ w ∷ []))
next-word xs w l =
    let short : length (in_bytes xs) ≤ 4096 = omega (arith, length-in_bytes xs, l) in
    let l' : length (xs ++ w ∷ []) ≤ 512 = omega (arith, length-append xs (w ∷ []), l) in
    let Z : List ℕ = replicate (4096 - 8 * (length xs + 1)) 0 in
    let more : 4096 - length (in_bytes xs) ≡ 8 + (4096 - 8 * (length xs + 1)) = omega (arith, length-in_bytes xs, l) in
    let old : page_of (in_bytes xs) ≡ in_bytes xs ++ (replicate 8 0 ++ Z) =
    page_of-fits (in_bytes xs) short ∙ ap (λ k. in_bytes xs ++ zeros k) more ∙ ap (λ zs. in_bytes xs ++ zs) (replicate-more 8 (4096 - 8 * (length xs + 1))) in
    ap (λ bs. page_with_word bs (8 * length xs) w) old
    ∙ word-middle (in_bytes xs) (replicate 8 0) Z (8 * length xs) w (sym (length-in_bytes xs)) refl
    ∙ sym (page-split xs [] w l')
