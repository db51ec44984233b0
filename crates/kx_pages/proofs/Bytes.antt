-- The bytes of a page, and memory as a function.
use Rattle.std.proofs.Common.{◌≡◌, ℕ, ◌-◌, ◌≤◌, ◌++◌, List, length, take, ap, ◌∙◌, arith}
use Rattle.std.specs.Prelude.{replicate}
use Rattle.std.proofs.lemmas.List.{take_all, length-append, length-replicate, length-take}
use Rattle.kx_pages.specs.Bytes.{Mem, page_of}

-- bytes that fit a page are not cut
pub page_of-fits : (xs : List ℕ) → length xs ≤ 4096 → page_of xs ≡ xs ++ replicate (4096 - length xs) 0
unfolding page_of
page_of-fits xs fits = ap (λ ys. ys ++ replicate (4096 - length xs) 0) (take_all 4096 xs fits)

-- what is cut off does not matter
pub page_of-take : (xs : List ℕ) → page_of (take 4096 xs) ≡ page_of xs
unfolding page_of
page_of-take xs =
    let short : length (take 4096 xs) ≤ 4096 = omega (arith, length-take 4096 xs) in
    let rest : 4096 - length (take 4096 xs) ≡ 4096 - length xs = omega (arith, length-take 4096 xs) in
    ap (λ ys. ys ++ replicate (4096 - length (take 4096 xs)) 0) (take_all 4096 (take 4096 xs) short) ∙ ap (λ n. take 4096 xs ++ replicate n 0) rest

-- a page is whole
pub length-page_of : (xs : List ℕ) → length (page_of xs) ≡ 4096
unfolding page_of
length-page_of xs = omega (arith, length-append {A = ℕ} (take 4096 xs) (replicate (4096 - length xs) 0), length-take 4096 xs, length-replicate {A = ℕ} (4096 - length xs) 0)

-- what reads the same at each page is one memory
pub same_memory : (M N : Mem) → ((p : ℕ) → M p ≡ N p) → M ≡ N
same_memory M N h = λ i p. h p i
