-- A frame that is copied to another.
use Rattle.std.proofs.Common.{◌≡◌, ℕ, ◌+◌, ◌-◌, ◌≤◌, List, [], ◌++◌, length, take, drop, append_assoc, refl, sym, ap, ◌∙◌, arith}
use Rattle.std.specs.Prelude.{replicate}
use Rattle.std.proofs.lemmas.List.{append-nil, drop-append-le, take-append-le, take-append-drop, length-take, length-drop}
use Rattle.kx_pages.specs.Bytes.{page_of}
use Rattle.page_memory.specs.Contents.{zero_page}
use Rattle.page_memory.specs.inner.Frames.{frame_in, put_frame}
use Rattle.kx_pages.proofs.Bytes.{page_of-fits}
use Rattle.page_memory.proofs.Frames.{frame_in-append}

pub page_of-full : (xs : List ℕ) → length xs ≡ 4096 → page_of xs ≡ xs
page_of-full xs h =
    let none : 4096 - length xs ≡ 0 = omega (arith, h) in
    page_of-fits xs (omega (arith, h)) ∙ ap (λ n. xs ++ replicate n 0) none ∙ append-nil xs

pub length-frame_in : (xs : List ℕ) (i : ℕ) → i + 4096 ≤ length xs → length (frame_in xs i) ≡ 4096
unfolding frame_in
length-frame_in xs i h = omega (arith, length-take 4096 (drop i xs), length-drop i xs)

-- a frame of the front part
pub frame_in-front : (xs : List ℕ) (n i : ℕ) → n ≤ length xs → i + 4096 ≤ n → frame_in (take n xs) i ≡ frame_in xs i
frame_in-front xs n i h k =
    sym (frame_in-append (take n xs) (drop n xs) i (omega (arith, length-take n xs))) ∙ ap (λ ys. frame_in ys i) (take-append-drop n xs)

pub put_frame-append : (xs ys bytes : List ℕ) (i : ℕ) → i + 4096 ≤ length xs → put_frame (xs ++ ys) i bytes ≡ put_frame xs i bytes ++ ys
unfolding put_frame
put_frame-append xs ys bytes i h =
    let k = i in
    ap (λ t. t ++ (bytes ++ drop 4096 (drop k (xs ++ ys)))) (take-append-le k xs ys (omega arith))
    ∙ ap (λ t. take k xs ++ (bytes ++ drop 4096 t)) (drop-append-le k xs ys (omega arith))
    ∙ ap (λ t. take k xs ++ (bytes ++ t)) (drop-append-le 4096 (drop k xs) ys (omega (arith, length-drop k xs)))
    ∙ ap (λ t. take k xs ++ t) (sym (append_assoc bytes (drop 4096 (drop k xs)) ys))
    ∙ sym (append_assoc (take k xs) (bytes ++ drop 4096 (drop k xs)) ys)

moved_first : (xs : List ℕ) (i : ℕ) → frame_in (drop i xs) 0 ≡ frame_in xs i
unfolding frame_in
moved_first xs i = refl

-- a frame further on is written from one before it
pub moved_up : (xs high : List ℕ) (to from : ℕ) → to + 4096 ≤ length xs → from + 4096 ≤ to → high ≡ put_frame (drop to xs) 0 (page_of (frame_in (take to xs) from)) → take to xs ++ high ≡ put_frame xs to (frame_in xs from)
unfolding put_frame
moved_up xs high to from h less e =
    let same = frame_in-front xs to from (omega arith) (omega arith) in
    let full = page_of-full (frame_in xs from) (length-frame_in xs from (omega arith)) in
    ap (λ t. take to xs ++ t) e ∙ ap (λ t. take to xs ++ (t ++ drop 4096 (drop to xs))) (ap page_of same ∙ full)

-- and the other way round
pub moved_down : (xs low : List ℕ) (to from : ℕ) → from + 4096 ≤ length xs → to + 4096 ≤ from → low ≡ put_frame (take from xs) to (page_of (frame_in (drop from xs) 0)) → low ++ drop from xs ≡ put_frame xs to (frame_in xs from)
moved_down xs low to from h less e =
    let n = from in
    let same : frame_in (drop n xs) 0 ≡ frame_in xs from = moved_first xs from in
    let full = page_of-full (frame_in xs from) (length-frame_in xs from (omega arith)) in
    ap (λ t. t ++ drop n xs) (e ∙ ap (put_frame (take n xs) to) (ap page_of same ∙ full))
    ∙ sym (put_frame-append (take n xs) (drop n xs) (frame_in xs from) to (omega (arith, length-take n xs)))
    ∙ ap (λ t. put_frame t to (frame_in xs from)) (take-append-drop n xs)

-- a frame that is written with itself
pub moved_nowhere : (xs : List ℕ) (to : ℕ) → xs ≡ put_frame xs to (frame_in xs to)
unfolding put_frame frame_in
moved_nowhere xs to =
    sym (ap (λ t. take to xs ++ t) (take-append-drop 4096 (drop to xs)) ∙ take-append-drop to xs)

-- no bytes are a page of zeros
pub page_of-nothing : page_of [] ≡ zero_page
unfolding page_of zero_page
page_of-nothing = refl
