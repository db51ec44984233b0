-- The bytes of memory from an address on, piece by piece.
use Rattle.std.proofs.Common.{◌≡◌, ℕ, ◌+◌, ◌-◌, ◌/◌, ◌%◌, ◌<◌, ◌≤◌, ◌++◌, List, [], refl, sym, ap, ◌∙◌, arith, length, take, drop, map, get_or, append_assoc, length-append}
use Rattle.std.specs.List.{range_with_len}
use Rattle.std.proofs.lemmas.List.{map-append, ext_get_or, get_or-take, get_or-drop, length-take, length-drop, take_all, take_at}
use Rattle.std.proofs.lemmas.List.FromFn.{length-map-range_with_len, get_or-map-range_with_len}
use Rattle.kx_laws.proofs.Lists.{range-append}
use Rattle.kx_fields.specs.Fields.{with_bytes}
use Rattle.kx_pages.specs.Bytes.{Mem}
use Rattle.page_memory.specs.Addresses.{byte_in, bytes_in}

-- how many they are
pub length-bytes_in : (M : Mem) (a n : ℕ) → length (bytes_in M a n) ≡ n
unfolding bytes_in
length-bytes_in M a n = length-map-range_with_len (byte_in M) a n

pub bytes_in-none : (M : Mem) (a : ℕ) → bytes_in M a 0 ≡ []
unfolding bytes_in
bytes_in-none M a = refl

pub bytes_in-both : (M : Mem) (a m n : ℕ) → bytes_in M a (m + n) ≡ bytes_in M a m ++ bytes_in M (a + m) n
unfolding bytes_in
bytes_in-both M a m n = ap (map (byte_in M)) (range-append a m n) ∙ map-append (byte_in M) (range_with_len a m) (range_with_len (a + m) n)

-- bytes of one page
in_page : (M : Mem) (a n i : ℕ) → a % 4096 + n ≤ 4096 → i < n → get_or (take n (drop (a % 4096) (M (a / 4096)))) i 0 ≡ byte_in M (a + i)
in_page M a n i inside lt =
    let page : (a + i) / 4096 ≡ a / 4096 = omega arith in
    let place : (a + i) % 4096 ≡ a % 4096 + i = omega arith in
    get_or-take n (drop (a % 4096) (M (a / 4096))) i 0 lt
    ∙ get_or-drop (a % 4096) (M (a / 4096)) i 0
    ∙ ap (λ k. get_or (M (a / 4096)) k 0) (sym place)
    ∙ ap (λ q. get_or (M q) ((a + i) % 4096) 0) (sym page)

pub bytes_in-page : (M : Mem) (a n : ℕ) → a % 4096 + n ≤ 4096 → length (M (a / 4096)) ≡ 4096 → take n (drop (a % 4096) (M (a / 4096))) ≡ bytes_in M a n
unfolding bytes_in
bytes_in-page M a n inside whole =
    let here = drop (a % 4096) (M (a / 4096)) in
    let long : length (take n here) ≡ n = omega (arith, length-take n here, length-drop (a % 4096) (M (a / 4096)), whole) in
    ext_get_or 0 (take n here) (map (byte_in M) (range_with_len a n)) (long ∙ sym (length-map-range_with_len (byte_in M) a n))
    (λ i lt. let l : i < n = omega (arith, long, lt) in in_page M a n i inside l ∙ sym (get_or-map-range_with_len (byte_in M) a n i (a + i) 0 l refl))

-- a piece of a page up to its end, or shorter
pub piece_is : (M : Mem) (a k r : ℕ) (page rest front : List ℕ) → page ≡ M (a / 4096) → length page ≡ 4096 → r ≡ a % 4096 → rest ≡ drop r page → k ≤ length rest → front ≡ take k rest → front ≡ bytes_in M a (length front)
piece_is M a k r page rest front p whole place d le f =
    let same : rest ≡ drop (a % 4096) (M (a / 4096)) = d ∙ ap (λ n. drop n page) place ∙ ap (drop (a % 4096)) p in
    let long : length front ≡ k = omega (arith, ap length f, length-take k rest) in
    let size : length (M (a / 4096)) ≡ 4096 = ap length (sym p) ∙ whole in
    let fits : a % 4096 + k ≤ 4096 = omega (arith, ap length same, length-drop (a % 4096) (M (a / 4096)), size, le) in
    f ∙ ap (take k) same ∙ bytes_in-page M a k fits size ∙ ap (bytes_in M a) (sym long)

pub rest_is : (M : Mem) (a r : ℕ) (page rest : List ℕ) → page ≡ M (a / 4096) → length page ≡ 4096 → r ≡ a % 4096 → rest ≡ drop r page → rest ≡ bytes_in M a (length rest)
rest_is M a r page rest p whole place d = piece_is M a (length rest) r page rest rest p whole place d (omega arith) (sym (take_all (length rest) rest (omega arith)))

-- a piece more
pub bytes_more : (M : Mem) (s a b : ℕ) (piece : List ℕ) → s ≤ a → piece ≡ bytes_in M a (length piece) → b ≡ a + length piece → bytes_in M s (a - s) ++ piece ≡ bytes_in M s (b - s)
bytes_more M s a b piece le e next =
    let here : s + (a - s) ≡ a = omega arith in
    let count : a - s + length piece ≡ b - s = omega arith in
    ap (λ xs. bytes_in M s (a - s) ++ xs) (e ∙ ap (λ x. bytes_in M x (length piece)) (sym here))
    ∙ sym (bytes_in-both M s (a - s) (length piece))
    ∙ ap (bytes_in M s) count

pub put_more : (n m : ℕ) (block piece new : List ℕ) → n + length piece ≤ length block → new ≡ with_bytes n piece block → m ≡ n + length piece → take m new ≡ take n block ++ piece
put_more n m block piece new room e count =
    let front = take n block ++ piece in
    let rest = drop (n + length piece) block in
    let size : length front ≡ m = omega (arith, length-append (take n block) piece, length-take n block) in
    ap (take m) (e ∙ sym (append_assoc (take n block) piece rest)) ∙ take_at front rest m size
