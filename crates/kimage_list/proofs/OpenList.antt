-- The next word of a list that is being written.
use Rattle.std.proofs.Common.{◌≡◌, ℕ, zero, suc, ◌+◌, ◌-◌, ◌*◌, ◌<◌, ◌≤◌, List, [], ◌∷◌, ◌++◌, length, refl, sym, ap, ◌∙◌, subst, arith, take, drop, length-append, append-nil}
use Rattle.std.specs.List.{AllByRecursion}
use Rattle.std.specs.Prelude.{◌≢◌, ◌/◌, ◌%◌, map}
use Rattle.std.proofs.lemmas.List.{take_all, length-drop, map-append, length-map}
use Rattle.kimage_list.proofs.Words.{next-word}
use Rattle.kimage_list.proofs.Exchange.{put-written, still, keys_are}
use Rattle.kimage_list.specs.Laying.{in_bytes, link_pages}
use Rattle.kimage_list.specs.inner.Laying.{Holds}
use Rattle.kimage_list.specs.inner.Opening.{open_pages, next_place, Tight}
use Rattle.kx_pages.specs.Items.{code}
use Rattle.kx_pages.specs.Lists.{Distinct}
use Rattle.kx_pages.specs.declared.item.Item.{Item}
use Rattle.kx_pages.specs.declared.item.Item.TheVariants.{Link, Done}
use Rattle.kx_pages.specs.Bytes.{page_of, Mem}
use Rattle.page_memory.specs.inner.Contents.{page_with_word}
use Rattle.page_memory.specs.Memory.{put}
use Rattle.page_memory.specs.inner.Memory.{set_word}
use Rattle.page_memory.proofs.Laws.{put-same, put-apart}

-- each link page with its bytes so far, where these words come last
abbrev pub ended_pages : List ℕ → List Item → List ℕ → List (ℕ × List ℕ)
ended_pages [] is ws = []
ended_pages (l ∷ []) is ws = (l, page_of (in_bytes (map code (take 511 is) ++ ws))) ∷ []
ended_pages (l ∷ (k ∷ ks)) is ws =
    (l, page_of (in_bytes (map code (take 511 is) ++ code (Link k) ∷ [])))
    ∷ ended_pages (k ∷ ks) (drop 511 is) ws

-- no word is last yet
pub ended-open : (ls : List ℕ) (is : List Item) → ended_pages ls is [] ≡ open_pages ls is
ended-open [] is = refl
ended-open (l ∷ []) is = refl
ended-open (l ∷ (k ∷ ks)) is = ap (λ ys. (l, page_of (in_bytes (map code (take 511 is) ++ code (Link k) ∷ []))) ∷ ys) (ended-open (k ∷ ks) (drop 511 is))

-- the page of the next place
pub next_page : (l : ℕ) (ls : List ℕ) (n : ℕ) (P : ℕ → Type 0) → Tight (l ∷ ls) n → AllByRecursion P (l ∷ ls) → P (next_place (l ∷ ls) n / 4096)
next_page l [] n P t h =
    let e : (4096 * l + 8 * n) / 4096 ≡ l = omega (arith, t.1) in
    subst P (sym e) h.0
next_page l (k ∷ ks) n P t h = next_page k ks (n - 511) P (omega (arith, t.0), omega (arith, t.1)) h.1

-- the next word is written
pub word_added : (N : Mem) (ls : List ℕ) (is : List Item) (w : ℕ) → Tight ls (length is) → Distinct ls → Holds N (open_pages ls is)
    → Holds (set_word N (next_place ls (length is)) w) (ended_pages ls is (w ∷ []))
word_added N [] is w t d h = tt
word_added N (l ∷ []) is w t d h =
    let all : take 511 is ≡ is = take_all 511 is (omega (arith, t.1)) in
    let n : length (map code (take 511 is)) ≡ length is = length-map (take 511 is) code ∙ ap length all in
    let xs = map code (take 511 is) in
    let e : N l ≡ page_of (in_bytes xs) = h.0 ∙ ap (λ ws. page_of (in_bytes ws)) (append-nil xs) in
    let b : page_with_word (N l) (8 * length is) w ≡ page_of (in_bytes (xs ++ w ∷ [])) =
    ap (λ bs. page_with_word bs (8 * length is) w) e ∙ ap (λ m. page_with_word (page_of (in_bytes xs)) (8 * m) w) (sym n) ∙ next-word xs w (omega (arith, n, t.1)) in
    let p : (4096 * l + 8 * length is) / 4096 ≡ l = omega (arith, t.1) in
    let o : (4096 * l + 8 * length is) % 4096 ≡ 8 * length is = omega (arith, t.1) in
    let B : (List ℕ) = page_of (in_bytes (xs ++ w ∷ [])) in
    let s : set_word N (4096 * l + 8 * length is) w ≡ put N l B = put-written N l (4096 * l + 8 * length is) (8 * length is) w B p o b in
    (ap (λ m. m l) s ∙ put-same N l B, tt)
word_added N (l ∷ (k ∷ ks)) is w t d h =
    let n : length (drop 511 is) ≡ length is - 511 = length-drop 511 is in
    let t' : Tight (k ∷ ks) (length (drop 511 is)) = (omega (arith, n, t.0), omega (arith, n, t.1)) in
    let ih = word_added N (k ∷ ks) (drop 511 is) w t' d.1 h.1 in
    let a = next_place (k ∷ ks) (length is - 511) in
    let same : next_place (k ∷ ks) (length (drop 511 is)) ≡ a = ap (next_place (k ∷ ks)) n in
    let ne : l ≢ a / 4096 = next_page k ks (length is - 511) (λ y. l ≢ y) (omega (arith, t.0), omega (arith, t.1)) d.0 in
    (put-apart N (a / 4096) l (page_with_word (N (a / 4096)) (a % 4096) w) (λ f. ne (sym f)) ∙ h.0, subst (λ x. Holds (set_word N x w) (ended_pages (k ∷ ks) (drop 511 is) (w ∷ []))) same ih)

take-short : (xs : List Item) (i : Item) → length xs < 511 → take 511 (xs ++ i ∷ []) ≡ xs ++ i ∷ []
take-short xs i n = take_all 511 (xs ++ i ∷ []) (omega (arith, length-append xs (i ∷ []), n))

take-front : (n : ℕ) (xs ys : List Item) → n ≤ length xs → take n (xs ++ ys) ≡ take n xs
take-front zero xs ys l = refl
take-front (suc n) [] ys l = absurd (omega (arith, l))
take-front (suc n) (x ∷ xs) ys l = ap (λ zs. x ∷ zs) (take-front n xs ys (omega (arith, l)))

drop-front : (n : ℕ) (xs ys : List Item) → n ≤ length xs → drop n (xs ++ ys) ≡ drop n xs ++ ys
drop-front zero xs ys l = refl
drop-front (suc n) [] ys l = absurd (omega (arith, l))
drop-front (suc n) (x ∷ xs) ys l = drop-front n xs ys (omega (arith, l))

-- a word that is an entry
pub ended-entry : (ls : List ℕ) (is : List Item) (i : Item) → Tight ls (length is) → length is < 511 * length ls → ended_pages ls is (code i ∷ []) ≡ open_pages ls (is ++ i ∷ [])
ended-entry [] is i t m = refl
ended-entry (l ∷ []) is i t m =
    let old : take 511 is ≡ is = take_all 511 is (omega (arith, m)) in
    let new : take 511 (is ++ i ∷ []) ≡ is ++ i ∷ [] = take-short is i (omega (arith, m)) in
    let e : map code (take 511 is) ++ code i ∷ [] ≡ map code (take 511 (is ++ i ∷ [])) ++ [] =
    ap (λ xs. map code xs ++ code i ∷ []) old ∙ sym (map-append code is (i ∷ [])) ∙ sym (ap (map code) new) ∙ sym (append-nil (map code (take 511 (is ++ i ∷ [])))) in
    ap (λ ws. (l, page_of (in_bytes ws)) ∷ []) e
ended-entry (l ∷ (k ∷ ks)) is i t m =
    let full : 511 ≤ length is = omega (arith, t.0) in
    let n : length (drop 511 is) ≡ length is - 511 = length-drop 511 is in
    let ih = ended-entry (k ∷ ks) (drop 511 is) i (omega (arith, n, t.0), omega (arith, n, t.1)) (omega (arith, n, m)) in
    let f : take 511 is ≡ take 511 (is ++ i ∷ []) = sym (take-front 511 is (i ∷ []) full) in
    let r : open_pages (k ∷ ks) (drop 511 is ++ i ∷ []) ≡ open_pages (k ∷ ks) (drop 511 (is ++ i ∷ [])) = ap (open_pages (k ∷ ks)) (sym (drop-front 511 is (i ∷ []) full)) in
    ap (λ ys. (l, page_of (in_bytes (map code (take 511 is) ++ code (Link k) ∷ []))) ∷ ys) (ih ∙ r)
    ∙ ap (λ xs. (l, page_of (in_bytes (map code xs ++ code (Link k) ∷ []))) ∷ open_pages (k ∷ ks) (drop 511 (is ++ i ∷ []))) f

-- a word that leads on to a cleared page
pub ended-link : (l : ℕ) (ls : List ℕ) (is : List Item) (k : ℕ) → length is ≡ 511 * length (l ∷ ls) → ended_pages (l ∷ ls) is (code (Link k) ∷ []) ++ (k, page_of []) ∷ [] ≡ open_pages ((l ∷ ls) ++ k ∷ []) is
ended-link l [] is k m =
    let z : drop 511 is ≡ [] = none (drop 511 is) (omega (arith, length-drop 511 is, m)) in
    ap (λ ys. (l, page_of (in_bytes (map code (take 511 is) ++ code (Link k) ∷ []))) ∷ (k, page_of (in_bytes (map code (take 511 ys) ++ []))) ∷ []) (sym z)
  where
    none : (xs : List Item) → length xs ≡ 0 → xs ≡ []
    none [] e = refl
    none (x ∷ xs) e = absurd (omega (arith, e))
ended-link l (j ∷ ls) is k m =
    let n : length (drop 511 is) ≡ length is - 511 = length-drop 511 is in
    ap (λ ys. (l, page_of (in_bytes (map code (take 511 is) ++ code (Link j) ∷ []))) ∷ ys) (ended-link j ls (drop 511 is) k (omega (arith, n, m)))

-- the word that ends the list
pub ended-done : (l : ℕ) (ls : List ℕ) (is : List Item) → Tight (l ∷ ls) (length is) → ended_pages (l ∷ ls) is (code (Done 0) ∷ []) ≡ link_pages (l ∷ ls) is
ended-done l [] is t = ap (λ ws. (l, page_of (in_bytes ws)) ∷ []) (sym (map-append code (take 511 is) (Done 0 ∷ [])))
ended-done l (k ∷ ks) is t =
    let n : length (drop 511 is) ≡ length is - 511 = length-drop 511 is in
    ap (λ ys. (l, page_of (in_bytes (map code (take 511 is) ++ code (Link k) ∷ []))) ∷ ys) (ended-done k ks (drop 511 is) (omega (arith, n, t.0), omega (arith, n, t.1)))
    ∙ ap (λ ws. (l, page_of (in_bytes ws)) ∷ link_pages (k ∷ ks) (drop 511 is)) (sym (map-append code (take 511 is) (Link k ∷ [])))

pub holds-append : (N : Mem) (xs ys : List (ℕ × (List ℕ))) → Holds N xs → Holds N ys → Holds N (xs ++ ys)
holds-append N [] ys h k = k
holds-append N (x ∷ xs) ys h k = (h.0, holds-append N xs ys h.1 k)

-- one entry more
pub entry_added : (N : Mem) (ls : List ℕ) (is : List Item) (i : Item) → Tight ls (length is) → length is < 511 * length ls → Distinct ls → Holds N (open_pages ls is)
    → Holds (set_word N (next_place ls (length is)) (code i)) (open_pages ls (is ++ i ∷ []))
entry_added N ls is i t m d h = subst (Holds (set_word N (next_place ls (length is)) (code i))) (ended-entry ls is i t m) (word_added N ls is (code i) t d h)

-- one link page more, the first one
pub first_link : (N : Mem) (k : ℕ) → Holds (put N k (page_of [])) (open_pages (k ∷ []) [])
first_link N k = (put-same N k (page_of []), tt)

-- one link page more, a later one
pub link_added : (N : Mem) (l : ℕ) (ls : List ℕ) (is : List Item) (k : ℕ) → length is ≡ 511 * length (l ∷ ls) → Distinct (l ∷ ls) → AllByRecursion (λ y. y ≢ k) (l ∷ ls) → Holds N (open_pages (l ∷ ls) is)
    → Holds (set_word (put N k (page_of [])) (next_place (l ∷ ls) (length is)) (code (Link k))) (open_pages ((l ∷ ls) ++ k ∷ []) is)
link_added N l ls is k m d f h =
    let N' = put N k (page_of []) in
    let a = next_place (l ∷ ls) (length is) in
    let t : Tight (l ∷ ls) (length is) = (omega (arith, m), omega (arith, m)) in
    let h1 = word_added N' (l ∷ ls) is (code (Link k)) t d (still N k (page_of []) (open_pages (l ∷ ls) is) (keys_are (l ∷ ls) is k f) h) in
    let ne : a / 4096 ≢ k = next_page l ls (length is) (λ y. y ≢ k) t f in
    let h2 : set_word N' a (code (Link k)) k ≡ page_of [] = put-apart N' (a / 4096) k (page_with_word (N' (a / 4096)) (a % 4096) (code (Link k))) ne ∙ put-same N k (page_of []) in
    subst (Holds (set_word N' a (code (Link k)))) (ended-link l ls is k m) (holds-append (set_word N' a (code (Link k))) (ended_pages (l ∷ ls) is (code (Link k) ∷ [])) ((k, page_of []) ∷ []) h1 (h2, tt))

-- the done word
pub list_ended : (N : Mem) (l : ℕ) (ls : List ℕ) (is : List Item) → Tight (l ∷ ls) (length is) → Distinct (l ∷ ls) → Holds N (open_pages (l ∷ ls) is)
    → Holds (set_word N (next_place (l ∷ ls) (length is)) 4) (link_pages (l ∷ ls) is)
list_ended N l ls is t d h = subst (Holds (set_word N (next_place (l ∷ ls) (length is)) 4)) (ended-done l ls is t) (word_added N (l ∷ ls) is 4 t d h)
