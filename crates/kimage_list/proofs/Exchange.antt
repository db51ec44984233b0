-- One word of a list that is being written is changed.
use Rattle.std.proofs.Common.{◌≡◌, ℕ, zero, suc, ◌+◌, ◌-◌, ◌*◌, ◌<◌, ◌≤◌, List, [], ◌∷◌, ◌++◌, length, Some, refl, sym, ap, ◌∙◌, subst, ⊎_elim, inl, inr, arith, take, drop, append_assoc, length-append}
use Rattle.std.specs.List.{AllByRecursion}
use Rattle.std.specs.Prelude.{◌≢◌, ◌⊎◌, ◌/◌, ◌%◌, map, slice_index}
use Rattle.std.proofs.lemmas.List.{length-take, length-drop, map-append, length-map}
use Rattle.std.proofs.lemmas.Bool.{cases_lt}
use Rattle.std.specs.Prelude.{Bool, true, false, cond, eqb, unwrap_or}
use Rattle.std.proofs.lemmas.Bool.Decides.{eqb_tells}
use Rattle.std.proofs.lemmas.Option.{none-some}
use Rattle.kimage_list.proofs.Lists.{nil_cons, heads_same, length-items}
use Rattle.kimage_list.proofs.Words.{word-changed}
use Rattle.kimage_list.specs.Laying.{in_bytes, items, source_pages}
use Rattle.kimage_list.specs.inner.Laying.{Holds}
use Rattle.kimage_list.specs.Load.{Entry, Start, Move, source_of, at_home}
use Rattle.kimage_list.specs.inner.Load.{pages_of}
use Rattle.kimage_list.specs.inner.Opening.{onward, open_pages, entry_place, number}
use Rattle.kx_pages.specs.Items.{code}
use Rattle.kx_pages.specs.Lists.{Distinct, destinations}
use Rattle.kx_pages.specs.declared.item.Item.{Item}
use Rattle.kx_pages.specs.declared.item.Item.TheVariants.{Destination, Source}
use Rattle.kx_pages.specs.Bytes.{page_of, Mem, Wants}
use Rattle.page_memory.specs.inner.Contents.{page_with_word}
use Rattle.page_memory.specs.Memory.{put}
use Rattle.page_memory.specs.inner.Memory.{set_word}
use Rattle.kx_pages.proofs.Lists.{Each-map, Each-both}
use Rattle.kx_laws.proofs.Options.{some_same}
use Rattle.page_memory.proofs.Laws.{put-same, put-apart}

pub short-take : (is : List Item) → length (take 511 is) ≤ 511
short-take is = omega (arith, length-take 511 is)

pub short-onward : (ls : List ℕ) → length (onward ls) ≤ 1
short-onward [] = omega arith
short-onward (l ∷ ls) = omega arith

take-inside : (n : ℕ) (xs : List Item) (i : Item) (ys : List Item) → length xs < n → (take n (xs ++ i ∷ ys) ≡ xs ++ i ∷ take (n - suc (length xs)) ys) × (drop n (xs ++ i ∷ ys) ≡ drop (n - suc (length xs)) ys)
take-inside zero xs i ys l = absurd (omega (arith, l))
take-inside (suc n) [] i ys l = let e : suc n - 1 ≡ n = omega arith in (ap (λ m. i ∷ take m ys) (sym e), ap (λ m. drop m ys) (sym e))
take-inside (suc n) (x ∷ xs) i ys l =
    let e : suc n - suc (suc (length xs)) ≡ n - suc (length xs) = omega arith in
    let ih = take-inside n xs i ys (omega (arith, l)) in
    (ap (λ zs. x ∷ zs) ih.0 ∙ ap (λ m. x ∷ (xs ++ i ∷ take m ys)) (sym e), ih.1 ∙ ap (λ m. drop m ys) (sym e))

take-outside : (n : ℕ) (xs zs : List Item) → n ≤ length xs → (take n (xs ++ zs) ≡ take n xs) × (drop n (xs ++ zs) ≡ drop n xs ++ zs)
take-outside zero xs zs l = (refl, refl)
take-outside (suc n) [] zs l = absurd (omega (arith, l))
take-outside (suc n) (x ∷ xs) zs l = let ih = take-outside n xs zs (omega (arith, l)) in (ap (λ ws. x ∷ ws) ih.0, ih.1)

pub keys_are : (ls : List ℕ) (is : List Item) (p : ℕ) → AllByRecursion (λ l. l ≢ p) ls → AllByRecursion (λ x. x.0 ≢ p) (open_pages ls is)
keys_are [] is p h = tt
keys_are (l ∷ ls) is p h = (h.0, keys_are ls (drop 511 is) p h.1)

-- a page that is no link page may change
pub still : (N : Mem) (p : ℕ) (b : (List ℕ)) (xs : List (ℕ × (List ℕ))) → AllByRecursion (λ x. x.0 ≢ p) xs → Holds N xs → Holds (put N p b) xs
still N p b xs h k = Each-both xs (λ x n e. put-apart N p x.0 b (λ f. n (sym f)) ∙ e) h k

pub put-written : (N : Mem) (l a o : ℕ) (w : ℕ) (b : (List ℕ)) → a / 4096 ≡ l → a % 4096 ≡ o → page_with_word (N l) o w ≡ b → set_word N a w ≡ put N l b
put-written N l a o w b e f g =
    ap (λ x. put N x (page_with_word (N x) (a % 4096) w)) e ∙ ap (λ x. put N l (page_with_word (N l) x w)) f ∙ ap (put N l) g

-- the words of a page, split at one entry
words-split : (n : ℕ) (xs ys : List Item) (i : Item) (r : List ℕ) → length xs < n → map code (take n (xs ++ i ∷ ys)) ++ r ≡ map code xs ++ code i ∷ (map code (take (n - suc (length xs)) ys) ++ r)
words-split n xs ys i r l =
    ap (λ zs. map code zs ++ r) (take-inside n xs i ys l).0 ∙ ap (λ ws. ws ++ r) (map-append code xs (i ∷ take (n - suc (length xs)) ys))
    ∙ append_assoc (map code xs) (code i ∷ map code (take (n - suc (length xs)) ys)) r

pub nth_apart : (k : ℕ) (ks : List ℕ) (n : ℕ) → AllByRecursion (λ y. k ≢ y) ks → n < length ks → k ≢ slice_index ks n
nth_apart k [] n h l = absurd (omega (arith, l))
nth_apart k (y ∷ ks) zero h l = h.0
nth_apart k (y ∷ ks) (suc n) h l = nth_apart k ks n h.1 (omega (arith, l))

place_first : (k : ℕ) (ks : List ℕ) (m : ℕ) → m < 511 → entry_place (k ∷ ks) m ≡ 4096 * k + 8 * m
place_first k ks m l =
    let d : m / 511 ≡ 0 = omega (arith, l) in
    let r : m % 511 ≡ m = omega (arith, l) in
    ap (λ x. 4096 * slice_index (k ∷ ks) x + 8 * (m % 511)) d ∙ ap (λ x. 4096 * k + 8 * x) r

place_later : (k : ℕ) (ks : List ℕ) (m n : ℕ) → m ≡ 511 + n → entry_place (k ∷ ks) m ≡ entry_place ks n
place_later k ks m n e =
    let d : m / 511 ≡ suc (n / 511) = omega (arith, e) in
    let r : m % 511 ≡ n % 511 = omega (arith, e) in
    ap (λ x. 4096 * slice_index (k ∷ ks) x + 8 * (m % 511)) d ∙ ap (λ x. 4096 * slice_index ks (n / 511) + 8 * x) r

place_page : (ks : List ℕ) (n : ℕ) → entry_place ks n / 4096 ≡ slice_index ks (n / 511)
place_page ks n = let s : n % 511 < 511 = omega arith in omega (arith, s)

-- one entry's word is changed in place
pub entry_changed : (N : Mem) (ls : List ℕ) (xs ys : List Item) (i j : Item) → length xs < 511 * length ls → Distinct ls → Holds N (open_pages ls (xs ++ i ∷ ys))
    → Holds (set_word N (entry_place ls (length xs)) (code j)) (open_pages ls (xs ++ j ∷ ys))
entry_changed N [] xs ys i j l d h = absurd (omega (arith, l))
entry_changed N (k ∷ ks) xs ys i j l d h = ⊎_elim here (there (entry_changed N ks (drop 511 xs) ys i j)) (cases_lt (length xs) 511)
  where
    here : length xs < 511 → Holds (set_word N (entry_place (k ∷ ks) (length xs)) (code j)) (open_pages (k ∷ ks) (xs ++ j ∷ ys))
    here m =
        let r = onward ks in
        let T = map code (take (511 - suc (length xs)) ys) in
        let wi = words-split 511 xs ys i r m in
        let wj = words-split 511 xs ys j r m in
        let n : length (map code xs) ≡ length xs = length-map xs code in
        let fits : length (map code xs ++ code i ∷ (T ++ r)) ≤ 512 =
        omega (arith, ap length wi, length-append (map code (take 511 (xs ++ i ∷ ys))) r, length-map (take 511 (xs ++ i ∷ ys)) code, short-take (xs ++ i ∷ ys), short-onward ks) in
        let b : page_with_word (N k) (8 * length xs) (code j) ≡ page_of (in_bytes (map code xs ++ code j ∷ (T ++ r))) =
        ap (λ bs. page_with_word bs (8 * length xs) (code j)) (h.0 ∙ ap (λ ws. page_of (in_bytes ws)) wi)
        ∙ ap (λ m. page_with_word (page_of (in_bytes (map code xs ++ code i ∷ (T ++ r)))) (8 * m) (code j)) (sym n)
        ∙ word-changed (map code xs) (T ++ r) (code i) (code j) fits in
        let p = place_first k ks (length xs) m in
        let q : entry_place (k ∷ ks) (length xs) / 4096 ≡ k = omega (arith, p, m) in
        let o : entry_place (k ∷ ks) (length xs) % 4096 ≡ 8 * length xs = omega (arith, p, m) in
        let B : (List ℕ) = page_of (in_bytes (map code xs ++ code j ∷ (T ++ r))) in
        let e : set_word N (entry_place (k ∷ ks) (length xs)) (code j) ≡ put N k B = put-written N k (entry_place (k ∷ ks) (length xs)) (8 * length xs) (code j) B q o b in
        let tail : drop 511 (xs ++ i ∷ ys) ≡ drop 511 (xs ++ j ∷ ys) = (take-inside 511 xs i ys m).1 ∙ sym (take-inside 511 xs j ys m).1 in
        let others : Holds (put N k B) (open_pages ks (drop 511 (xs ++ j ∷ ys))) =
        subst (λ zs. Holds (put N k B) (open_pages ks zs)) tail (still N k B (open_pages ks (drop 511 (xs ++ i ∷ ys))) (keys_are ks (drop 511 (xs ++ i ∷ ys)) k (Each-map ks (λ y n e. n (sym e)) d.0)) h.1) in
        (ap (λ m. m k) e ∙ put-same N k B ∙ ap (λ ws. page_of (in_bytes ws)) (sym wj), subst (λ m. Holds m (open_pages ks (drop 511 (xs ++ j ∷ ys)))) (sym e) others)

    there : (length (drop 511 xs) < 511 * length ks → Distinct ks → Holds N (open_pages ks (drop 511 xs ++ i ∷ ys)) → Holds (set_word N (entry_place ks (length (drop 511 xs))) (code j)) (open_pages ks (drop 511 xs ++ j ∷ ys)))
        → 511 ≤ length xs → Holds (set_word N (entry_place (k ∷ ks) (length xs)) (code j)) (open_pages (k ∷ ks) (xs ++ j ∷ ys))
    there ih m =
        let n : length xs ≡ 511 + length (drop 511 xs) = omega (arith, length-drop 511 xs, m) in
        let ti = take-outside 511 xs (i ∷ ys) m in
        let tj = take-outside 511 xs (j ∷ ys) m in
        let room : length (drop 511 xs) < 511 * length ks = omega (arith, n, l) in
        let rest = ih room d.1 (subst (λ zs. Holds N (open_pages ks zs)) ti.1 h.1) in
        let p = place_later k ks (length xs) (length (drop 511 xs)) n in
        let a = entry_place ks (length (drop 511 xs)) in
        let inside : length (drop 511 xs) / 511 < length ks = omega (arith, room) in
        let apart : a / 4096 ≢ k = λ e. nth_apart k ks (length (drop 511 xs) / 511) d.0 inside (sym e ∙ place_page ks (length (drop 511 xs))) in
        let first : set_word N a (code j) k ≡ N k = put-apart N (a / 4096) k (page_with_word (N (a / 4096)) (a % 4096) (code j)) apart in (
          ap (λ x. set_word N x (code j) k) p ∙ first ∙ h.0 ∙ ap (λ zs. page_of (in_bytes (map code zs ++ onward ks))) (ti.0 ∙ sym tj.0),
          subst (λ zs. Holds (set_word N (entry_place (k ∷ ks) (length xs)) (code j)) (open_pages ks zs)) (sym tj.1) (subst (λ x. Holds (set_word N x (code j)) (open_pages ks (drop 511 xs ++ j ∷ ys))) (sym p) rest),
        )

-- the entry of a pair
record Splits (es : List Entry) (ps : List (ℕ × ℕ)) (q s : ℕ) : Type 0 where
  front : List Item
  rest : List Item
  old : items es ps ≡ front ++ Source s ∷ rest
  new : items es (at_home q ps) ≡ front ++ Source q ∷ rest
  place : length front ≡ number q es

splits : (es : List Entry) (ps : List (ℕ × ℕ)) (q s : ℕ) → destinations ps ≡ pages_of es → source_of q ps ≡ Some s → Splits es ps q s
splits [] [] q s o e = absurd (none-some s e)
splits [] (p ∷ ps) q s o e = absurd (nil_cons o)
splits (Start t ∷ es) ps q s o e =
    let k = splits es ps q s o e in
    record { front = Destination t ∷ k.front; rest = k.rest; old = ap (λ is. Destination t ∷ is) k.old; new = ap (λ is. Destination t ∷ is) k.new; place = ap suc k.place }
splits (Move t ∷ es) [] q s o e = absurd (none-some s e)
splits (Move t ∷ es) (p ∷ ps) q s o e = go (eqb_tells p.0 q) (λ f. splits es ps q s (heads_same (destinations ps) (pages_of es) p.0 t o).1 f)
  where
    same : p.0 ≡ t
    same = (heads_same (destinations ps) (pages_of es) p.0 t o).0

    go : ((eqb p.0 q ≡ true) × (p.0 ≡ q)) ⊎ ((eqb p.0 q ≡ false) × (p.0 ≢ q)) → (source_of q ps ≡ Some s → Splits es ps q s) → Splits (Move t ∷ es) (p ∷ ps) q s
    go (inl h) ih =
        let f : p.1 ≡ s = some_same p.1 s (rw h.0 at e) in
        record { front = []; rest = items es ps; old = ap (λ x. Source x ∷ items es ps) f; new = rw h.0 refl; place = ap (λ b. cond b 0 (suc (number q es))) (sym h.0) ∙ ap (λ x. cond (eqb x q) 0 (suc (number q es))) same }
    go (inr h) ih =
        let k = ih (rw h.0 at e) in
        record { front = Source p.1 ∷ k.front; rest = k.rest; old = ap (λ is. Source p.1 ∷ is) k.old; new = rw h.0 (ap (λ is. Source p.1 ∷ is) k.new); place = ap suc k.place ∙ ap (λ b. cond b 0 (suc (number q es))) (sym h.0) ∙ ap (λ x. cond (eqb x q) 0 (suc (number q es))) same }

sources_moved : (N : Mem) (W : Wants) (ps : List (ℕ × ℕ)) (q s : ℕ) → source_of q ps ≡ Some s → AllByRecursion (λ r. r.1 ≢ q) ps → Holds N (source_pages W ps) → Holds (put N q (N s)) (source_pages W (at_home q ps))
sources_moved N W [] q s e n h = absurd (none-some s e)
sources_moved N W (p ∷ ps) q s e n h = go (eqb_tells p.0 q) (λ f. sources_moved N W ps q s f n.1 h.1)
  where
    keep : (rs : List (ℕ × ℕ)) → AllByRecursion (λ r. r.1 ≢ q) rs → Holds N (source_pages W rs) → Holds (put N q (N s)) (source_pages W rs)
    keep [] n h = tt
    keep (r ∷ rs) n h = (put-apart N q r.1 (N s) (λ f. n.0 (sym f)) ∙ h.0, keep rs n.1 h.1)

    go : ((eqb p.0 q ≡ true) × (p.0 ≡ q)) ⊎ ((eqb p.0 q ≡ false) × (p.0 ≢ q)) → (source_of q ps ≡ Some s → Holds (put N q (N s)) (source_pages W (at_home q ps))) → Holds (put N q (N s)) (source_pages W (at_home q (p ∷ ps)))
    go (inl t) ih =
        let f : p.1 ≡ s = some_same p.1 s (rw t.0 at e) in
        rw t.0 (put-same N q (N s) ∙ ap N (sym f) ∙ h.0 ∙ ap (λ x. unwrap_or (W x) []) t.1, keep ps n.1 h.1)
    go (inr t) ih = rw t.0 (put-apart N q p.1 (N s) (λ f. n.0 (sym f)) ∙ h.0, ih (rw t.0 at e))

nth_has : (ls : List ℕ) (n : ℕ) (P : ℕ → Type 0) → n < length ls → AllByRecursion P ls → P (slice_index ls n)
nth_has [] n P l h = absurd (omega (arith, l))
nth_has (x ∷ ls) zero P l h = h.0
nth_has (x ∷ ls) (suc n) P l h = nth_has ls n P (omega (arith, l)) h.1

sources_off : (W : Wants) (ps : List (ℕ × ℕ)) (q l : ℕ) → l ≢ q → AllByRecursion (λ r. r.1 ≢ l) ps → AllByRecursion (λ x. x.0 ≢ l) (source_pages W (at_home q ps))
sources_off W [] q l n h = tt
sources_off W (p ∷ ps) q l n h = go (eqb p.0 q) (sources_off W ps q l n h.1)
  where
    all : (rs : List (ℕ × ℕ)) → AllByRecursion (λ r. r.1 ≢ l) rs → AllByRecursion (λ x. x.0 ≢ l) (source_pages W rs)
    all [] h = tt
    all (r ∷ rs) h = (h.0, all rs h.1)

    go : (b : Bool) → AllByRecursion (λ x. x.0 ≢ l) (source_pages W (at_home q ps)) → AllByRecursion (λ x. x.0 ≢ l) (source_pages W (cond b ((q, q) ∷ ps) (p ∷ at_home q ps)))
    go true ih = ((λ e. n (sym e)), all ps h.1)
    go false ih = (h.0, ih)

-- Where page q of the pair (q, s) is drawn: the bytes of s move to q, the word of its entry is rewritten, and the list and
-- its sources stand as the pair (q, q) wants.
pub exchange_at : (N : Mem) (W : Wants) (ls : List ℕ) (es : List Entry) (ps : List (ℕ × ℕ)) (q s : ℕ)
    → destinations ps ≡ pages_of es → length es ≤ 511 * length ls → Distinct ls → source_of q ps ≡ Some s
    → AllByRecursion (λ l. l ≢ q) ls → AllByRecursion (λ r. (r.1 ≢ q) × AllByRecursion (λ l. r.1 ≢ l) ls) ps
    → Holds N (open_pages ls (items es ps)) → Holds N (source_pages W ps)
    → (number q es < 511 * length ls) × Holds (set_word (put N q (N s)) (entry_place ls (number q es)) (code (Source q))) (open_pages ls (items es (at_home q ps)))
    × Holds (set_word (put N q (N s)) (entry_place ls (number q es)) (code (Source q))) (source_pages W (at_home q ps))
    × ((p : ℕ) → q ≢ p → AllByRecursion (λ l. l ≢ p) ls → set_word (put N q (N s)) (entry_place ls (number q es)) (code (Source q)) p ≡ N p)
exchange_at N W ls es ps q s o room d e fl fs hl hs =
    let k = splits es ps q s o e in
    let n = number q es in
    let ne : length k.front ≡ n = k.place in
    let N1 = put N q (N s) in
    let h1 : Holds N1 (open_pages ls (k.front ++ Source s ∷ k.rest)) =
    subst (λ is. Holds N1 (open_pages ls is)) k.old (still N q (N s) (open_pages ls (items es ps)) (keys_are ls (items es ps) q fl) hl) in
    let size : n < 511 * length ls = omega (arith, room, length-items es ps, ap length k.old, length-append k.front (Source s ∷ k.rest), ne) in
    let size' : length k.front < 511 * length ls = omega (arith, ne, size) in
    let h2 = subst (λ m. Holds (set_word N1 (entry_place ls m) (code (Source q))) (open_pages ls (k.front ++ Source q ∷ k.rest))) ne (entry_changed N1 ls k.front k.rest (Source s) (Source q) size' d h1) in
    let inside : n / 511 < length ls = omega (arith, size) in
    let a = entry_place ls n in
    let page : a / 4096 ≡ slice_index ls (n / 511) = place_page ls n in
    let aq : a / 4096 ≢ q = λ f. nth_has ls (n / 511) (λ l. l ≢ q) inside fl (sym page ∙ f) in
    let as' : AllByRecursion (λ r. r.1 ≢ a / 4096) ps = Each-map ps (λ r g f. nth_has ls (n / 511) (λ l. r.1 ≢ l) inside g.1 (f ∙ page)) fs in
    let h3 = sources_moved N W ps q s e (Each-map ps (λ r g. g.0) fs) hs in (
      size,
      subst (λ is. Holds (set_word N1 a (code (Source q))) (open_pages ls is)) (sym k.new) h2,
      still N1 (a / 4096) (page_with_word (N1 (a / 4096)) (a % 4096) (code (Source q))) (source_pages W (at_home q ps)) (sources_off W ps q (a / 4096) aq as') h3,
      λ p m g. put-apart N1 (a / 4096) p (page_with_word (N1 (a / 4096)) (a % 4096) (code (Source q))) (λ f. nth_has ls (n / 511) (λ l. l ≢ p) inside g (sym page ∙ f)) ∙ put-apart N q p (N s) m,
    )
