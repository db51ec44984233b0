-- The rules and the pages do not depend on the bytes, but only on how many there are.
use Rattle.std.proofs.Common.{◌≡◌, ℕ, zero, suc, ◌++◌, List, [], ◌∷◌, Some, Bool, refl, sym, ap, ◌∙◌, length, set}
use Rattle.std.specs.Prelude.{not, slice_get, nat_lt, ◌==◌}
use Rattle.std.specs.List.{position, prefix_len}
use Rattle.std.specs.Option.{option_map, option_or}
use Rattle.segments.specs.declared.fault.SegFault.TheVariants as faults
use Rattle.segments.specs.Values.{SegmentValue, pages, is_destination}
use Rattle.segments.specs.Rules.{is_bad_address, is_too_full, overlap_each_other, overlap_after, overlap, where_true, no_segments, too_many, bad_address, too_full, too_large, shape_refusal, bare_refusal}
use Rattle.segments.specs.inner.Sets.{HasPages}
use Rattle.kx_pages.specs.Spans.{Run}

pub record Alike (s t : SegmentValue) : Type 0 where
  pub mem : s.mem ≡ t.mem
  pub memsz : s.memsz ≡ t.memsz
  pub long : length s.bytes ≡ length t.bytes

abbrev pub AreAlike : List SegmentValue → List SegmentValue → Type 0
AreAlike [] [] = Unit {0}
AreAlike [] (t ∷ ts) = ⊥
AreAlike (s ∷ ss) [] = ⊥
AreAlike (s ∷ ss) (t ∷ ts) = Alike s t × AreAlike ss ts

same_alike : (ss : List SegmentValue) → AreAlike ss ss
same_alike [] = tt
same_alike (s ∷ ss) = (record { mem = refl; memsz = refl; long = refl }, same_alike ss)

set_alike : (ss : List SegmentValue) (i : ℕ) (t : SegmentValue) → ((s : SegmentValue) → slice_get ss i ≡ Some s → Alike s t) → AreAlike ss (set ss i t)
set_alike [] i t h = tt
set_alike (s ∷ ss) zero t h = (h s refl, same_alike ss)
set_alike (s ∷ ss) (suc i) t h = (record { mem = refl; memsz = refl; long = refl }, set_alike ss i t h)

append_alike : (ss ts us vs : List SegmentValue) → AreAlike ss ts → AreAlike us vs → AreAlike (ss ++ us) (ts ++ vs)
append_alike [] [] us vs h k = k
append_alike [] (t ∷ ts) us vs h k = absurd h
append_alike (s ∷ ss) [] us vs h k = absurd h
append_alike (s ∷ ss) (t ∷ ts) us vs h k = (h.0, append_alike ss ts us vs h.1 k)

length_alike : (ss ts : List SegmentValue) → AreAlike ss ts → length ss ≡ length ts
length_alike [] [] h = refl
length_alike [] (t ∷ ts) h = absurd h
length_alike (s ∷ ss) [] h = absurd h
length_alike (s ∷ ss) (t ∷ ts) h = ap suc (length_alike ss ts h.1)

prefix_alike : (f g : SegmentValue → Bool) → ((s t : SegmentValue) → Alike s t → f s ≡ g t) → (ss ts : List SegmentValue) → AreAlike ss ts → prefix_len f ss ≡ prefix_len g ts
prefix_alike f g e [] [] h = refl
prefix_alike f g e [] (t ∷ ts) h = absurd h
prefix_alike f g e (s ∷ ss) [] h = absurd h
prefix_alike f g e (s ∷ ss) (t ∷ ts) h =
    let here = e s t h.0 in
    let later = prefix_alike f g e ss ts h.1 in
    rw (here, later) refl

position_alike : (f g : SegmentValue → Bool) → ((s t : SegmentValue) → Alike s t → f s ≡ g t) → (ss ts : List SegmentValue) → AreAlike ss ts → position f ss ≡ position g ts
position_alike f g e ss ts h =
    let place = prefix_alike (λ s. not (f s)) (λ s. not (g s)) (λ s t a. ap not (e s t a)) ss ts h in
    let long = length_alike ss ts h in
    rw (place, long) refl

bad_alike : (s t : SegmentValue) → Alike s t → is_bad_address s ≡ is_bad_address t
bad_alike s t h = let a = h.mem in let b = h.memsz in rw (a, b) refl

full_alike : (s t : SegmentValue) → Alike s t → is_too_full s ≡ is_too_full t
full_alike s t h = let a = h.memsz in let b = h.long in rw (a, b) refl

pair_alike : (s t : SegmentValue) → Alike s t → (r u : SegmentValue) → Alike r u → overlap_each_other s r ≡ overlap_each_other t u
pair_alike s t h r u k =
    let a = h.mem in
    let b = h.memsz in
    let c = k.mem in
    let d = k.memsz in
    rw (a, b, c, d) refl

overlap_alike : (es fs ss ts : List SegmentValue) → AreAlike es fs → AreAlike ss ts → overlap_after es ss ≡ overlap_after fs ts
overlap_alike es fs [] [] h k = refl
overlap_alike es fs [] (t ∷ ts) h k = absurd k
overlap_alike es fs (s ∷ ss) [] h k = absurd k
overlap_alike es fs (s ∷ ss) (t ∷ ts) h k =
    let long = length_alike es fs h in
    let here = position_alike (overlap_each_other s) (overlap_each_other t) (pair_alike s t k.0) es fs h in
    let later = overlap_alike (es ++ s ∷ []) (fs ++ t ∷ []) ss ts (append_alike es fs (s ∷ []) (t ∷ []) h (k.0, tt)) k.1 in
    ap (λ n. option_or (option_map (faults.Overlap n) (position (overlap_each_other s) es)) (overlap_after (es ++ s ∷ []) ss)) long
    ∙ ap (λ o. option_or (option_map (faults.Overlap (length fs)) o) (overlap_after (es ++ s ∷ []) ss)) here
    ∙ ap (λ o. option_or (option_map (faults.Overlap (length fs)) (position (overlap_each_other t) fs)) o) later

pages_alike : (ss ts : List SegmentValue) → AreAlike ss ts → pages ss ≡ pages ts
pages_alike [] [] h = refl
pages_alike [] (t ∷ ts) h = absurd h
pages_alike (s ∷ ss) [] h = absurd h
pages_alike (s ∷ ss) (t ∷ ts) h =
    let a = h.0.mem in
    let b = h.0.memsz in
    let later = pages_alike ss ts h.1 in
    rw (a, b, later) refl

destination_alike : (ss ts : List SegmentValue) → AreAlike ss ts → (q : ℕ) → is_destination ss q ≡ is_destination ts q
destination_alike [] [] h q = refl
destination_alike [] (t ∷ ts) h q = absurd h
destination_alike (s ∷ ss) [] h q = absurd h
destination_alike (s ∷ ss) (t ∷ ts) h q =
    let a = h.0.mem in
    let b = h.0.memsz in
    let later = destination_alike ss ts h.1 q in
    rw (a, b, later) refl

bare_alike : (ss ts : List SegmentValue) → AreAlike ss ts → bare_refusal ss ≡ bare_refusal ts
unfolding bare_refusal shape_refusal
bare_alike ss ts h =
    let long = length_alike ss ts h in
    let count = ap length (pages_alike ss ts h) in
    let bad : bad_address ss ≡ bad_address ts = ap (option_map faults.BadAddress) (position_alike is_bad_address is_bad_address bad_alike ss ts h) in
    let over : overlap ss ≡ overlap ts = overlap_alike [] [] ss ts tt h in
    let full : too_full ss ≡ too_full ts = ap (option_map faults.TooFull) (position_alike is_too_full is_too_full full_alike ss ts h) in
    let some : no_segments ss ≡ no_segments ts = ap (λ n. where_true (n == 0) faults.NoSegments) long in
    let few : too_many ss ≡ too_many ts = ap (λ n. where_true (nat_lt 16 n) faults.TooMany) long in
    let large : too_large ss ≡ too_large ts = ap (λ n. where_true (nat_lt 65536 n) (faults.TooLarge n)) count in
    cc

-- segments with other bytes, as many as they were
pub has_pages_set : (ss : List SegmentValue) (rs : List Run) (i : ℕ) (t : SegmentValue) → HasPages ss rs → ((s : SegmentValue) → slice_get ss i ≡ Some s → Alike s t) → HasPages (set ss i t) rs
has_pages_set ss rs i t h k =
    let a = set_alike ss i t k in
    record {
      bare = sym (bare_alike ss (set ss i t) a) ∙ h.bare;
      pages = λ q. h.pages q ∙ destination_alike ss (set ss i t) a q;
    }
