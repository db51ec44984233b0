-- Which pages a file has.
use Rattle.std.proofs.Common.{◌≡◌, ℕ, ◌≤◌, ◌+◌, ◌/◌, List, [], ◌∷◌, ◌++◌, length, Bool, true, false, cond, arith, refl, sym, ap, ◌∙◌}
use Rattle.std.specs.Prelude.{filter, map}
use Rattle.std.specs.Prelude.{eqb}
use Rattle.std.specs.List.{AllByRecursion, IsDistinct}
use Rattle.std.proofs.lemmas.List.{append-nil, length-map}
use Rattle.page_memory.specs.inner.InPlace.{slots_of}
use Rattle.std.specs.List.Sorted.{IsStrictlySortedBy}
use Rattle.std.specs.Map.{keys_of}
use Rattle.std.specs.Ordering.{nat_cmp}
use Rattle.std.specs.Cmp.{nat_cmp_total}
use Rattle.std.specs.declared.cmp.Ordering.TheVariants.{Less}
use Rattle.std.specs.FinMap.{entries, put, empty, entries-insert, len-empty, len-entries}
use Rattle.page_memory.specs.inner.View.{pages_by}
use Rattle.page_memory.specs.inner.Frames.{frame_entries, frame_in}
use Rattle.page_memory.specs.File.{is_stored}

one_or_none : (b : Bool) (e : ℕ × List ℕ) (es : List (ℕ × List ℕ)) (n : ℕ) → length es ≤ n → length (cond b (e ∷ es) es) ≤ n + 1
one_or_none true e es n h = omega arith
one_or_none false e es n h = omega arith

-- a file has no more pages than the table
pub length-stored : (xs : List ℕ) (es : List (ℕ × ℕ)) → length (filter is_stored (frame_entries xs es)) ≤ length es
length-stored xs [] = omega arith
length-stored xs (e ∷ es) =
    let one = one_or_none (is_stored (e.0, frame_in xs e.1)) (e.0, frame_in xs e.1) (filter is_stored (frame_entries xs es)) (length es) (length-stored xs es) in omega arith

-- a first entry below the others goes in front
put-front : {X : Type 0} (f : X → List ℕ) (k : ℕ) (v : List ℕ) (es : List (ℕ × X)) → AllByRecursion (λ y. nat_cmp k y ≡ Less) (keys_of es) → put nat_cmp k v (map {B = ℕ × List ℕ} (λ (e : ℕ × X). (e.0, f e.1)) es) ≡ (k, v) ∷ map {B = ℕ × List ℕ} (λ (e : ℕ × X). (e.0, f e.1)) es
put-front f k v [] h = refl
put-front f k v (e ∷ es) h = rw h.0 refl

nothing_long : (es : List (ℕ × List ℕ)) → length es ≡ 0 → es ≡ []
nothing_long [] h = refl
nothing_long (e ∷ es) h = absurd (omega arith)

pub no_entries : entries (empty {X = List ℕ} {R = nat_cmp}) ≡ []
no_entries = nothing_long _ (sym (len-entries (empty {X = List ℕ} {R = nat_cmp})) ∙ len-empty nat_cmp (List ℕ))

-- the entries of an ordered table are those of its map
pub entries-pages_by : {X : Type 0} (f : X → List ℕ) (es : List (ℕ × X)) → IsStrictlySortedBy nat_cmp (keys_of es) → entries (pages_by f es) ≡ map {B = ℕ × List ℕ} (λ (e : ℕ × X). (e.0, f e.1)) es
unfolding IsStrictlySortedBy
entries-pages_by f [] h = no_entries
entries-pages_by f (e ∷ es) h =
    entries-insert nat_cmp_total (pages_by f es) e.0 (f e.1) ∙ ap (put nat_cmp e.0 (f e.1)) (entries-pages_by f es h.1) ∙ put-front f e.0 (f e.1) es h.0

-- the entries whose pages a file has
abbrev pub kept_in : List ℕ → List (ℕ × ℕ) → List (ℕ × ℕ)
kept_in xs es = filter (λ (e : ℕ × ℕ). is_stored (e.0, frame_in xs e.1)) es

frame_entries-cond : (xs : List ℕ) (e : ℕ × ℕ) (es : List (ℕ × ℕ)) (b : Bool) → frame_entries xs (cond b (e ∷ es) es) ≡ cond b ((e.0, frame_in xs e.1) ∷ frame_entries xs es) (frame_entries xs es)
frame_entries-cond xs e es true = refl
frame_entries-cond xs e es false = refl

pub frame_entries-kept : (xs : List ℕ) (es : List (ℕ × ℕ)) → frame_entries xs (kept_in xs es) ≡ filter is_stored (frame_entries xs es)
frame_entries-kept xs [] = refl
frame_entries-kept xs (e ∷ es) =
    let b = is_stored (e.0, frame_in xs e.1) in
    frame_entries-cond xs e (kept_in xs es) b ∙ ap (λ t. cond b ((e.0, frame_in xs e.1) ∷ t) t) (frame_entries-kept xs es)

pub length-kept : (xs : List ℕ) (es : List (ℕ × ℕ)) → length (kept_in xs es) ≤ length es
length-kept xs es = omega (arith, length-map {B = ℕ × List ℕ} (kept_in xs es) (λ (e : ℕ × ℕ). (e.0, frame_in xs e.1)), ap length (frame_entries-kept xs es), length-stored xs es)

-- where nothing is left, all that were kept are there
pub none_left : (xs : List ℕ) (done rest all : List (ℕ × ℕ)) → rest ≡ [] → done ++ kept_in xs rest ≡ kept_in xs all → done ≡ kept_in xs all
none_left xs done rest all none kept = sym (append-nil done) ∙ ap (λ es. done ++ kept_in xs es) (sym none) ∙ kept

all_cond : (P : ℕ × ℕ → Type 0) (e : ℕ × ℕ) (es : List (ℕ × ℕ)) (b : Bool) → P e → AllByRecursion P es → AllByRecursion P (cond b (e ∷ es) es)
all_cond P e es true here rest = (here, rest)
all_cond P e es false here rest = rest

pub all_kept : (P : ℕ × ℕ → Type 0) (xs : List ℕ) (es : List (ℕ × ℕ)) → AllByRecursion P es → AllByRecursion P (kept_in xs es)
all_kept P xs [] h = tt
all_kept P xs (e ∷ es) h = all_cond P e (kept_in xs es) (is_stored (e.0, frame_in xs e.1)) h.0 (all_kept P xs es h.1)

apart_cond : (n : ℕ) (e : ℕ × ℕ) (es : List (ℕ × ℕ)) (b : Bool) → eqb n (e.1 / 4104) ≡ false → AllByRecursion (λ y. eqb n y ≡ false) (slots_of es) → AllByRecursion (λ y. eqb n y ≡ false) (slots_of (cond b (e ∷ es) es))
apart_cond n e es true here rest = (here, rest)
apart_cond n e es false here rest = rest

apart_kept : (n : ℕ) (xs : List ℕ) (es : List (ℕ × ℕ)) → AllByRecursion (λ y. eqb n y ≡ false) (slots_of es) → AllByRecursion (λ y. eqb n y ≡ false) (slots_of (kept_in xs es))
apart_kept n xs [] h = tt
apart_kept n xs (e ∷ es) h = apart_cond n e (kept_in xs es) (is_stored (e.0, frame_in xs e.1)) h.0 (apart_kept n xs es h.1)

distinct_cond : (e : ℕ × ℕ) (es : List (ℕ × ℕ)) (b : Bool) → AllByRecursion (λ y. eqb (e.1 / 4104) y ≡ false) (slots_of es) → IsDistinct eqb (slots_of es) → IsDistinct eqb (slots_of (cond b (e ∷ es) es))
unfolding IsDistinct
distinct_cond e es true here rest = (here, rest)
distinct_cond e es false here rest = rest

pub distinct_kept : (xs : List ℕ) (es : List (ℕ × ℕ)) → IsDistinct eqb (slots_of es) → IsDistinct eqb (slots_of (kept_in xs es))
unfolding IsDistinct
distinct_kept xs [] h = tt
distinct_kept xs (e ∷ es) h = distinct_cond e (kept_in xs es) (is_stored (e.0, frame_in xs e.1)) (apart_kept (e.1 / 4104) xs es h.0) (distinct_kept xs es h.1)
