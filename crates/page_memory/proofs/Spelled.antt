-- What is read is the file of what it gives.
use Rattle.std.proofs.Common.{◌≡◌, ℕ, zero, suc, ◌+◌, ◌<◌, ◌≤◌, List, [], ◌∷◌, ◌++◌, length, take, drop, true, false, cond, refl, sym, ap, ◌∙◌, subst, arith, Ok}
use Rattle.std.specs.Prelude.{not, filter, nat_lt, nat_eq, ◌==◌}
use Rattle.std.specs.List.{flat_map, AllByRecursion, starts_with}
use Rattle.std.specs.Ordering.{nat_cmp}
use Rattle.std.specs.Cmp.{nat_cmp_total, nat_cmp_is}
use Rattle.std.specs.declared.cmp.Ordering.TheVariants.{Greater}
use Rattle.std.specs.FinMap.{FinMap, entries, insert, empty, put, entries-insert}
use Rattle.std.proofs.lemmas.Bool.Decides.{nat_tests}
use Rattle.std.proofs.lemmas.List.{length-drop, take-append-drop, append_assoc, append-nil}
use Rattle.byteorder.specs.Endian.{little_bytes}
use Rattle.page_memory.specs.declared.fault.MemFault.TheVariants as faults
use Rattle.kx_fields.specs.Fields.{AreBytes, field}
use Rattle.kx_fields.proofs.Fields.{AreBytes-drop, little_bytes-little_number}
use Rattle.kx_laws.proofs.Booleans.{not_false}
use Rattle.kx_laws.proofs.Lists.{begins_with}
use Rattle.kx_laws.proofs.Results.{bind_ok, choose_ok, guard_ok, ok_same}
use Rattle.page_memory.specs.File.{is_stored, page_text, text_of, entry_at, pages_onto, read_pages, magic}
use Rattle.page_memory.proofs.Stored.{no_entries}

abbrev Entries : Type 0
Entries = List (ℕ × List ℕ)

-- the eight bytes at a place are those of the number that they spell
number_spelled : (at : ℕ) (bytes : List ℕ) → AreBytes bytes → at + 8 ≤ length bytes → little_bytes 8 (field at 8 bytes) ≡ take 8 (drop at bytes)
unfolding field
number_spelled at bytes small long = little_bytes-little_number 8 (drop at bytes) (omega (arith, long, length-drop at bytes)) (AreBytes-drop at bytes small)

-- a page that was read stands so
entry_spelled : (total place low : ℕ) (bytes : List ℕ) (e : ℕ × List ℕ × List ℕ) → AreBytes bytes → entry_at total place low bytes ≡ Ok e → (bytes ≡ page_text (e.0, e.1) ++ e.2) × (low ≤ e.0) × (is_stored (e.0, e.1) ≡ true) × AreBytes e.2
unfolding entry_at
entry_spelled total place low bytes e small h =
    let a = guard_ok _ _ _ _ h in
    let b = guard_ok _ _ _ _ a.1 in
    let c = guard_ok _ _ _ _ b.1 in
    let d = guard_ok _ _ _ _ c.1 in
    let same = ok_same _ _ d.1 in
    let tested : nat_lt (length bytes) 4104 ≡ false = a.0 in
    let long : 4104 ≤ length bytes = grind (arith, nat_tests, tested) in
    let rises : nat_lt (field 0 8 bytes) low ≡ false = c.0 in
    let up : low ≤ field 0 8 bytes = grind (arith, nat_tests, rises) in
    let parts = sym (take-append-drop 8 bytes)
    ∙ ap (λ xs. xs ++ drop 8 bytes) (sym (number_spelled 0 bytes small (omega (arith, long))))
    ∙ ap (λ ys. little_bytes 8 (field 0 8 bytes) ++ ys) (sym (take-append-drop 4096 (drop 8 bytes)))
    ∙ sym (append_assoc (little_bytes 8 (field 0 8 bytes)) (take 4096 (drop 8 bytes)) (drop 4096 (drop 8 bytes))) in
    subst (λ (e : ℕ × List ℕ × List ℕ). (bytes ≡ page_text (e.0, e.1) ++ e.2) × (low ≤ e.0) × (is_stored (e.0, e.1) ≡ true) × AreBytes e.2) same
    (parts, up, ap not d.0, AreBytes-drop 4096 (drop 8 bytes) (AreBytes-drop 8 bytes small))

lower_all : (es : Entries) (low p : ℕ) → low ≤ p → AllByRecursion (λ e. e.0 < low) es → AllByRecursion (λ e. e.0 < p) es
lower_all [] low p le h = tt
lower_all (e ∷ es) low p le h = (omega (arith, h.0), lower_all es low p le h.1)

-- an entry above all others goes to the end
put-last : (es : Entries) (k : ℕ) (v : List ℕ) → AllByRecursion (λ e. e.0 < k) es → put nat_cmp k v es ≡ es ++ (k, v) ∷ []
put-last [] k v h = refl
put-last (e ∷ es) k v h = rw (sym (nat_cmp_is k e.0 Greater h.0)) (ap (λ t. e ∷ t) (put-last es k v h.1))

below_more : (es : Entries) (low p : ℕ) (v : List ℕ) → low ≤ p → AllByRecursion (λ e. e.0 < low) es → AllByRecursion (λ e. e.0 < p + 1) (es ++ (p, v) ∷ [])
below_more [] low p v le h = (omega arith, tt)
below_more (e ∷ es) low p v le h = (omega (arith, h.0), below_more es low p v le h.1)

-- what is read onto a map: entries that the bytes spell, after those of the map
abbrev Spells : FinMap nat_cmp (List ℕ) → FinMap nat_cmp (List ℕ) → ℕ → List ℕ → Type 0
Spells m k n bytes = (es : Entries) × (length es ≡ n) × (bytes ≡ flat_map page_text es) × (entries k ≡ entries m ++ es) × AllByRecursion (λ e. is_stored e ≡ true) es

nil_of : {A : Type 0} (xs : List A) → (length xs == 0) ≡ true → xs ≡ []
nil_of [] h = refl
nil_of (x ∷ xs) h = absurd (grind (arith, nat_tests, h))

pages_spelled : (n total place low : ℕ) (m : FinMap nat_cmp (List ℕ)) (bytes : List ℕ) (k : FinMap nat_cmp (List ℕ)) → AreBytes bytes → AllByRecursion (λ e. e.0 < low) (entries m) → pages_onto total place low m n bytes ≡ Ok k → Spells m k n bytes
unfolding pages_onto
pages_spelled zero total place low m bytes k small below h =
    let end = choose_ok (length bytes == 0) (faults.Trailing place) m k h in
    ([], refl, nil_of bytes end.0, ap entries (sym end.1) ∙ sym (append-nil (entries m)), tt)
pages_spelled (suc n) total place low m bytes k small below h =
    let one = bind_ok (entry_at total place low bytes) (λ e. pages_onto total (place + 4104) (e.0 + 1) (insert m e.0 e.1) n e.2) k h in
    let e = one.0 in
    let spelled = entry_spelled total place low bytes e small one.1 in
    let above : AllByRecursion (λ x. x.0 < e.0) (entries m) = lower_all (entries m) low e.0 spelled.1 below in
    let more : entries (insert m e.0 e.1) ≡ entries m ++ (e.0, e.1) ∷ [] = entries-insert nat_cmp_total m e.0 e.1 ∙ put-last (entries m) e.0 e.1 above in
    let rest = pages_spelled n total (place + 4104) (e.0 + 1) (insert m e.0 e.1) e.2 k spelled.3 (subst (λ es. AllByRecursion (λ x. x.0 < e.0 + 1) es) (sym more) (below_more (entries m) low e.0 e.1 spelled.1 below)) one.2 in
    ((e.0, e.1) ∷ rest.0, ap suc rest.1, spelled.0 ∙ ap (λ t. page_text (e.0, e.1) ++ t) rest.2, rest.3 ∙ ap (λ es. es ++ rest.0) more ∙ append_assoc (entries m) ((e.0, e.1) ∷ []) rest.0, (spelled.2, rest.4))

-- the bytes that were read are the file of what they gave
filter_all : (es : Entries) → AllByRecursion (λ e. is_stored e ≡ true) es → filter is_stored es ≡ es
filter_all [] h = refl
filter_all (e ∷ es) h = ap (λ b. cond b (e ∷ filter is_stored es) (filter is_stored es)) h.0 ∙ ap (λ t. e ∷ t) (filter_all es h.1)

pub read_spelled : (bytes : List ℕ) (k : FinMap nat_cmp (List ℕ)) → AreBytes bytes → read_pages bytes ≡ Ok k → text_of (filter is_stored (entries k)) ≡ bytes
unfolding read_pages text_of
read_spelled bytes k small h =
    let a = guard_ok _ _ _ _ h in
    let b = guard_ok _ _ _ _ a.1 in
    let c = guard_ok _ _ _ _ b.1 in
    let begins : starts_with nat_eq bytes magic ≡ true = not_false (starts_with nat_eq bytes magic) a.0 in
    let tested : nat_lt (length bytes) 16 ≡ false = b.0 in
    let long : 16 ≤ length bytes = grind (arith, nat_tests, tested) in
    let none : AllByRecursion (λ e. e.0 < 0) (entries (empty {X = List ℕ} {R = nat_cmp})) = subst (AllByRecursion (λ e. e.0 < 0)) (sym no_entries) tt in
    let spelled = pages_spelled (field 8 8 bytes) (length bytes) 16 0 empty (drop 8 (drop 8 bytes)) k (AreBytes-drop 8 (drop 8 bytes) (AreBytes-drop 8 bytes small)) none c.1 in
    let es = spelled.0 in
    let all : filter is_stored (entries k) ≡ es = ap (filter is_stored) (spelled.3 ∙ ap (λ t. t ++ es) no_entries) ∙ filter_all es spelled.4 in
    ap text_of all
    ∙ ap (λ t. magic ++ (little_bytes 8 (length es) ++ t)) (sym spelled.2)
    ∙ ap (λ n. magic ++ (little_bytes 8 n ++ drop 8 (drop 8 bytes))) spelled.1
    ∙ ap (λ t. magic ++ (t ++ drop 8 (drop 8 bytes))) (number_spelled 8 bytes small (omega (arith, long)))
    ∙ ap (λ t. magic ++ t) (take-append-drop 8 (drop 8 bytes))
    ∙ sym (begins_with bytes magic begins)
