-- What the linked bytes are.
use Rattle.std.proofs.Common.{◌≡◌, ℕ, ◌+◌, ◌^◌, ◌<◌, ◌≤◌, ◌⊎◌, inl, inr, List, [], ◌∷◌, ◌++◌, length, get_or, Bool, true, false, cond, refl, sym, ap, ◌∙◌, subst, Option, Some, None, Result, Ok, Err, arith}
use Rattle.std.specs.Prelude.{nat_lt, nat_le, min, max, ◌&&◌, ◌||◌, ℤ, pos, negsuc}
use Rattle.std.specs.List.{list_any, AllByRecursion}
use Rattle.std.proofs.lemmas.List.{get_or-drop}
use Rattle.std.proofs.lemmas.Bool.{cases_lt, or_left, false≢true, lt-ltb, both_ways, and_from}
use Rattle.std.proofs.lemmas.Bool.Decides.{nat_tests}
use Rattle.kx_fields.specs.Fields.{field, with_field}
use Rattle.kx_fields.specs.inner.Fields.{IsApart}
use Rattle.kx_fields.proofs.Fields.{read_back, other_field, length-with_field}
use Rattle.elf_image.specs.declared.reloc.Reloc.{Reloc}
use Rattle.elf_image.specs.Object.{Relocatable, relocs_of}
use Rattle.purgatory_link.specs.declared.form.Form.{Form}
use Rattle.purgatory_link.specs.declared.form.Form.TheVariants as forms
use Rattle.purgatory_link.specs.declared.put.Put.{Put}
use Rattle.purgatory_link.specs.declared.fault.LinkFault.{LinkFault}
use Rattle.purgatory_link.specs.declared.fault.LinkFault.TheVariants as faults
use Rattle.kx_laws.specs.Results.{◌>>=◌}
use Rattle.purgatory_link.specs.Symbols.{start_at, symbol_value}
use Rattle.purgatory_link.specs.Formulas.{form_of, wide, formula, fits, modulo}
use Rattle.purgatory_link.specs.Relocs.{meets_one, meets, test_place, put_value, put_of, puts_of, with_one, with_puts, relocate}
use Rattle.purgatory_link.specs.inner.Relocs.{with_put, HasRoom, IsPut}
use Rattle.purgatory_link.specs.Link.{starts_of, unlinked_bytes}
use Rattle.std.specs.List.{All}
use Rattle.elf_image.specs.inner.Section.{IsInside}
use Rattle.purgatory_link.proofs.Bytes.{unlinked_byte}
use Rattle.purgatory_link.specs.inner.Meaning.{Holds, AllHold, is_in_field, KeepsOthers}
use Rattle.purgatory_link.proofs.Found.{bind_ok, Valued, put_has_value, found, put_is, put_clear}
use Rattle.purgatory_link.proofs.Putting.{put_known}
use Rattle.purgatory_link.proofs.Relocating.{with_puts-one}

-- p is one of the fields
Has : Put → List Put → Type 0
Has p [] = ⊥
Has p (q ∷ qs) = (p ≡ q) ⊎ Has p qs

has_more : (p q : Put) (ps : List Put) → Has p ps → Has p (ps ++ q ∷ [])
unfolding Has
has_more p q [] h = absurd h
has_more p q (x ∷ xs) (inl e) = inl e
has_more p q (x ∷ xs) (inr h) = inr (has_more p q xs h)

has_last : (p : Put) (ps : List Put) → Has p (ps ++ p ∷ [])
unfolding Has
has_last p [] = inl refl
has_last p (x ∷ xs) = inr (has_last p xs)

has_one : (p : Put) (x : Option Put) (ps : List Put) → Has p ps → Has p (with_one ps x)
has_one p None ps h = h
has_one p (Some q) ps h = has_more p q ps h

-- a field that meets none is apart from each
apart_by : (at w b u : ℕ) → 0 < w → 0 < u → (max at b < min (at + w) (b + u) → ⊥) → IsApart b u at w
apart_by at w b u s t never =
    elim (cases_lt b (at + w)) [
      | inr l ↦ inr l
      | inl l ↦ elim (cases_lt at (b + u)) [
        | inr m ↦ inl m
        | inl m ↦ absurd (never (omega arith))
      ]
    ]

apart : (at w : ℕ) (p : Put) (ps : List Put) → 0 < w → 0 < p.wide → meets at w ps ≡ false → Has p ps → IsApart p.at p.wide at w
unfolding Has
apart at w p [] s t clear h = absurd h
apart at w p (q ∷ qs) s t clear (inl e) =
    apart_by at w p.at p.wide s t (λ l. both_ways (meets at w (q ∷ qs)) clear (or_left (meets_one at w q) (meets at w qs) (subst (λ (x : Put). meets_one at w x ≡ true) e (lt-ltb _ _ l))))
apart at w p (q ∷ qs) s t clear (inr h) =
    apart at w p qs s t (rest_clear (meets_one at w q) (meets at w qs) clear) h
  where
    rest_clear : (a b : Bool) → (a || b) ≡ false → b ≡ false
    rest_clear true b e = cc
    rest_clear false b e = e

put_some : (w : ℕ) → (w ≡ 4) ⊎ (w ≡ 8) → 0 < w
put_some w (inl e) = omega (arith, e)
put_some w (inr e) = omega (arith, e)

-- the number of bytes stays
length_put : (x : Option Put) (n : ℕ) (b : List ℕ) → length b ≡ n → ((p : Put) → x ≡ Some p → IsPut n p) → length (with_put x b) ≡ n
length_put None n b long is = long
length_put (Some p) n b long is = let i = is p refl in length-with_field p.at p.wide p.value b (omega (arith, i.inside, long)) ∙ long

-- an earlier field keeps its number
field_put : (p : Put) (ps : List Put) (x : Option Put) (n : ℕ) (b : List ℕ) → length b ≡ n → Has p ps → 0 < p.wide → ((q : Put) → x ≡ Some q → IsPut n q) → ((q : Put) → x ≡ Some q → meets q.at q.wide ps ≡ false) → field p.at p.wide (with_put x b) ≡ field p.at p.wide b
field_put p ps None n b long h some is clear = refl
field_put p ps (Some q) n b long h some is clear =
    let i = is q refl in
    other_field p.at p.wide q.at q.wide q.value b (omega (arith, i.inside, long)) (apart q.at q.wide p ps (put_some q.wide i.wide) some (clear q refl) h)

is_some : (base : ℕ) (o : Relocatable) (sts : List (Option ℕ)) (ps : List Put) (r : Reloc) (x : Option Put) (n : ℕ) → HasRoom o sts n → put_of base o sts ps r ≡ Ok x → (q : Put) → x ≡ Some q → IsPut n q
is_some base o sts ps r x n room h q e = put_is base o sts ps r q n room (found base o sts ps r q (h ∙ ap (λ (y : Option Put). Ok y) e))

is_clear : (base : ℕ) (o : Relocatable) (sts : List (Option ℕ)) (ps : List Put) (r : Reloc) (x : Option Put) → put_of base o sts ps r ≡ Ok x → (q : Put) → x ≡ Some q → meets q.at q.wide ps ≡ false
is_clear base o sts ps r x h q e = put_clear base o sts ps r q (found base o sts ps r q (h ∙ ap (λ (y : Option Put). Ok y) e))

same_ok : (x y : List Put) → (let r : Result (List Put) LinkFault = Ok x in r ≡ Ok y) → x ≡ y
same_ok x y h = cc

-- the bytes with the fields so far
record Sofar (n : ℕ) (ps : List Put) (old : List ℕ) : Type 0 where
  long : length (with_puts ps old) ≡ n

sofar_one : (base : ℕ) (o : Relocatable) (sts : List (Option ℕ)) (ps : List Put) (r : Reloc) (x : Option Put) (n : ℕ) (old : List ℕ) → HasRoom o sts n → put_of base o sts ps r ≡ Ok x → Sofar n ps old → Sofar n (with_one ps x) old
sofar_one base o sts ps r x n old room h s = record {
  long = ap length (with_puts-one ps x old) ∙ length_put x n (with_puts ps old) s.long (is_some base o sts ps r x n room h);
}

field_stays : (base : ℕ) (o : Relocatable) (sts : List (Option ℕ)) (p : Put) (ps : List Put) (rs : List Reloc) (all : List Put) (n : ℕ) (old : List ℕ) → HasRoom o sts n → Sofar n ps old → Has p ps → 0 < p.wide → puts_of base o sts ps rs ≡ Ok all → field p.at p.wide (with_puts all old) ≡ field p.at p.wide (with_puts ps old)
unfolding puts_of
field_stays base o sts p ps [] all n old room s h some e = ap (λ (l : List Put). field p.at p.wide (with_puts l old)) (sym (same_ok ps all e))
field_stays base o sts p ps (r ∷ rs) all n old room s h some e =
    let a = bind_ok (put_of base o sts ps r) (λ x. puts_of base o sts (with_one ps x) rs) all e in
    field_stays base o sts p (with_one ps a.0) rs all n old room (sofar_one base o sts ps r a.0 n old room a.1 s) (has_one p a.0 ps h) some a.2
    ∙ ap (field p.at p.wide) (with_puts-one ps a.0 old)
    ∙ field_put p ps a.0 n (with_puts ps old) s.long h some (is_some base o sts ps r a.0 n room a.1) (is_clear base o sts ps r a.0 a.1)

modulo_one : (v : ℤ) → 0 ≡ modulo 1 v
modulo_one (pos n) = omega arith
modulo_one (negsuc n) = omega arith

no_none : (b : Bool) (p : Put) (e : LinkFault) → (let r : Result (Option Put) LinkFault = cond b (Ok (Some p)) (Err e) in r ≡ Ok None) → ⊥
no_none true p e h = cc
no_none false p e h = cc

empty_holds : (base at : ℕ) (form : Form) (v : ℤ) (bytes : List ℕ) → put_value base at form v ≡ Ok None → field at (wide form) bytes ≡ modulo (256 ^ wide form) v
unfolding field
empty_holds base at forms.Empty v bytes h = modulo_one v
empty_holds base at forms.Whole v bytes h = absurd (no_none true (record { at = at; wide = 8; value = modulo (256 ^ 8) v }) faults.Memory h)
empty_holds base at forms.Relative v bytes h = absurd (no_none (fits forms.Relative v) _ _ h)
empty_holds base at forms.Unsigned v bytes h = absurd (no_none (fits forms.Unsigned v) _ _ h)
empty_holds base at forms.Signed v bytes h = absurd (no_none (fits forms.Signed v) _ _ h)

field_of_put : (n : ℕ) (p : Put) (b : List ℕ) → length b ≡ n → IsPut n p → field p.at p.wide (with_field p.at p.wide p.value b) ≡ p.value
field_of_put n p b long i = read_back p.at p.wide p.value b (omega (arith, i.inside, long)) i.fits

valued_holds : (at : ℕ) (form : Form) (v : ℤ) (p : Put) (bytes : List ℕ) → Valued at form v p → field p.at p.wide bytes ≡ p.value → field at (wide form) bytes ≡ modulo (256 ^ wide form) v
valued_holds at form v p bytes x h =
    ap (λ a. field a (wide form) bytes) (sym x.at_is) ∙ ap (λ w. field p.at w bytes) (sym x.wide_is) ∙ h ∙ x.value_is

one_holds : (base : ℕ) (o : Relocatable) (sts : List (Option ℕ)) (ps : List Put) (r : Reloc) (rs : List Reloc) (x : Option Put) (all : List Put) (n : ℕ) (old : List ℕ) → HasRoom o sts n → Sofar n ps old → put_of base o sts ps r ≡ Ok x → puts_of base o sts (with_one ps x) rs ≡ Ok all
    → (at : ℕ) (form : Form) (v : ℤ) → put_value base at form v ≡ Ok x → field at (wide form) (with_puts all old) ≡ modulo (256 ^ wide form) v
one_holds base o sts ps r rs None all n old room s h e at form v g = empty_holds base at form v (with_puts all old) g
one_holds base o sts ps r rs (Some p) all n old room s h e at form v g =
    let f = found base o sts ps r p h in
    let i = put_is base o sts ps r p n room f in
    valued_holds at form v p (with_puts all old) (put_has_value base at form v p g)
    (field_stays base o sts p (ps ++ p ∷ []) rs all n old room (sofar_one base o sts ps r (Some p) n old room h s) (has_last p ps) (put_some p.wide i.wide) e
    ∙ ap (field p.at p.wide) (with_puts-one ps (Some p) old)
    ∙ field_of_put n p (with_puts ps old) s.long i)

placed_too : (base : ℕ) (o : Relocatable) (sts : List (Option ℕ)) (ps : List Put) (r : Reloc) (x : Option Put) (start : ℕ) (form : Form) (s : ℕ) → start_at sts r.target ≡ Some start → form_of r.kind ≡ Some form → symbol_value base sts o.symbols r.symbol ≡ Ok s → put_of base o sts ps r ≡ Ok x → put_value base (start + r.offset) form (formula form s r.addend (base + (start + r.offset))) ≡ Ok x
placed_too base o sts ps r x start form s a b c h =
    let at = start + r.offset in
    let k = bind_ok (test_place base o ps r at (wide form)) (λ _. symbol_value base sts o.symbols r.symbol >>= λ s. put_value base at form (formula form s r.addend (base + at))) x (put_known base o sts ps r start form (sym a) (sym b) ∙ h) in
    let v = bind_ok (symbol_value base sts o.symbols r.symbol) (λ s. put_value base at form (formula form s r.addend (base + at))) x k.2 in
    ap (λ s. put_value base at form (formula form s r.addend (base + at))) (value_same s v.0 (sym c ∙ v.1)) ∙ v.2
  where
    value_same : (x y : ℕ) → (let r : Result ℕ LinkFault = Ok x in r ≡ Ok y) → x ≡ y
    value_same x y h = cc

all_hold : (base : ℕ) (o : Relocatable) (ps : List Put) (rs : List Reloc) (all : List Put) (n : ℕ) (old : List ℕ) → HasRoom o (starts_of o) n → Sofar n ps old → puts_of base o (starts_of o) ps rs ≡ Ok all → AllByRecursion (Holds base o (with_puts all old)) rs
unfolding puts_of
all_hold base o ps [] all n old room s e = tt
all_hold base o ps (r ∷ rs) all n old room s e =
    let sts = starts_of o in
    let a = bind_ok (put_of base o sts ps r) (λ x. puts_of base o sts (with_one ps x) rs) all e in (
      record { value = λ start form y f g h. one_holds base o sts ps r rs a.0 all n old room s a.1 a.2 (start + r.offset) form (formula form y r.addend (base + (start + r.offset))) (placed_too base o sts ps r a.0 start form y f g h a.1) },
      all_hold base o (with_one ps a.0) rs all n old room (sofar_one base o sts ps r a.0 n old room a.1 s) a.2,
    )

-- ---- every other byte
byte_is : (k : ℕ) (xs : List ℕ) → field k 1 xs ≡ get_or xs k 0
unfolding field
byte_is k xs =
    let e = get_or-drop k xs 0 0 in
    let z : k + 0 ≡ k = omega arith in
    omega (arith, e, ap (λ j. get_or xs j 0) z)

byte_stays : (n k at w v : ℕ) (b : List ℕ) → length b ≡ n → at + w ≤ n → IsApart k 1 at w → get_or (with_field at w v b) k 0 ≡ get_or b k 0
byte_stays n k at w v b long inside away =
    sym (byte_is k (with_field at w v b)) ∙ other_field k 1 at w v b (omega (arith, long, inside)) away ∙ byte_is k b

outside : (k at w : ℕ) → (nat_le at k && nat_lt k (at + w)) ≡ false → IsApart k 1 at w
outside k at w h =
    elim (cases_lt k at) [
      | inl l ↦ inl (omega arith)
      | inr l ↦ elim (cases_lt k (at + w)) [
        | inr m ↦ inr m
        | inl m ↦ absurd (false≢true (sym h ∙ and_from (nat_le at k) (nat_lt k (at + w)) (grind (arith, nat_tests)) (lt-ltb k (at + w) m)))
      ]
    ]

one_other : (base : ℕ) (o : Relocatable) (ps : List Put) (r : Reloc) (x : Option Put) (n k : ℕ) (b : List ℕ) → HasRoom o (starts_of o) n → length b ≡ n → put_of base o (starts_of o) ps r ≡ Ok x → is_in_field k r.offset (start_at (starts_of o) r.target) (form_of r.kind) ≡ false → get_or (with_put x b) k 0 ≡ get_or b k 0
one_other base o ps r None n k b room long h away = refl
one_other base o ps r (Some p) n k b room long h away =
    let f = found base o (starts_of o) ps r p h in
    let i = put_is base o (starts_of o) ps r p n room f in
    let here : is_in_field k r.offset (Some f.start) (Some f.form) ≡ false =
    ap (λ s. is_in_field k r.offset s (Some f.form)) (sym f.starts_at) ∙ ap (is_in_field k r.offset (start_at (starts_of o) r.target)) (sym f.has_form) ∙ away in
    let apart = outside k (f.start + r.offset) (wide f.form) here in
    byte_stays n k p.at p.wide p.value b long i.inside
    (subst (λ a. IsApart k 1 a p.wide) (sym f.valued.at_is) (subst (IsApart k 1 (f.start + r.offset)) (sym f.valued.wide_is) apart))

or_none : (a b : Bool) → (a || b) ≡ false → (a ≡ false) × (b ≡ false)
or_none true b e = cc
or_none false b e = (refl, e)

all_other : (base : ℕ) (o : Relocatable) (ps : List Put) (rs : List Reloc) (all : List Put) (n k : ℕ) (old : List ℕ) → HasRoom o (starts_of o) n → Sofar n ps old → puts_of base o (starts_of o) ps rs ≡ Ok all → list_any (λ r. is_in_field k r.offset (start_at (starts_of o) r.target) (form_of r.kind)) rs ≡ false → get_or (with_puts all old) k 0 ≡ get_or (with_puts ps old) k 0
unfolding puts_of
all_other base o ps [] all n k old room s e away = ap (λ (l : List Put). get_or (with_puts l old) k 0) (sym (same_ok ps all e))
all_other base o ps (r ∷ rs) all n k old room s e away =
    let sts = starts_of o in
    let a = bind_ok (put_of base o sts ps r) (λ x. puts_of base o sts (with_one ps x) rs) all e in
    let both = or_none _ _ away in
    all_other base o (with_one ps a.0) rs all n k old room (sofar_one base o sts ps r a.0 n old room a.1 s) a.2 both.1
    ∙ ap (λ l. get_or l k 0) (with_puts-one ps a.0 old)
    ∙ one_other base o ps r a.0 n k (with_puts ps old) room s.long a.1 both.0

-- ---- together
record Relocated (base : ℕ) (o : Relocatable) (file old new : List ℕ) : Type 0 where
  puts : List Put
  given : puts_of base o (starts_of o) [] (relocs_of file o) ≡ Ok puts
  same : with_puts puts old ≡ new

relocated_by : (base : ℕ) (o : Relocatable) (file old new : List ℕ) → relocate base o file (starts_of o) old ≡ Ok new → Relocated base o file old new
unfolding relocate
relocated_by base o file old new h =
    let a = bind_ok (puts_of base o (starts_of o) [] (relocs_of file o)) (λ ps. Ok (with_puts ps old)) new h in
    record { puts = a.0; given = a.1; same = bytes_same (with_puts a.0 old) new a.2 }
  where
    bytes_same : (x y : List ℕ) → (let r : Result (List ℕ) LinkFault = Ok x in r ≡ Ok y) → x ≡ y
    bytes_same x y h = cc

sofar_none : (n : ℕ) (old : List ℕ) → length old ≡ n → Sofar n [] old
unfolding with_puts
sofar_none n old long = record { long = long }

pub fields_by : (base : ℕ) (o : Relocatable) (file : List ℕ) (n : ℕ) (old new : List ℕ) → HasRoom o (starts_of o) n → length old ≡ n → relocate base o file (starts_of o) old ≡ Ok new → AllHold base o file new
fields_by base o file n old new room long h =
    let r = relocated_by base o file old new h in
    subst (AllHold base o file) r.same (all_hold base o [] (relocs_of file o) r.puts n old room (sofar_none n old long) r.given)

pub others_by : (base : ℕ) (o : Relocatable) (file : List ℕ) (n : ℕ) (new : List ℕ) → All (IsInside file) o.sections → HasRoom o (starts_of o) n → length (unlinked_bytes o file n) ≡ n → relocate base o file (starts_of o) (unlinked_bytes o file n) ≡ Ok new → KeepsOthers o file new
unfolding with_puts
others_by base o file n new inside room long h =
    let old = unlinked_bytes o file n in
    let r = relocated_by base o file old new h in
    record {
      others = λ k away. ap (λ l. get_or l k 0) (sym r.same) ∙ all_other base o [] (relocs_of file o) r.puts n k old room (sofar_none n old long) r.given away ∙ unlinked_byte file o.sections n k inside;
    }
