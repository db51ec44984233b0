-- What one relocation puts, way by way.
use Rattle.std.proofs.Common.{◌≡◌, ℕ, ◌+◌, List, [], ◌∷◌, false, refl, ap, ◌∙◌, Option, Some, None, Ok, Err, arith}
use Rattle.std.specs.Prelude.{nat_lt, min, max}
use Rattle.std.proofs.lemmas.Bool.Decides.{nat_tests}
use Rattle.elf_image.specs.declared.reloc.Reloc.{Reloc}
use Rattle.elf_image.specs.Object.{Relocatable}
use Rattle.purgatory_link.specs.declared.form.Form.{Form}
use Rattle.purgatory_link.specs.declared.put.Put.{Put}
use Rattle.purgatory_link.specs.declared.fault.LinkFault.{LinkFault}
use Rattle.purgatory_link.specs.declared.fault.LinkFault.TheVariants as faults
use Rattle.kx_laws.specs.Results.{◌>>=◌}
use Rattle.purgatory_link.specs.Symbols.{start_at, symbol_value}
use Rattle.purgatory_link.specs.Formulas.{form_of, wide, formula}
use Rattle.purgatory_link.specs.Relocs.{meets, test_place, put_value, put_form, put_in, put_of}

-- no bytes meet no field
none_meet : (at : ℕ) (puts : List Put) → meets at 0 puts ≡ false
none_meet at [] = refl
none_meet at (p ∷ ps) =
    let one : nat_lt (max at p.at) (min (at + 0) (p.at + p.wide)) ≡ false = grind (arith, nat_tests) in
    rw (one, none_meet at ps) refl

pub placed_none : (base : ℕ) (o : Relocatable) (puts : List Put) (r : Reloc) (at w : ℕ) → w ≡ 0 → Ok tt ≡ test_place base o puts r at w
unfolding test_place
placed_none base o puts r at w e = rw (e, none_meet at puts) refl

pub put_passed : (base : ℕ) (o : Relocatable) (starts : List (Option ℕ)) (puts : List Put) (r : Reloc) → None ≡ start_at starts r.target → Ok None ≡ put_of base o starts puts r
unfolding put_of
put_passed base o starts puts r none = ap (put_in base o starts puts r) none

pub put_unknown : (base : ℕ) (o : Relocatable) (starts : List (Option ℕ)) (puts : List Put) (r : Reloc) (start : ℕ) → Some start ≡ start_at starts r.target → None ≡ form_of r.kind → Err (faults.UnknownReloc r.kind) ≡ put_of base o starts puts r
unfolding put_of
put_unknown base o starts puts r start some none =
    ap (put_form base o starts puts r (start + r.offset)) none ∙ ap (put_in base o starts puts r) some

pub put_known : (base : ℕ) (o : Relocatable) (starts : List (Option ℕ)) (puts : List Put) (r : Reloc) (start : ℕ) (form : Form) → Some start ≡ start_at starts r.target → Some form ≡ form_of r.kind → put_form base o starts puts r (start + r.offset) (Some form) ≡ put_of base o starts puts r
unfolding put_of
put_known base o starts puts r start form some is =
    ap (put_form base o starts puts r (start + r.offset)) is ∙ ap (put_in base o starts puts r) some

pub put_misplaced : (base : ℕ) (o : Relocatable) (starts : List (Option ℕ)) (puts : List Put) (r : Reloc) (start : ℕ) (form : Form) (e : LinkFault) → Some start ≡ start_at starts r.target → Some form ≡ form_of r.kind → Err e ≡ test_place base o puts r (start + r.offset) (wide form) → Err e ≡ put_of base o starts puts r
put_misplaced base o starts puts r start form e some is bad =
    let at = start + r.offset in
    ap (λ x. x >>= λ _. symbol_value base starts o.symbols r.symbol >>= λ s. put_value base at form (formula form s r.addend (base + at))) bad
    ∙ put_known base o starts puts r start form some is

pub put_valueless : (base : ℕ) (o : Relocatable) (starts : List (Option ℕ)) (puts : List Put) (r : Reloc) (start : ℕ) (form : Form) (e : LinkFault) → Some start ≡ start_at starts r.target → Some form ≡ form_of r.kind → Ok tt ≡ test_place base o puts r (start + r.offset) (wide form) → Err e ≡ symbol_value base starts o.symbols r.symbol → Err e ≡ put_of base o starts puts r
put_valueless base o starts puts r start form e some is good bad =
    let at = start + r.offset in
    ap (λ x. x >>= λ s. put_value base at form (formula form s r.addend (base + at))) bad
    ∙ ap (λ x. x >>= λ _. symbol_value base starts o.symbols r.symbol >>= λ s. put_value base at form (formula form s r.addend (base + at))) good
    ∙ put_known base o starts puts r start form some is

pub put_given : (base : ℕ) (o : Relocatable) (starts : List (Option ℕ)) (puts : List Put) (r : Reloc) (start : ℕ) (form : Form) (s : ℕ) → Some start ≡ start_at starts r.target → Some form ≡ form_of r.kind → Ok tt ≡ test_place base o puts r (start + r.offset) (wide form) → Ok s ≡ symbol_value base starts o.symbols r.symbol → put_value base (start + r.offset) form (formula form s r.addend (base + (start + r.offset))) ≡ put_of base o starts puts r
put_given base o starts puts r start form s some is good value =
    let at = start + r.offset in
    ap (λ x. x >>= λ s. put_value base at form (formula form s r.addend (base + at))) value
    ∙ ap (λ x. x >>= λ _. symbol_value base starts o.symbols r.symbol >>= λ s. put_value base at form (formula form s r.addend (base + at))) good
    ∙ put_known base o starts puts r start form some is
