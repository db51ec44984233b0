-- What a relocation that is not refused puts.
use Rattle.std.proofs.Common.{◌≡◌, ℕ, ◌+◌, ◌^◌, ◌<◌, ◌≤◌, ◌⊎◌, inl, inr, List, Bool, true, false, cond, refl, sym, ap, ◌∙◌, subst, Option, Some, None, Result, Ok, Err, arith}
use Rattle.std.specs.Prelude.{nat_lt, ◌&&◌, not, ◌==◌, ℤ, pos, negsuc, IfSome}
use Rattle.std.proofs.lemmas.Bool.Decides.{nat_tests}
use Rattle.elf_image.specs.declared.reloc.Reloc.{Reloc}
use Rattle.elf_image.specs.Object.{Relocatable}
use Rattle.purgatory_link.specs.declared.form.Form.{Form}
use Rattle.purgatory_link.specs.declared.form.Form.TheVariants as forms
use Rattle.purgatory_link.specs.declared.put.Put.{Put}
use Rattle.purgatory_link.specs.declared.fault.LinkFault.{LinkFault}
use Rattle.kx_laws.specs.Results.{◌>>=◌}
use Rattle.purgatory_link.specs.Symbols.{start_at, symbol_value}
use Rattle.purgatory_link.specs.Formulas.{form_of, wide, formula, fits, modulo}
use Rattle.purgatory_link.specs.Relocs.{size_at, meets, test_place, put_value, put_form, put_in, put_of}
use Rattle.purgatory_link.specs.inner.Relocs.{HasRoom, IsPut}

pub bind_ok : {A B : Type 0} (r : Result A LinkFault) (f : A → Result B LinkFault) (y : B) → (r >>= f) ≡ Ok y → (x : A) × (r ≡ Ok x) × (f x ≡ Ok y)
bind_ok (Ok x) f y h = (x, refl, h)
bind_ok (Err e) f y h = cc

guard_ok : {A : Type 0} (b : Bool) (e : LinkFault) (r : Result A LinkFault) (y : A) → cond b (Err e) r ≡ Ok y → (b ≡ false) × (r ≡ Ok y)
guard_ok true e r y h = cc
guard_ok false e r y h = (refl, h)

then_ok : {A : Type 0} (b : Bool) (e : LinkFault) (x y : A) → cond b (Ok x) (Err e) ≡ Ok y → (b ≡ true) × (x ≡ y)
then_ok true e x y h = (refl, cc)
then_ok false e x y h = cc

some_same : (p q : Put) → Some p ≡ Some q → p ≡ q
some_same p q h = cc

some_ok : (p q : Put) → (let x : Result (Option Put) LinkFault = Ok (Some p) in x ≡ Ok (Some q)) → p ≡ q
some_ok p q h = cc

modulo_small : (m : ℕ) (v : ℤ) → 0 < m → modulo m v < m
modulo_small m (pos n) h = omega arith
modulo_small m (negsuc n) h = omega arith

-- a field with a value
pub record Valued (place : ℕ) (form : Form) (v : ℤ) (p : Put) : Type 0 where
  pub at_is : p.at ≡ place
  pub wide_is : p.wide ≡ wide form
  pub value_is : p.value ≡ modulo (256 ^ wide form) v
  pub small : (wide form ≡ 4) ⊎ (wide form ≡ 8)

valued_by : (base at : ℕ) (form : Form) (v : ℤ) (p : Put) → (wide form ≡ 4) ⊎ (wide form ≡ 8) → record { at = at; wide = wide form; value = modulo (256 ^ wide form) v } ≡ p → Valued at form v p
valued_by base at form v p small e = record {
  at_is = sym (ap (λ (q : Put). q.at) e);
  wide_is = sym (ap (λ (q : Put). q.wide) e);
  value_is = sym (ap (λ (q : Put). q.value) e);
  small = small;
}

pub put_has_value : (base at : ℕ) (form : Form) (v : ℤ) (p : Put) → put_value base at form v ≡ Ok (Some p) → Valued at form v p
put_has_value base at forms.Empty v p h = cc
put_has_value base at forms.Whole v p h = valued_by base at forms.Whole v p (inr refl) (some_ok _ p h)
put_has_value base at forms.Relative v p h = valued_by base at forms.Relative v p (inl refl) (some_same _ p (then_ok (fits forms.Relative v) _ _ _ h).1)
put_has_value base at forms.Unsigned v p h = valued_by base at forms.Unsigned v p (inl refl) (some_same _ p (then_ok (fits forms.Unsigned v) _ _ _ h).1)
put_has_value base at forms.Signed v p h = valued_by base at forms.Signed v p (inl refl) (some_same _ p (then_ok (fits forms.Signed v) _ _ _ h).1)

-- a field that is at its place
pub record Stands (o : Relocatable) (puts : List Put) (r : Reloc) (at w : ℕ) : Type 0 where
  pub within : 0 < w → r.offset + w ≤ size_at o r.target
  pub clear : meets at w puts ≡ false

within_by : (w off size : ℕ) → (not (w == 0) && nat_lt size (off + w)) ≡ false → 0 < w → off + w ≤ size
within_by w off size h some = grind (arith, nat_tests)

pub stands : (base : ℕ) (o : Relocatable) (puts : List Put) (r : Reloc) (at w : ℕ) (x : Unit {0}) → test_place base o puts r at w ≡ Ok x → Stands o puts r at w
unfolding test_place
stands base o puts r at w x h =
    let a = guard_ok (not (w == 0) && nat_lt (size_at o r.target) (r.offset + w)) _ _ x h in
    let b = guard_ok (meets at w puts) _ _ x a.1 in
    record { within = within_by w r.offset (size_at o r.target) a.0; clear = b.0 }

-- all of it
pub record Found (base : ℕ) (o : Relocatable) (starts : List (Option ℕ)) (puts : List Put) (r : Reloc) (p : Put) : Type 0 where
  pub start : ℕ
  pub form : Form
  pub symbol : ℕ
  pub starts_at : start_at starts r.target ≡ Some start
  pub has_form : form_of r.kind ≡ Some form
  pub has_symbol : symbol_value base starts o.symbols r.symbol ≡ Ok symbol
  pub stands : Stands o puts r (start + r.offset) (wide form)
  pub valued : Valued (start + r.offset) form (formula form symbol r.addend (base + (start + r.offset))) p

found_form : (base : ℕ) (o : Relocatable) (starts : List (Option ℕ)) (puts : List Put) (r : Reloc) (p : Put) (start : ℕ) (f : Option Form) → start_at starts r.target ≡ Some start → form_of r.kind ≡ f → put_form base o starts puts r (start + r.offset) f ≡ Ok (Some p) → Found base o starts puts r p
found_form base o starts puts r p start None s e h = cc
found_form base o starts puts r p start (Some form) s e h =
    let at = start + r.offset in
    let a = bind_ok (test_place base o puts r at (wide form)) (λ _. symbol_value base starts o.symbols r.symbol >>= λ s. put_value base at form (formula form s r.addend (base + at))) (Some p) h in
    let b = bind_ok (symbol_value base starts o.symbols r.symbol) (λ s. put_value base at form (formula form s r.addend (base + at))) (Some p) a.2 in
    record {
      start = start;
      form = form;
      symbol = b.0;
      starts_at = s;
      has_form = e;
      has_symbol = b.1;
      stands = stands base o puts r at (wide form) a.0 a.1;
      valued = put_has_value base at form (formula form b.0 r.addend (base + at)) p b.2;
    }

found_in : (base : ℕ) (o : Relocatable) (starts : List (Option ℕ)) (puts : List Put) (r : Reloc) (p : Put) (s : Option ℕ) → start_at starts r.target ≡ s → put_in base o starts puts r s ≡ Ok (Some p) → Found base o starts puts r p
found_in base o starts puts r p None e h = cc
found_in base o starts puts r p (Some start) e h = found_form base o starts puts r p start (form_of r.kind) e refl h

pub found : (base : ℕ) (o : Relocatable) (starts : List (Option ℕ)) (puts : List Put) (r : Reloc) (p : Put) → put_of base o starts puts r ≡ Ok (Some p) → Found base o starts puts r p
unfolding put_of
found base o starts puts r p h = found_in base o starts puts r p (start_at starts r.target) refl h

pow_some : (w : ℕ) → (w ≡ 4) ⊎ (w ≡ 8) → 0 < 256 ^ w
pow_some w (inl e) = subst (λ n. 0 < 256 ^ n) (sym e) (omega arith)
pow_some w (inr e) = subst (λ n. 0 < 256 ^ n) (sym e) (omega arith)

some_wide : (w : ℕ) → (w ≡ 4) ⊎ (w ≡ 8) → 0 < w
some_wide w (inl e) = omega (arith, e)
some_wide w (inr e) = omega (arith, e)

-- it is a field within the linked bytes
pub put_is : (base : ℕ) (o : Relocatable) (starts : List (Option ℕ)) (puts : List Put) (r : Reloc) (p : Put) (n : ℕ) → HasRoom o starts n → Found base o starts puts r p → IsPut n p
put_is base o starts puts r p n room f =
    let v = f.valued in
    let w = wide f.form in
    let room_here = room.fits r.target f.start f.starts_at in
    let within = f.stands.within (some_wide w v.small) in
    record {
      inside = omega (arith, v.at_is, v.wide_is, room_here, within);
      wide = subst (λ n. (n ≡ 4) ⊎ (n ≡ 8)) (sym v.wide_is) v.small;
      fits = subst (λ n. p.value < 256 ^ n) (sym v.wide_is) (subst (λ n. n < 256 ^ w) (sym v.value_is) (modulo_small (256 ^ w) (formula f.form f.symbol r.addend (base + (f.start + r.offset))) (pow_some w v.small)));
    }

-- and meets no earlier one
pub put_clear : (base : ℕ) (o : Relocatable) (starts : List (Option ℕ)) (puts : List Put) (r : Reloc) (p : Put) → Found base o starts puts r p → meets p.at p.wide puts ≡ false
put_clear base o starts puts r p f =
    ap (λ a. meets a p.wide puts) f.valued.at_is ∙ ap (λ w. meets (f.start + r.offset) w puts) f.valued.wide_is ∙ f.stands.clear

pub some_put : (base : ℕ) (o : Relocatable) (starts : List (Option ℕ)) (puts : List Put) (r : Reloc) (x : Option Put) (n : ℕ) → HasRoom o starts n → put_of base o starts puts r ≡ Ok x → IfSome x (λ p. IsPut n p)
some_put base o starts puts r None n room h = tt
some_put base o starts puts r (Some p) n room h = put_is base o starts puts r p n room (found base o starts puts r p h)
