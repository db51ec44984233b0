-- The values of symbols, and their names, one behind another.
use Rattle.std.proofs.Common.{◌≡◌, ℕ, ◌+◌, ◌<◌, List, [], ◌∷◌, ◌++◌, append_assoc, append-nil, length, take, get_or, map, false, cond, sym, ap, ◌∙◌, Option, Some, None, Result, Ok, Err, arith}
use Rattle.std.specs.Prelude.{◌==◌, OnOk}
use Rattle.std.proofs.lemmas.Bool.Decides.{nat_tests}
use Rattle.std.specs.List.{slice_get, flat_map}
use Rattle.std.proofs.lemmas.List.{take_more, map_push}
use Rattle.std.proofs.lemmas.List.Concat.{flat_map-append}
use Rattle.elf_image.specs.declared.symbol.Symbol.{Symbol}
use Rattle.elf_image.specs.inner.Symbol.{named}
use Rattle.elf_image.specs.Sym.{Sym}
use Rattle.purgatory_link.specs.declared.fault.LinkFault.{LinkFault}
use Rattle.purgatory_link.specs.declared.fault.LinkFault.TheVariants as faults
use Rattle.purgatory_link.specs.Sym.{Named}
use Rattle.purgatory_link.specs.Symbols.{home, address, address_in, value_of, symbol_value, name_at, named_at, named_symbols, null_at, null_symbols}

-- ---- the value of a symbol
-- of one that is neither absolute nor common
pub placed_value : (base : ℕ) (starts : List (Option ℕ)) (i : ℕ) (s : Sym) (v : Result ℕ LinkFault) (h : Option ℕ) → (s.section ≡ 65521 → ⊥) → (s.section ≡ 65522 → ⊥) → h ≡ home starts s → v ≡ address_in base i s h → v ≡ value_of base starts i (Some s)
placed_value base starts i s v h absolute common at is =
    let a : (s.section == 65521) ≡ false = grind (arith, nat_tests, absolute) in
    let c : (s.section == 65522) ≡ false = grind (arith, nat_tests, common) in
    is ∙ ap (address_in base i s) at ∙ sym (ap (λ b. cond b (Err (faults.Common i)) (address_in base i s (home starts s))) c)
    ∙ sym (ap (λ b. cond b (Ok s.value) (cond (s.section == 65522) (Err (faults.Common i)) (address_in base i s (home starts s)))) a)

-- of another than symbol 0
pub value_there : (base : ℕ) (starts : List (Option ℕ)) (symbols : List Sym) (i : ℕ) (o : Option Sym) (v : Result ℕ LinkFault) → (i ≡ 0 → ⊥) → slice_get symbols i ≡ o → v ≡ value_of base starts i o → v ≡ symbol_value base starts symbols i
unfolding symbol_value
value_there base starts symbols i o v some at is =
    let other : (i == 0) ≡ false = grind (arith, nat_tests, some) in
    is ∙ ap (value_of base starts i) (sym at) ∙ sym (ap (λ b. cond b (Ok 0) (value_of base starts i (slice_get symbols i))) other)

-- ---- the names
pub on_ok : {T E : Type 0} (P Q : Type 0) (r : Result T E) → (P → Q) → OnOk r P → OnOk r Q
on_ok P Q (Ok x) f h = f h
on_ok P Q (Err e) f h = tt

pub named_here : (base : ℕ) (starts : List (Option ℕ)) (s : Sym) (start a : ℕ) → Some start ≡ home starts s → a ≡ address base start s → name_at a s ∷ [] ≡ named_symbols base starts s
named_here base starts s start a there is = ap (λ a. name_at a s ∷ []) is ∙ ap (named_at base s) there

pub not_named_here : (base : ℕ) (starts : List (Option ℕ)) (s : Sym) (names : List Named) → None ≡ home starts s → names ≡ names ++ named_symbols base starts s
not_named_here base starts s names none = sym (append-nil names) ∙ ap (λ o. names ++ named_at base s o) none

pub null_here : (starts : List (Option ℕ)) (s : Sym) (start : ℕ) → Some start ≡ home starts s → name_at 0 s ∷ [] ≡ null_symbols starts s
null_here starts s start there = ap (null_at s) there

pub no_null_here : (starts : List (Option ℕ)) (s : Sym) (names : List Named) → None ≡ home starts s → names ≡ names ++ null_symbols starts s
no_null_here starts s names none = sym (append-nil names) ∙ ap (λ o. names ++ null_at s o) none

-- those of one symbol more
pub pushed_more : (f : Sym → List Named) (strings : List ℕ) (ss : List Symbol) (i : ℕ) (d : Symbol) (old now new : List Named) → i < length ss → now ≡ old ++ flat_map f (map (named strings) (take i ss)) → new ≡ now ++ f (named strings (get_or ss i d)) → new ≡ old ++ flat_map f (map (named strings) (take (i + 1) ss))
pushed_more f strings ss i d old now new below front here =
    let g : List Symbol → List Named = λ l. flat_map f (map (named strings) l) in
    let s = get_or ss i d in
    let one : g (take (i + 1) ss) ≡ g (take i ss) ++ f (named strings s) =
    ap g (take_more ss i d below) ∙ ap (flat_map f) (map_push (named strings) (take i ss) s)
    ∙ flat_map-append f (map (named strings) (take i ss)) (named strings s ∷ []) ∙ ap (λ l. g (take i ss) ++ l) (append-nil (f (named strings s))) in
    here ∙ ap (λ l. l ++ f (named strings s)) front ∙ append_assoc old (g (take i ss)) (f (named strings s)) ∙ ap (λ l. old ++ l) (sym one)
