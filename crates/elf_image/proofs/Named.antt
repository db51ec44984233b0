-- The texts of a string table, and symbols with their names.
use Rattle.std.proofs.Common.{◌≡◌, ℕ, suc, ◌+◌, ◌-◌, ◌<◌, ◌≤◌, List, [], ◌∷◌, ◌++◌, length, take, drop, get_or, Bool, true, false, cond, refl, sym, ap, ◌∙◌, Option, Some, None, inl, inr, arith, map, Ok, Err}
use Rattle.std.specs.Prelude.{◌==◌, ◌&&◌, not, nat_lt, min, option_map, position, IfSome, IfNone}
use Rattle.std.specs.List.{slice_get, position_or_len}
use Rattle.std.specs.Str.{bytes_eq}
use Rattle.std.proofs.lemmas.Bool.{cases_lt}
use Rattle.std.proofs.lemmas.Bool.Decides.{nat_tests}
use Rattle.std.proofs.lemmas.List.{take_all, length-drop, get_or-drop, map_push}
use Rattle.std.proofs.lemmas.List.Sums.{fails_before_first, passes_at_first}
use Rattle.std.proofs.lemmas.Option.{slice_get-map}
use Rattle.kx_laws.proofs.Lists.{none_first}
use Rattle.kx_laws.proofs.Options.{some_same}
use Rattle.elf_image.specs.declared.symbol.Symbol.{Symbol}
use Rattle.elf_image.specs.Sym.{Sym}
use Rattle.kx_fields.specs.Fields.{bytes_at}
use Rattle.kx_fields.specs.Formats.{read}
use Rattle.elf_image.specs.declared.fault.ElfFault.TheVariants as faults
use Rattle.elf_image.specs.Symbol.{symbol_entry, name_in, is_index, symbol_of, named_symbol, symbol_in}
use Rattle.elf_image.specs.inner.Symbol.{up_to_nul, text_at, IsToLastNul, called, named}

-- the place of the first NUL, or how many bytes there are
abbrev first : List ℕ → ℕ
first xs = position_or_len (λ b. b == 0) xs

-- ---- up to the first NUL
pub found_nul : (xs : List ℕ) (n : ℕ) → Some n ≡ position (λ b. b == 0) xs → take n xs ≡ up_to_nul xs
found_nul xs n h = by (nat_lt (first xs) (length xs)) (sym h)
  where
    by : (b : Bool) → cond b (Some (first xs)) None ≡ Some n → take n xs ≡ up_to_nul xs
    by true e = ap (λ m. take m xs) (sym (some_same (first xs) n e))
    by false e = cc

pub no_nul : (xs : List ℕ) → None ≡ position (λ b. b == 0) xs → xs ≡ up_to_nul xs
no_nul xs h = sym (take_all (first xs) xs (none_first (λ b. b == 0) xs (sym h)))

up_to_cons : (x : ℕ) (xs : List ℕ) → up_to_nul (x ∷ xs) ≡ cond (x == 0) [] (x ∷ up_to_nul xs)
up_to_cons x xs = by (x == 0) refl
  where
    by : (b : Bool) → (x == 0) ≡ b → up_to_nul (x ∷ xs) ≡ cond b [] (x ∷ up_to_nul xs)
    by true e = ap (λ b. take (cond (not b) (1 + first xs) 0) (x ∷ xs)) e
    by false e = let on : 1 + first xs ≡ suc (first xs) = omega arith in ap (λ b. take (cond (not b) (1 + first xs) 0) (x ∷ xs)) e ∙ ap (λ n. take n (x ∷ xs)) on

-- ---- whether it is a text is seen at one byte more than the text has
as_far : (xs text : List ℕ) → bytes_eq (up_to_nul (take (suc (length text)) xs)) text ≡ bytes_eq (up_to_nul xs) text
as_far [] text = refl
as_far (x ∷ xs) [] = ap (λ l. bytes_eq l []) (up_to_cons x []) ∙ by (x == 0) ∙ sym (ap (λ l. bytes_eq l []) (up_to_cons x xs))
  where
    by : (b : Bool) → bytes_eq (cond b [] (x ∷ up_to_nul [])) [] ≡ bytes_eq (cond b [] (x ∷ up_to_nul xs)) []
    by true = refl
    by false = refl
as_far (x ∷ xs) (y ∷ ys) =
    ap (λ l. bytes_eq l (y ∷ ys)) (up_to_cons x (take (suc (length ys)) xs)) ∙ by (x == 0) (as_far xs ys) ∙ sym (ap (λ l. bytes_eq l (y ∷ ys)) (up_to_cons x xs))
  where
    by : (b : Bool) → bytes_eq (up_to_nul (take (suc (length ys)) xs)) ys ≡ bytes_eq (up_to_nul xs) ys → bytes_eq (cond b [] (x ∷ up_to_nul (take (suc (length ys)) xs))) (y ∷ ys) ≡ bytes_eq (cond b [] (x ∷ up_to_nul xs)) (y ∷ ys)
    by true h = refl
    by false h = ap (λ b. (x == y) && b) h

take_min : (n : ℕ) (xs : List ℕ) → take (min (length xs) n) xs ≡ take n xs
take_min n xs = elim (cases_lt (length xs) n) [
  | inl l ↦ take_all (min (length xs) n) xs (omega (arith, l)) ∙ sym (take_all n xs (omega (arith, l)))
  | inr l ↦ let e : min (length xs) n ≡ n = omega (arith, l) in ap (λ m. take m xs) e
]

pub is_text : (xs text front : List ℕ) (n : ℕ) → n ≡ min (length xs) (length text + 1) → front ≡ take n xs → bytes_eq (up_to_nul front) text ≡ bytes_eq (up_to_nul xs) text
is_text xs text front n far is =
    let on : length text + 1 ≡ suc (length text) = omega arith in
    ap (λ l. bytes_eq (up_to_nul l) text) (is ∙ ap (λ m. take m xs) far ∙ take_min (length text + 1) xs ∙ ap (λ m. take m xs) on) ∙ as_far xs text

-- ---- which names have an end
first_by : (xs : List ℕ) (i : ℕ) → get_or xs i 1 ≡ 0 → first xs ≤ i
first_by xs i is = elim (cases_lt i (first xs)) [
  | inl l ↦ let fails = fails_before_first (λ b. b == 0) xs i 1 l in let zero : (get_or xs i 1 == 0) ≡ true = ap (λ b. b == 0) is in cc
  | inr l ↦ l
]

pub name_ends : (strings : List ℕ) (n start : ℕ) → IsToLastNul strings n → start < n → name_in strings start ≡ Some (text_at strings start)
unfolding name_in text_at
name_ends strings n start to below =
    let xs = drop start strings in
    let long = length-drop start strings in
    let within = to.within in
    let on : start + (n - 1 - start) ≡ n - 1 = omega (arith, below) in
    let zero : get_or xs (n - 1 - start) 1 ≡ 0 = get_or-drop start strings (n - 1 - start) 1 ∙ ap (λ i. get_or strings i 1) on ∙ to.last (omega (arith, below)) in
    let near = first_by xs (n - 1 - start) zero in
    let inside : nat_lt (first xs) (length xs) ≡ true = grind (arith, nat_tests, near, long, within, below) in
    ap (λ b. option_map (λ m. take m xs) (cond b (Some (first xs)) None)) inside

pub name_has_no_end : (strings : List ℕ) (n start : ℕ) → IsToLastNul strings n → n ≤ start → name_in strings start ≡ None
unfolding name_in
name_has_no_end strings n start to past = by (nat_lt (first xs) (length xs)) refl
  where
    xs : List ℕ
    xs = drop start strings

    by : (b : Bool) → nat_lt (first xs) (length xs) ≡ b → option_map (λ m. take m xs) (cond b (Some (first xs)) None) ≡ None
    by false t = refl
    by true t =
        let l : first xs < length xs = grind (arith, nat_tests) in
        let passes = passes_at_first (λ b. b == 0) xs 0 l in
        let here = get_or-drop start strings (first xs) 0 in
        let zero : get_or strings (start + first xs) 0 ≡ 0 = sym here ∙ is_zero (get_or xs (first xs) 0) passes in
        let long = length-drop start strings in
        absurd (to.behind (start + first xs) (omega (arith, past)) (omega (arith, l, long)) zero)
      where
        is_zero : (k : ℕ) → (k == 0) ≡ true → k ≡ 0
        is_zero k h = grind (arith, nat_tests)

-- ---- a symbol, as it was read
pub no_end_told : (file strings : List ℕ) (n sections at k : ℕ) (s : Symbol) → s ≡ read symbol_entry (bytes_at at 24 file) → IsToLastNul strings n → n ≤ s.name → symbol_in file strings sections at k ≡ Err (faults.BadString k)
unfolding symbol_in
no_end_told file strings n sections at k s is to past =
    ap (named_symbol strings sections at k) (sym is) ∙ ap (symbol_of sections at k s) (name_has_no_end strings n s.name to past)

with_end : (file strings : List ℕ) (n sections at k : ℕ) (s : Symbol) (b : Bool) → s ≡ read symbol_entry (bytes_at at 24 file) → IsToLastNul strings n → s.name < n → b ≡ is_index sections s.section → symbol_in file strings sections at k ≡ cond b (Ok (named strings s)) (Err (faults.BadIndex (at + 6)))
unfolding symbol_in
with_end file strings n sections at k s b is to below index =
    ap (named_symbol strings sections at k) (sym is) ∙ ap (symbol_of sections at k s) (name_ends strings n s.name to below)
    ∙ ap (λ b. cond b (Ok (named strings s)) (Err (faults.BadIndex (at + 6)))) (sym index)

pub no_index_told : (file strings : List ℕ) (n sections at k : ℕ) (s : Symbol) (b : Bool) → s ≡ read symbol_entry (bytes_at at 24 file) → IsToLastNul strings n → s.name < n → b ≡ is_index sections s.section → b ≡ false → symbol_in file strings sections at k ≡ Err (faults.BadIndex (at + 6))
no_index_told file strings n sections at k s b is to below index other = with_end file strings n sections at k s false is to below (sym other ∙ index)

pub symbol_told : (file strings : List ℕ) (n sections at k : ℕ) (s : Symbol) (b : Bool) → s ≡ read symbol_entry (bytes_at at 24 file) → IsToLastNul strings n → s.name < n → b ≡ is_index sections s.section → b ≡ true → symbol_in file strings sections at k ≡ Ok (named strings s)
symbol_told file strings n sections at k s b is to below index one = with_end file strings n sections at k s true is to below (sym one ∙ index)

-- ---- a symbol of a table
entry_at : (strings : List ℕ) (ss : List Symbol) (all : List Sym) (i : ℕ) (r : Option Symbol) → all ≡ map (named strings) ss → r ≡ slice_get ss i → slice_get all i ≡ option_map (named strings) r
entry_at strings ss all i r is at = ap (λ l. slice_get l i) is ∙ slice_get-map (named strings) ss i ∙ ap (option_map (named strings)) (sym at)

pub symbol_there : (strings : List ℕ) (ss : List Symbol) (all : List Sym) (i : ℕ) (r : Option Symbol) → all ≡ map (named strings) ss → r ≡ slice_get ss i → IfSome r (λ s. (name : List ℕ) × (slice_get all i ≡ Some (called name s)))
symbol_there strings ss all i None is at = tt
symbol_there strings ss all i (Some s) is at = (text_at strings s.name, entry_at strings ss all i (Some s) is at)

pub symbol_not_there : (strings : List ℕ) (ss : List Symbol) (all : List Sym) (i : ℕ) (r : Option Symbol) → all ≡ map (named strings) ss → r ≡ slice_get ss i → IfNone r (slice_get all i ≡ None)
symbol_not_there strings ss all i None is at = entry_at strings ss all i None is at
symbol_not_there strings ss all i (Some s) is at = tt

-- one symbol more
pub named_more : (strings : List ℕ) (ss new : List Symbol) (s : Symbol) → new ≡ ss ++ s ∷ [] → map (named strings) new ≡ map (named strings) ss ++ named strings s ∷ []
named_more strings ss new s is = ap (map (named strings)) is ∙ map_push (named strings) ss s
