-- The reader takes exactly the lines of the grammar.
use Rattle.std.proofs.Common.{◌≡◌, ℕ, List, [], ◌∷◌, ◌++◌, drop, Bool, true, false, refl, sym, ap, ◌∙◌, Some, None, Option, arith}
use Rattle.std.specs.Prelude.{◌==◌, ◌↔◌, not, nat_eq, codes, if◌then◌else◌, unwrap_or}
use Rattle.std.specs.List.{list_all, starts_with}
use Rattle.std.proofs.lemmas.Bool.{and_parts, and_from}
use Rattle.kx_laws.proofs.Booleans.{not_true}
use Rattle.kx_laws.proofs.Lists.{begins_with}
use Rattle.text_lines.specs.Lines.{cut, number}
use Rattle.text_lines.proofs.Cutting.{has_no, cut_parts, cut_behind, number_digits, number_has_no}
use Rattle.memory_map.specs.declared.row.Class.{Class}
use Rattle.memory_map.specs.Text.{class_of, without_spaces, entry_with_name, entry_to, entry_from, entry_of}
use Rattle.memory_map.specs.inner.Grammar.{IsEntry}

abbrev Entry : Type 0
Entry = ℕ × ℕ × Class

record Same (x y : Entry) : Type 0 where
  first : x.0 ≡ y.0
  last : x.1 ≡ y.1
  class : x.2 ≡ y.2

same_entry : (x y : Entry) → ◌≡◌ {A = Option Entry} (Some x) (Some y) → Same x y
same_entry x y h = let e = ap (λ o. unwrap_or {T = Entry} o x) h in record { first = ap (λ z. z.0) e; last = ap (λ z. z.1) e; class = ap (λ z. z.2) e }

-- ---- the spaces at the front
record Spaced (line : List ℕ) : Type 0 where
  spaces : List ℕ
  all : list_all (λ b. b == 32) spaces ≡ true
  whole : line ≡ spaces ++ without_spaces line

line_is_spaced : (line : List ℕ) → Spaced line
line_is_spaced [] = record { spaces = []; all = refl; whole = refl }
line_is_spaced (b ∷ bs) = go (b == 32) refl (line_is_spaced bs)
  where
    go : (c : Bool) → (b == 32) ≡ c → Spaced bs → Spaced (b ∷ bs)
    go true e s = record { spaces = b ∷ s.spaces; all = and_from (b == 32) _ e s.all; whole = ap (λ xs. b ∷ xs) s.whole ∙ ap (λ c. b ∷ (s.spaces ++ (if c then without_spaces bs else b ∷ bs))) (sym e) }
    go false e s = record { spaces = []; all = refl; whole = ap (λ c. if c then without_spaces bs else b ∷ bs) (sym e) }

past_spaces : (spaces rest : List ℕ) → list_all (λ b. b == 32) spaces ≡ true → without_spaces (spaces ++ rest) ≡ without_spaces rest
past_spaces [] rest all = refl
past_spaces (b ∷ bs) rest all =
    let both = and_parts (b == 32) (list_all (λ b. b == 32) bs) all in
    ap (λ c. if c then without_spaces (bs ++ rest) else b ∷ (bs ++ rest)) both.0 ∙ past_spaces bs rest both.1

-- a number begins with no space
no_space : (start rest : List ℕ) (first : ℕ) → number start ≡ Some first → without_spaces (start ++ rest) ≡ start ++ rest
no_space [] rest first is = let some = (number_digits [] first is).1 in absurd (omega (arith, some))
no_space (b ∷ bs) rest first is =
    let other = (and_parts (not (b == 32)) (has_no 32 bs) (number_has_no 32 (b ∷ bs) first refl is)).0 in
    ap (λ c. if c then without_spaces (bs ++ rest) else b ∷ (bs ++ rest)) (not_true (b == 32) other)

-- ---- what is read is a line of the grammar
module _ (line : List ℕ) (first last : ℕ) (class : Class) where
  by_numbers : (p q : List ℕ × List ℕ) → cut 45 (without_spaces line) ≡ Some p → cut 32 p.1 ≡ Some q → (b : Bool) → starts_with nat_eq q.1 (codes ": ") ≡ b → (x : Option ℕ) → number p.0 ≡ x → (y : Option ℕ) → number q.0 ≡ y
      → (if not b then None else entry_with_name x y (drop 2 q.1)) ≡ Some (first, last, class) → IsEntry line first last class
  by_numbers p q e f false s x n y m h = cc
  by_numbers p q e f true s None n y m h = cc
  by_numbers p q e f true s (Some a) n None m h = cc
  by_numbers p q e f true s (Some a) n (Some z) m h =
      let same = same_entry (a, z, class_of (drop 2 q.1)) (first, last, class) h in
      let front = line_is_spaced line in (
        drop 2 q.1,
        record {
          spaces = front.spaces;
          start = p.0;
          stop = q.0;
          are_spaces = front.all;
          starts = n ∙ ap (λ (k : ℕ). Some k) same.first;
          stops = m ∙ ap (λ (k : ℕ). Some k) same.last;
          spelled = front.whole
              ∙ ap (λ xs. front.spaces ++ xs) (cut_parts 45 (without_spaces line) p.0 p.1 e)
              ∙ ap (λ xs. front.spaces ++ (p.0 ++ (45 ∷ xs))) (cut_parts 32 p.1 q.0 q.1 f)
              ∙ ap (λ xs. front.spaces ++ (p.0 ++ (45 ∷ (q.0 ++ (32 ∷ xs))))) (begins_with q.1 (codes ": ") s);
        },
        sym same.class,
      )

  by_name : (p : List ℕ × List ℕ) → cut 45 (without_spaces line) ≡ Some p → (o : Option (List ℕ × List ℕ)) → cut 32 p.1 ≡ o → entry_to (number p.0) o ≡ Some (first, last, class) → IsEntry line first last class
  by_name p e None f h = cc
  by_name p e (Some q) f h = by_numbers p q e f (starts_with nat_eq q.1 (codes ": ")) refl (number p.0) refl (number q.0) refl h

  by_dash : (o : Option (List ℕ × List ℕ)) → cut 45 (without_spaces line) ≡ o → entry_from o ≡ Some (first, last, class) → IsEntry line first last class
  by_dash None e h = cc
  by_dash (Some p) e h = by_name p e (cut 32 p.1) refl h

  takes : entry_of line ≡ Some (first, last, class) → IsEntry line first last class
  unfolding entry_of
  takes h = by_dash (cut 45 (without_spaces line)) refl h

  -- ---- each line of the grammar is read
  numbers_are : (x y : Option ℕ) (name : List ℕ) → x ≡ Some first → y ≡ Some last → class ≡ class_of name → entry_with_name x y name ≡ Some (first, last, class)
  numbers_are x y name p q r = rw (p, q, r) refl

  gives : IsEntry line first last class → entry_of line ≡ Some (first, last, class)
  unfolding entry_of
  gives (name, k, is) =
      let after = k.stop ++ (codes " : " ++ name) in
      let rest = k.start ++ (codes "-" ++ after) in
      let front : without_spaces line ≡ rest = ap without_spaces k.spelled ∙ past_spaces k.spaces rest k.are_spaces ∙ no_space k.start (codes "-" ++ after) first k.starts in
      let dash : cut 45 rest ≡ Some (k.start, after) = cut_behind 45 k.start after (number_has_no 45 k.start first refl k.starts) in
      let space : cut 32 after ≡ Some (k.stop, codes ": " ++ name) = cut_behind 32 k.stop (codes ": " ++ name) (number_has_no 32 k.stop last refl k.stops) in
      ap (λ xs. entry_from (cut 45 xs)) front
      ∙ ap entry_from dash
      ∙ ap (entry_to (number k.start)) space
      ∙ numbers_are (number k.start) (number k.stop) name k.starts k.stops is

pub entries_are_map_lines : (line : List ℕ) (first last : ℕ) (class : Class) → (entry_of line ≡ Some (first, last, class)) ↔ IsEntry line first last class
entries_are_map_lines line first last class = (takes line first last class, gives line first last class)
