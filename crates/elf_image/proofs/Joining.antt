-- Loads taken in one after another, and the pages that they meet.
use Rattle.std.proofs.Common.{◌≡◌, ℕ, zero, suc, ◌+◌, ◌<◌, ◌≤◌, ◌||◌, List, [], ◌∷◌, ◌++◌, append_assoc, length, take, drop, get_or, true, false, refl, sym, ap, ◌∙◌, arith}
use Rattle.std.specs.Prelude.{nat_le, ◌==◌}
use Rattle.std.specs.List.{AllByRecursion}
use Rattle.std.proofs.lemmas.Bool.Decides.{nat_tests}
use Rattle.std.proofs.lemmas.Bool.{cond-true, cond-false}
use Rattle.std.proofs.lemmas.List.{drop_more, drop_all, take_all}
use Rattle.std.proofs.lemmas.List.Folds.{list_any-append, list_any_more}
use Rattle.kx_laws.proofs.Booleans.{or_false}
use Rattle.kx_pages.specs.Spans.{Run, in_span, in_spans}
use Rattle.segments.specs.Values.{SegmentValue}
use Rattle.elf_image.specs.declared.load.Load.{Load}
use Rattle.elf_image.specs.Image.{load_meets_page, is_met}
use Rattle.elf_image.specs.inner.Joined.{first_of, end_of, grown, part, joined_to, join}

-- what stands where no load does
abbrev pub no_load : Load
no_load = record { offset = 0; filesz = 0; paddr = 0; memsz = 0 }

pub each_at : (P : Load → Type 0) (xs : List Load) (i : ℕ) (d : Load) → AllByRecursion P xs → i < length xs → P (get_or xs i d)
each_at P [] i d all l = absurd (omega (arith, l))
each_at P (y ∷ ys) zero d all l = all.0
each_at P (y ∷ ys) (suc i) d all l = each_at P ys i d all.1 (omega (arith, l))

pub one_more : (file bytes : List ℕ) (mem stop i : ℕ) (ls : List Load) (d : Load) (list new : List SegmentValue) (bytes2 : List ℕ) (mem2 stop2 : ℕ) (all : List SegmentValue) → i < length ls → ((rest : List Load) → new ++ joined_to file bytes2 mem2 stop2 rest ≡ list ++ joined_to file bytes mem stop (get_or ls i d ∷ rest)) → list ++ joined_to file bytes mem stop (drop i ls) ≡ all → new ++ joined_to file bytes2 mem2 stop2 (drop (i + 1) ls) ≡ all
one_more file bytes mem stop i ls d list new bytes2 mem2 stop2 all l h same =
    h (drop (i + 1) ls) ∙ ap (λ x. list ++ joined_to file bytes mem stop x) (sym (drop_more ls i d l)) ∙ same

pub is_up_to : (l : Load) (n stop : ℕ) → n ≡ first_of l → n ≤ stop → nat_le (first_of l) stop ≡ true
is_up_to l n stop e h = grind (arith, nat_tests)

pub is_beyond : (l : Load) (n stop : ℕ) → n ≡ first_of l → stop < n → nat_le (first_of l) stop ≡ false
is_beyond l n stop e h = grind (arith, nat_tests)

pub is_none : (n : ℕ) → true ≡ (n == 0) → n ≡ 0
is_none n h = grind (arith, nat_tests)

pub touches : (file bytes more : List ℕ) (mem stop mem2 stop2 : ℕ) (l : Load) (ls : List Load) → nat_le (first_of l) stop ≡ true → more ≡ grown file l bytes mem → mem2 ≡ mem → stop2 ≡ end_of l → joined_to file more mem2 stop2 ls ≡ joined_to file bytes mem stop (l ∷ ls)
unfolding joined_to
touches file bytes more mem stop mem2 stop2 l ls t b m s =
    ap (λ x. joined_to file x mem2 stop2 ls) b
    ∙ ap (λ x. joined_to file (grown file l bytes mem) x stop2 ls) m
    ∙ ap (λ x. joined_to file (grown file l bytes mem) mem x ls) s
    ∙ sym (cond-true _ _ _ t)

pub lies_apart : (file bytes more : List ℕ) (mem stop mem2 stop2 : ℕ) (l : Load) (ls : List Load) (list new : List SegmentValue) → nat_le (first_of l) stop ≡ false → new ≡ list ++ part bytes mem stop ∷ [] → more ≡ grown file l [] (first_of l) → mem2 ≡ first_of l → stop2 ≡ end_of l → new ++ joined_to file more mem2 stop2 ls ≡ list ++ joined_to file bytes mem stop (l ∷ ls)
unfolding joined_to
lies_apart file bytes more mem stop mem2 stop2 l ls list new t n b m s =
    ap (λ x. x ++ joined_to file more mem2 stop2 ls) n
    ∙ append_assoc list (part bytes mem stop ∷ []) (joined_to file more mem2 stop2 ls)
    ∙ ap (λ x. list ++ (part bytes mem stop ∷ x))
    (ap (λ x. joined_to file x mem2 stop2 ls) b
    ∙ ap (λ x. joined_to file (grown file l [] (first_of l)) x stop2 ls) m
    ∙ ap (λ x. joined_to file (grown file l [] (first_of l)) (first_of l) x ls) s)
    ∙ ap (λ x. list ++ x) (sym (cond-false _ _ _ t))

pub joined-none : (file : List ℕ) (ls : List Load) → length ls ≡ 0 → [] ≡ join file ls
unfolding join
joined-none file [] e = refl
joined-none file (l ∷ ls) e = absurd (omega (arith, e))

pub join_first : (file bytes : List ℕ) (mem stop : ℕ) (l : Load) (ls : List Load) (list : List SegmentValue) → 0 < length ls → l ≡ get_or ls 0 no_load → list ≡ [] → bytes ≡ grown file l [] (first_of l) → mem ≡ first_of l → stop ≡ end_of l → list ++ joined_to file bytes mem stop (drop 1 ls) ≡ join file ls
unfolding join
join_first file bytes mem stop l [] list some is none b m s = absurd (omega (arith, some))
join_first file bytes mem stop l (x ∷ xs) list some is none b m s =
    ap (λ y. y ++ joined_to file bytes mem stop xs) none
    ∙ ap (λ y. joined_to file y mem stop xs) b
    ∙ ap (λ y. joined_to file (grown file l [] (first_of l)) y stop xs) m
    ∙ ap (λ y. joined_to file (grown file l [] (first_of l)) (first_of l) y xs) s
    ∙ ap (λ y. joined_to file (grown file y [] (first_of y)) (first_of y) (end_of y) xs) is

pub join_last : (file bytes : List ℕ) (mem stop i : ℕ) (ls : List Load) (list new all : List SegmentValue) → length ls ≤ i → new ≡ list ++ part bytes mem stop ∷ [] → list ++ joined_to file bytes mem stop (drop i ls) ≡ all → new ≡ all
unfolding joined_to
join_last file bytes mem stop i ls list new all l n h =
    n ∙ ap (λ x. list ++ joined_to file bytes mem stop x) (sym (drop_all i ls l)) ∙ h

pub met_more : (ls : List Load) (i : ℕ) (d : Load) (spans new : List Run) (s : Run) → i < length ls → new ≡ spans ++ s ∷ [] → ((p : ℕ) → in_span s p ≡ load_meets_page p (get_or ls i d)) → ((p : ℕ) → in_spans spans p ≡ is_met (take i ls) p) → (p : ℕ) → in_spans new p ≡ is_met (take (i + 1) ls) p
met_more ls i d spans new s less n one old p =
    ap (λ x. in_spans x p) n ∙ list_any-append (λ r. in_span r p) spans (s ∷ [])
    ∙ ap (λ b. in_spans spans p || b) (or_false (in_span s p) ∙ one p)
    ∙ ap (λ b. b || load_meets_page p (get_or ls i d)) (old p)
    ∙ sym (list_any_more (load_meets_page p) ls i d less)

pub met_all : (ls : List Load) (i : ℕ) (spans : List Run) → length ls ≤ i → ((p : ℕ) → in_spans spans p ≡ is_met (take i ls) p) → (p : ℕ) → in_spans spans p ≡ is_met ls p
met_all ls i spans l h p = h p ∙ ap (λ x. is_met x p) (take_all i ls l)
