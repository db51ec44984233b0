-- The reader takes exactly the lines of the grammar.
use Rattle.std.proofs.Common.{◌≡◌, ℕ, List, refl, ap, ◌∙◌, Some, None, Option, inl, inr}
use Rattle.std.specs.Prelude.{◌↔◌, unwrap_or}
use Rattle.text_lines.specs.Lines.{both, cut, number}
use Rattle.text_lines.proofs.Cutting.{cut_parts, cut_behind, cut_nowhere, number_has_no}
use Rattle.page_pool.specs.File.{range_by, range_of}
use Rattle.page_pool.specs.inner.Grammar.{IsPoolLine}

same_range : (x y : ℕ × ℕ) → ◌≡◌ {A = Option (ℕ × ℕ)} (Some x) (Some y) → x ≡ y
same_range x y h = ap (λ o. unwrap_or {T = ℕ × ℕ} o x) h

both_are : (x y : Option ℕ) (first last : ℕ) → both x y ≡ Some (first, last) → (x ≡ Some first) × (y ≡ Some last)
both_are None y first last h = cc
both_are (Some a) None first last h = cc
both_are (Some a) (Some b) first last h =
    let e = same_range (a, b) (first, last) h in
    (ap (λ r. Some r.0) e, ap (λ r. Some r.1) e)

both_of : (x y : Option ℕ) (first last : ℕ) → x ≡ Some first → y ≡ Some last → both x y ≡ Some (first, last)
both_of x y first last p q = rw (p, q) refl

one_number : (first last : ℕ) (o : Option ℕ) → o ≡ Some first → o ≡ Some last → first ≡ last
one_number first last o p q = cc

module _ (line : List ℕ) (first last : ℕ) where
  by_dash : (o : Option (List ℕ × List ℕ)) → cut 45 line ≡ o → range_by o line ≡ Some (first, last) → IsPoolLine line first last
  by_dash None e h =
      let are = both_are (number line) (number line) first last h in
      inl (record { spelled = are.0; one = one_number first last (number line) are.0 are.1 })
  by_dash (Some p) e h =
      let are = both_are (number p.0) (number p.1) first last h in
      inr (record { start = p.0; stop = p.1; starts = are.0; stops = are.1; spelled = cut_parts 45 line p.0 p.1 e })

  takes : range_of line ≡ Some (first, last) → IsPoolLine line first last
  unfolding range_of
  takes h = by_dash (cut 45 line) refl h

  gives : IsPoolLine line first last → range_of line ≡ Some (first, last)
  unfolding range_of
  gives (inl k) =
      ap (λ o. range_by o line) (cut_nowhere 45 line (number_has_no 45 line first refl k.spelled))
      ∙ both_of (number line) (number line) first last k.spelled (k.spelled ∙ ap (λ (n : ℕ). Some n) k.one)
  gives (inr k) =
      ap (λ o. range_by o line) (ap (cut 45) k.spelled ∙ cut_behind 45 k.start k.stop (number_has_no 45 k.start first refl k.starts))
      ∙ both_of (number k.start) (number k.stop) first last k.starts k.stops

pub ranges_are_pool_lines : (line : List ℕ) (first last : ℕ) → (range_of line ≡ Some (first, last)) ↔ IsPoolLine line first last
ranges_are_pool_lines line first last = (takes line first last, gives line first last)
