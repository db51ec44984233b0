-- The maximal runs of numbers that pass, and how many they are.
use Rattle.std.proofs.Common.{◌≡◌, ℕ, ◌^◌, List, Bool, sym, ◌∙◌, inl, inr, arith}
use Rattle.std.proofs.lemmas.Bool.{cases_lt}
use Rattle.kx_pages.specs.Spans.{Run, in_spans, pages, passing, AreApart}
use Rattle.kx_pages.proofs.Counted.{passing_pages}
use Rattle.kx_pages.proofs.Same.{same_spans}
use Rattle.kx_pages.proofs.Spans.{none_above, passing_same}
use Rattle.elf_image.specs.Image.{runs}
use Rattle.elf_image.proofs.Pages.{runs_apart, runs_has}

-- spans that are apart and have the numbers that pass are their runs
pub are_runs : (f : ℕ → Bool) (rs : List Run) → AreApart 0 rs → ((q : ℕ) → in_spans rs q ≡ f q) → runs f 0 (2 ^ 34) ≡ rs
are_runs f rs a h =
    let b = runs_apart f 0 (2 ^ 34) (omega arith) in
    same_spans 0 0 (runs f 0 (2 ^ 34)) rs b a (λ q. elim (cases_lt q (2 ^ 34)) [
      | inl l ↦ runs_has f 0 (2 ^ 34) q (omega arith) (omega arith) (omega arith) ∙ sym (h q)
      | inr l ↦ none_above 0 (runs f 0 (2 ^ 34)) q b l ∙ sym (none_above 0 rs q a l)
    ])

-- and so many of them pass
pub count_is : (f : ℕ → Bool) (rs : List Run) → AreApart 0 rs → ((q : ℕ) → in_spans rs q ≡ f q) → passing f (2 ^ 34) ≡ pages rs
count_is f rs a h =
    passing_same f (in_spans rs) (2 ^ 34) (λ q. sym (h q)) ∙ sym (passing_pages 0 rs (2 ^ 34) a (omega arith))
