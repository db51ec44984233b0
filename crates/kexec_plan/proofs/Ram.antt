-- The runs of the pages that are RAM.
use Rattle.std.proofs.Common.{◌≡◌, ℕ, ◌+◌, ◌^◌, ◌≤◌, List, [], ◌∷◌, false, refl, sym, ◌∙◌, inl, inr, arith}
use Rattle.std.proofs.lemmas.Bool.Decides.{nat_tests}
use Rattle.std.proofs.lemmas.Bool.{cases_lt, or_from}
use Rattle.kx_pages.specs.Spans.{Run, end, in_span, in_spans, AreApart}
use Rattle.kx_pages.proofs.Same.{same_spans}
use Rattle.memory_map.specs.Maps.{MapValue, is_ram}
use Rattle.elf_image.specs.Image.{runs}
use Rattle.elf_image.proofs.Pages.{runs_apart, runs_has}
use Rattle.kexec_plan.specs.Rules.{ram_runs}

not_behind : (r : Run) (q : ℕ) → end r ≤ q → in_span r q ≡ false
not_behind r q h = grind (arith, nat_tests)

-- spans that are apart have no page at the limit or above
none_above : (b : ℕ) (rs : List Run) (q : ℕ) → AreApart b rs → 2 ^ 34 ≤ q → in_spans rs q ≡ false
none_above b [] q a h = refl
none_above b (r ∷ rs) q a h = or_from _ _ (not_behind r q (omega (arith, a.2, h))) (none_above (end r + 1) rs q a.3 h)

-- spans that are apart and have the RAM's pages are its runs
pub are_ram_runs : (map : MapValue) (rs : List Run) → AreApart 0 rs → ((q : ℕ) → in_spans rs q ≡ is_ram map q) → ram_runs map ≡ rs
unfolding ram_runs
are_ram_runs map rs a h =
    let b = runs_apart (is_ram map) 0 (2 ^ 34) (omega arith) in
    same_spans 0 0 (runs (is_ram map) 0 (2 ^ 34)) rs b a (λ q. elim (cases_lt q (2 ^ 34)) [
      | inl l ↦ runs_has (is_ram map) 0 (2 ^ 34) q (omega arith) (omega arith) (omega arith) ∙ sym (h q)
      | inr l ↦ none_above 0 (runs (is_ram map) 0 (2 ^ 34)) q b l ∙ sym (none_above 0 rs q a l)
    ])
