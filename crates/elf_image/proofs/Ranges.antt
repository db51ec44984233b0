-- The ranges of the loads that have memory, and the loads.
use Rattle.std.proofs.Common.{◌≡◌, ◌<◌, List, [], ◌∷◌, refl, sym, ap, ◌∙◌, arith, inl, inr}
use Rattle.std.specs.Prelude.{◌&&◌, ◌||◌}
use Rattle.std.specs.List.{list_any}
use Rattle.std.proofs.lemmas.Bool.{cases_lt, lt-ltb, le-ltb}
use Rattle.kx_laws.proofs.Booleans.{or_false}
use Rattle.range_index.specs.inner.Ranges.{Range, ranges_meet, meets_any as meets_range, AreWith}
use Rattle.elf_image.specs.declared.load.Load.{Load}
use Rattle.elf_image.specs.Loads.{load_stop, loads_meet}
use Rattle.elf_image.specs.inner.Loads.{meets_any}
use Rattle.elf_image.specs.inner.Index.{passes, AreRanges, HasMore}

-- ---- a load meets a load exactly where it meets its range
one_meets : (x l : Load) → passes (ranges_meet (x.paddr, load_stop x)) l ≡ loads_meet x l
one_meets x l =
    elim (cases_lt 0 l.memsz) [
      | inl some ↦ ap (λ b. b && loads_meet x l) (lt-ltb 0 l.memsz some)
      | inr none ↦ ap (λ b. b && loads_meet x l) (le-ltb 0 l.memsz none) ∙ sym (le-ltb _ _ (omega (arith, none)))
    ]

all_meet : (x : Load) (ls : List Load) → list_any (passes (ranges_meet (x.paddr, load_stop x))) ls ≡ meets_any x ls
all_meet x [] = refl
all_meet x (l ∷ ls) = ap (λ b. b || list_any (passes (ranges_meet (x.paddr, load_stop x))) ls) (one_meets x l) ∙ ap (λ b. loads_meet x l || b) (all_meet x ls)

pub meets_loads : (x : Load) (ls : List Load) (rs : List Range) → AreRanges ls rs → meets_range (x.paddr, load_stop x) rs ≡ meets_any x ls
meets_loads x ls rs are = are.same (ranges_meet (x.paddr, load_stop x)) ∙ all_meet x ls

-- ---- one more load
-- without memory it is none more
pub none_more : (x : Load) (old : List Range) → x.memsz ≡ 0 → HasMore x old old
none_more x old none = record { same = λ test. sym (ap (λ b. list_any test old || (b && test (x.paddr, load_stop x))) (le-ltb 0 x.memsz (omega (arith, none))) ∙ or_false (list_any test old)) }

-- with memory it is its range
pub range_more : (x : Load) (old new : List Range) → 0 < x.memsz → AreWith old (x.paddr, load_stop x) new → HasMore x old new
range_more x old new some are = record { same = λ test. are test ∙ ap (λ b. list_any test old || (b && test (x.paddr, load_stop x))) (sym (lt-ltb 0 x.memsz some)) }
