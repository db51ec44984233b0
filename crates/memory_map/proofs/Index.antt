-- The index of the System RAM rows where one more row is read.
use Rattle.std.proofs.Common.{◌≡◌, List, [], ◌∷◌, ◌++◌, Bool, true, false, sym, ap, ◌∙◌}
use Rattle.std.specs.Prelude.{◌&&◌, ◌||◌}
use Rattle.std.specs.List.{list_any}
use Rattle.std.proofs.lemmas.List.Folds.{list_any-append}
use Rattle.kx_laws.proofs.Booleans.{or_false}
use Rattle.range_index.specs.inner.Ranges.{Range, AreWith}
use Rattle.memory_map.specs.declared.row.Row.{Row}
use Rattle.memory_map.specs.Rows.{is_ram_row}
use Rattle.memory_map.specs.inner.Index.{range_of, IsIndex}

-- what a test finds among the rows and one more
found_more : (rows : List Row) (x : Row) (test : Range → Bool) → list_any (λ r. is_ram_row r && test (range_of r)) (rows ++ x ∷ []) ≡ (list_any (λ r. is_ram_row r && test (range_of r)) rows || (is_ram_row x && test (range_of x)))
found_more rows x test =
    list_any-append (λ r. is_ram_row r && test (range_of r)) rows (x ∷ [])
    ∙ ap (λ b. list_any (λ r. is_ram_row r && test (range_of r)) rows || b) (or_false (is_ram_row x && test (range_of x)))

pub other_row : (rows : List Row) (index : List Range) (x : Row) → IsIndex rows index → is_ram_row x ≡ false → IsIndex (rows ++ x ∷ []) index
other_row rows index x is other test =
    is test
    ∙ sym (or_false (list_any (λ r. is_ram_row r && test (range_of r)) rows))
    ∙ ap (λ b. list_any (λ r. is_ram_row r && test (range_of r)) rows || (b && test (range_of x))) (sym other)
    ∙ sym (found_more rows x test)

pub ram_row : (rows : List Row) (old new : List Range) (x : Row) → IsIndex rows old → is_ram_row x ≡ true → AreWith old (range_of x) new → IsIndex (rows ++ x ∷ []) new
ram_row rows old new x is ram more test =
    more test
    ∙ ap (λ b. b || test (range_of x)) (is test)
    ∙ ap (λ b. list_any (λ r. is_ram_row r && test (range_of r)) rows || (b && test (range_of x))) (sym ram)
    ∙ sym (found_more rows x test)
