-- The table of the wanted pages: of each its source and the place of its word, once it is loaded (this project's
-- own).
-- No clause of `kexec` reaches what stands here: it serves laws, and contracts inside the crates.
use Rattle.std.specs.Prelude.{◌≤◌, ◌+◌, ◌-◌, ◌&&◌, ℕ, Bool, true, false, nat_le, nat_lt, List, [], ◌∷◌, length, replicate, Option, Some, None, refl, if◌then◌else◌}
use Rattle.std.specs.List.{slice_get}
use Rattle.std.specs.Coded.{Coded, code_by, coded×, coded_ℕ, coded_list, coded_option}
use Rattle.kx_pages.specs.Spans.{Run}
use Rattle.kimage_list.specs.declared.table.PageSource.{PageSource}

-- what is known of each page of a run
pub record SlotRow : Type 0 where
  pub first : ℕ
  pub slots : List (Option PageSource)

-- the rows of the runs of wanted pages
abbrev pub Slots : Type 0
Slots = List SlotRow

-- the first page behind a row
abbrev pub row_end : SlotRow → ℕ
row_end r = r.first + length r.slots

-- page p is one of the row's
abbrev pub in_row : SlotRow → ℕ → Bool
in_row r p = nat_le r.first p && nat_lt p (row_end r)

-- the rows rise from page b on, and no two have a page in common
abbrev pub AreRising : ℕ → Slots → Type 0
AreRising b [] = Unit {0}
AreRising b (r ∷ rs) = (b ≤ r.first) × AreRising (row_end r) rs

-- the row of a run of pages, none of them loaded
abbrev pub fresh_row : Run → SlotRow
fresh_row r = record { first = r.first; slots = replicate r.count None }

-- stored as the pair of its fields
abbrev pub loaded_code : Coded PageSource
loaded_code =
    code_by (ℕ × ℕ) (coded× coded_ℕ coded_ℕ) (λ x. (x.source, x.place))
    (λ p. record { source = p.0; place = p.1 }) (λ _. refl)

-- the same of a row
abbrev pub row_code : Coded SlotRow
row_code =
    code_by (ℕ × List (Option PageSource))
    (coded× coded_ℕ (coded_list (coded_option loaded_code))) (λ r. (r.first, r.slots))
    (λ p. record { first = p.0; slots = p.1 }) (λ _. refl)

-- stored row by row
abbrev pub slots_code : Coded Slots
slots_code = coded_list row_code

-- what the table has of a page: None where it is not wanted, Some None where it is not loaded yet
unfoldable pub slot : Slots → ℕ → Option (Option PageSource)
slot [] p = None
slot (r ∷ rs) p = if in_row r p then slice_get r.slots (p - r.first) else slot rs p

abbrev pub source_in : Option (Option PageSource) → Option ℕ
source_in None = None
source_in (Some None) = None
source_in (Some (Some x)) = Some x.source

abbrev pub place_in : Option (Option PageSource) → Option ℕ
place_in None = None
place_in (Some None) = None
place_in (Some (Some x)) = Some x.place

-- of a page that is wanted, and of one that is not, before any is loaded
abbrev pub fresh_slot : Bool → Option (Option PageSource)
fresh_slot true = Some None
fresh_slot false = None
