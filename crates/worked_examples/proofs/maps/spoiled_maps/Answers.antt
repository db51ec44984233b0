-- By computing; where there is no RAM, because no page passes.
use Rattle.std.proofs.Common.{◌≡◌, ◌^◌, ℕ, false, true, refl, ap, cond, Ok, Err, arith}
use Rattle.std.specs.Prelude.{◌==◌, [], ◌∷◌}
use Rattle.std.proofs.lemmas.Bool.Decides.{nat_tests}
use Rattle.text_lines.specs.Lines.{lines, cut, number, number_of}
use Rattle.memory_map.specs.Maps.{MapValue, is_ram, ram_pages}
use Rattle.memory_map.specs.Text.{map_reading, lines_onto, line_onto, checked_entry, entry_of, class_of}
use Rattle.memory_map.specs.declared.fault.MapFault.TheVariants as faults
use Rattle.worked_examples.proofs.Passing.{none_passes}
use Rattle.worked_examples.proofs.maps.spoiled_maps.Goals as goal

abbrev half : MapValue
half = record { rows = record { start = 0; size = 0x800; kind = 1 } ∷ []; areas = [] }

abbrev nothing : MapValue
nothing = record { rows = []; areas = [] }

no_page : (p : ℕ) → is_ram half p ≡ false
no_page p = grind (arith, nat_tests)

half_none : (ram_pages half == 0) ≡ true
half_none = ap (λ n. n == 0) (none_passes (is_ram half) no_page (2 ^ 34))

nothing_none : (ram_pages nothing == 0) ≡ true
nothing_none = ap (λ n. n == 0) (none_passes (is_ram nothing) (λ p. refl) (2 ^ 34))

pub returns-clause-backwards : goal.returns-clause-backwards
unfolding map_reading lines_onto line_onto checked_entry entry_of class_of lines cut number number_of
returns-clause-backwards c = refl

pub returns-clause-overlap : goal.returns-clause-overlap
unfolding map_reading lines_onto line_onto checked_entry entry_of class_of lines cut number number_of
returns-clause-overlap c = refl

pub returns-clause-half_a_page : goal.returns-clause-half_a_page
unfolding map_reading lines_onto line_onto checked_entry entry_of class_of lines cut number number_of
returns-clause-half_a_page c = ap (λ b. cond b (Err faults.NoRam) (Ok half)) half_none

pub returns-clause-empty : goal.returns-clause-empty
unfolding map_reading lines_onto line_onto checked_entry entry_of class_of lines cut number number_of
returns-clause-empty c = ap (λ b. cond b (Err faults.NoRam) (Ok nothing)) nothing_none

pub returns-clause-empty_line : goal.returns-clause-empty_line
unfolding map_reading lines_onto line_onto checked_entry entry_of class_of lines cut number number_of
returns-clause-empty_line c = refl
