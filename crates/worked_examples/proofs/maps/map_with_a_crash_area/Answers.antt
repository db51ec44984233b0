-- By computing: page 1 shows that there is RAM.
use Rattle.std.proofs.Common.{◌≡◌, ◌^◌, false, refl, ap, cond, Ok, Err, arith}
use Rattle.std.specs.Prelude.{◌==◌}
use Rattle.std.proofs.lemmas.Bool.Decides.{nat_tests}
use Rattle.text_lines.specs.Lines.{lines, cut, number, number_of}
use Rattle.memory_map.specs.Maps.{is_ram, ram_pages, without_area, outside}
use Rattle.memory_map.specs.Text.{map_reading, lines_onto, line_onto, checked_entry, entry_of, class_of}
use Rattle.memory_map.specs.declared.fault.MapFault.TheVariants as faults
use Rattle.worked_examples.specs.Maps.{map_named}
use Rattle.worked_examples.proofs.Passing.{one_passes}
use Rattle.worked_examples.proofs.maps.map_with_a_crash_area.Goals as goal

some_ram : (ram_pages map_named == 0) ≡ false
some_ram = grind (arith, nat_tests, one_passes (is_ram map_named) 1 refl (2 ^ 34) (omega arith))

pub returns-clause-read : goal.returns-clause-read
unfolding map_reading lines_onto line_onto checked_entry entry_of class_of lines cut number number_of
returns-clause-read c = ap (λ b. cond b (Err faults.NoRam) (Ok map_named)) some_ram

pub returns-clause-area : goal.returns-clause-area
returns-clause-area c = refl

pub returns-clause-crash_rows : goal.returns-clause-crash_rows
returns-clause-crash_rows c = refl

pub returns-clause-core_ranges : goal.returns-clause-core_ranges
unfolding without_area outside
returns-clause-core_ranges c = refl

pub returns-clause-total : goal.returns-clause-total
returns-clause-total c = refl

pub returns-clause-ram : goal.returns-clause-ram
returns-clause-ram c = refl
