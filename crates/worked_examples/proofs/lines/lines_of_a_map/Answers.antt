-- By computing.
use Rattle.std.specs.Prelude.{refl}
use Rattle.text_lines.specs.Lines.{cut, number, number_of}
use Rattle.memory_map.specs.Text.{checked_entry, class_of, entry_of, line_onto}
use Rattle.worked_examples.proofs.lines.lines_of_a_map.Goals as goal

pub returns-clause-no_space : goal.returns-clause-no_space
unfolding checked_entry class_of cut entry_of line_onto number number_of
returns-clause-no_space c = refl

pub returns-clause-past_the_limit : goal.returns-clause-past_the_limit
unfolding checked_entry class_of cut entry_of line_onto number number_of
returns-clause-past_the_limit c = refl

pub returns-clause-cut : goal.returns-clause-cut
unfolding checked_entry class_of cut entry_of line_onto number number_of
returns-clause-cut c = refl

pub returns-clause-one_byte : goal.returns-clause-one_byte
unfolding checked_entry class_of cut entry_of line_onto number number_of
returns-clause-one_byte c = refl

pub returns-clause-area : goal.returns-clause-area
unfolding checked_entry class_of cut entry_of line_onto number number_of
returns-clause-area c = refl

pub returns-clause-other : goal.returns-clause-other
unfolding checked_entry class_of cut entry_of line_onto number number_of
returns-clause-other c = refl

pub returns-clause-small_letters : goal.returns-clause-small_letters
unfolding checked_entry class_of cut entry_of line_onto number number_of
returns-clause-small_letters c = refl

pub returns-clause-acpi_tables : goal.returns-clause-acpi_tables
unfolding checked_entry class_of cut entry_of line_onto number number_of
returns-clause-acpi_tables c = refl

pub returns-clause-acpi_storage : goal.returns-clause-acpi_storage
unfolding checked_entry class_of cut entry_of line_onto number number_of
returns-clause-acpi_storage c = refl

pub returns-clause-other_letters : goal.returns-clause-other_letters
unfolding checked_entry class_of cut entry_of line_onto number number_of
returns-clause-other_letters c = refl
