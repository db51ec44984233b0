-- By computing.
use Rattle.std.specs.Prelude.{refl}
use Rattle.elf_image.specs.FileHeader.{read_class, read_elf64, object_fault, object_header}
use Rattle.elf_image.specs.Gathered.{gather}
use Rattle.elf_image.specs.Object.{object_reading}
use Rattle.elf_image.specs.Reloc.{entry_of, rela_fault, relocs_in, read_relocs, test_symbols}
use Rattle.elf_image.specs.Section.{read_table}
use Rattle.elf_image.specs.Symbol.{name_in, strings_of, symbol_in, symbols_in, read_symbols}
use Rattle.kx_fields.specs.Fields.{field}
use Rattle.worked_examples.proofs.objects.spoiled_objects.Goals as goal

pub returns-clause-executable : goal.returns-clause-executable
unfolding object_reading read_table read_symbols read_relocs object_header gather read_elf64 object_fault symbols_in relocs_in read_class field strings_of rela_fault test_symbols symbol_in entry_of name_in
returns-clause-executable c = refl

pub returns-clause-machine : goal.returns-clause-machine
unfolding object_reading read_table read_symbols read_relocs object_header gather read_elf64 object_fault symbols_in relocs_in read_class field strings_of rela_fault test_symbols symbol_in entry_of name_in
returns-clause-machine c = refl

pub returns-clause-short_table : goal.returns-clause-short_table
unfolding object_reading read_table read_symbols read_relocs object_header gather read_elf64 object_fault symbols_in relocs_in read_class field strings_of rela_fault test_symbols symbol_in entry_of name_in
returns-clause-short_table c = refl

pub returns-clause-section : goal.returns-clause-section
unfolding object_reading read_table read_symbols read_relocs object_header gather read_elf64 object_fault symbols_in relocs_in read_class field strings_of rela_fault test_symbols symbol_in entry_of name_in
returns-clause-section c = refl

pub returns-clause-symbol : goal.returns-clause-symbol
unfolding object_reading read_table read_symbols read_relocs object_header gather read_elf64 object_fault symbols_in relocs_in read_class field strings_of rela_fault test_symbols symbol_in entry_of name_in
returns-clause-symbol c = refl
