-- By computing.
use Rattle.std.proofs.Common.{refl}
use Rattle.elf_image.specs.FileHeader.{object_fault, object_header, read_class, read_elf64}
use Rattle.elf_image.specs.Gathered.{gather}
use Rattle.elf_image.specs.Object.{object_reading}
use Rattle.elf_image.specs.Reloc.{entry_of, read_relocs, rela_fault, relocs_in, test_symbols}
use Rattle.elf_image.specs.Section.{read_table}
use Rattle.elf_image.specs.Symbol.{name_in, read_symbols, strings_of, symbol_in, symbols_in}
use Rattle.kexec_plan.specs.Purgatory.{read_purgatory, some_purgatory}
use Rattle.kx_fields.specs.Fields.{field}
use Rattle.purgatory_link.specs.Layout.{end, linked_size, padding}
use Rattle.worked_plans.proofs.purgatories.purgatory_that_is_read.Goals as goal

pub returns-clause-read : goal.returns-clause-read
unfolding read_purgatory object_reading linked_size read_table read_symbols read_relocs end object_header gather read_elf64 object_fault symbols_in relocs_in padding read_class field strings_of rela_fault test_symbols symbol_in entry_of name_in
returns-clause-read c = refl

pub returns-clause-some : goal.returns-clause-some
unfolding some_purgatory read_purgatory object_reading linked_size read_table read_symbols read_relocs end object_header gather read_elf64 object_fault symbols_in relocs_in padding read_class field strings_of rela_fault test_symbols symbol_in entry_of name_in
returns-clause-some c = refl

pub returns-clause-none : goal.returns-clause-none
unfolding some_purgatory read_purgatory object_reading linked_size read_table read_symbols read_relocs end object_header gather read_elf64 object_fault symbols_in relocs_in padding read_class field strings_of rela_fault test_symbols symbol_in entry_of name_in
returns-clause-none c = refl

pub returns-clause-no_object : goal.returns-clause-no_object
unfolding some_purgatory read_purgatory object_reading linked_size read_table read_symbols read_relocs end object_header gather read_elf64 object_fault symbols_in relocs_in padding read_class field strings_of rela_fault test_symbols symbol_in entry_of name_in
returns-clause-no_object c = refl

pub returns-clause-executable : goal.returns-clause-executable
unfolding read_purgatory object_reading linked_size read_table read_symbols read_relocs end object_header gather read_elf64 object_fault symbols_in relocs_in padding read_class field strings_of rela_fault test_symbols symbol_in entry_of name_in
returns-clause-executable c = refl

pub returns-clause-rule : goal.returns-clause-rule
returns-clause-rule c = refl
