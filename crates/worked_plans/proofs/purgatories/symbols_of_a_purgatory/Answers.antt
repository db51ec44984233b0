-- By computing.
use Rattle.std.proofs.Common.{refl}
use Rattle.elf_image.specs.Reloc.{entry_of}
use Rattle.kexec_plan.specs.Purgatory.{linked_at, symbol_address, symbol_place, symbols_of}
use Rattle.kx_fields.specs.Fields.{field, with_field}
use Rattle.purgatory_link.specs.Layout.{end, lay, linked_size, padding, starts}
use Rattle.purgatory_link.specs.Link.{link_at, linking}
use Rattle.purgatory_link.specs.Relocs.{put_of, puts_of, relocate, test_place, with_puts}
use Rattle.purgatory_link.specs.Set.{symbol_of}
use Rattle.purgatory_link.specs.Symbols.{symbol_value}
use Rattle.worked_plans.proofs.purgatories.symbols_of_a_purgatory.Goals as goal

pub returns-clause-linked : goal.returns-clause-linked
unfolding linked_at linking symbols_of linked_size link_at symbol_place symbol_address end relocate symbol_of puts_of with_puts starts lay padding put_of with_field entry_of test_place symbol_value field
returns-clause-linked c = refl

pub returns-clause-no_symbol : goal.returns-clause-no_symbol
unfolding symbols_of symbol_place symbol_address symbol_of
returns-clause-no_symbol c = refl

pub returns-clause-registers_first : goal.returns-clause-registers_first
unfolding linked_at linking symbols_of linked_size link_at symbol_place symbol_address end relocate symbol_of puts_of with_puts starts lay padding put_of with_field entry_of test_place symbol_value field
returns-clause-registers_first c = refl
