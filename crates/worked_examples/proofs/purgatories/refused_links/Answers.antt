-- By computing.
use Rattle.std.specs.Prelude.{refl}
use Rattle.elf_image.specs.Reloc.{entry_of}
use Rattle.kx_fields.specs.Fields.{field, with_field}
use Rattle.purgatory_link.specs.Layout.{end, lay, linked_size, padding, starts}
use Rattle.purgatory_link.specs.Link.{link_at, linking}
use Rattle.purgatory_link.specs.Relocs.{test_place, put_of, puts_of, relocate, with_puts}
use Rattle.purgatory_link.specs.Symbols.{symbol_value}
use Rattle.worked_examples.proofs.purgatories.refused_links.Goals as goal

pub returns-clause-too_large : goal.returns-clause-too_large
unfolding linking linked_size link_at end relocate puts_of with_puts starts lay padding put_of with_field entry_of test_place symbol_value field
returns-clause-too_large c = refl

pub returns-clause-unknown : goal.returns-clause-unknown
unfolding linking linked_size link_at end relocate puts_of with_puts starts lay padding put_of with_field entry_of test_place symbol_value field
returns-clause-unknown c = refl

pub returns-clause-undefined : goal.returns-clause-undefined
unfolding linking linked_size link_at end relocate puts_of with_puts starts lay padding put_of with_field entry_of test_place symbol_value field
returns-clause-undefined c = refl
