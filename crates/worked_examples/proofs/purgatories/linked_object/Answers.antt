-- By computing.
use Rattle.std.specs.Prelude.{refl}
use Rattle.elf_image.specs.Reloc.{entry_of}
use Rattle.kx_fields.specs.Fields.{field, with_field}
use Rattle.purgatory_link.specs.Layout.{end, lay, linked_size, padding, starts}
use Rattle.purgatory_link.specs.Link.{link_at, linking}
use Rattle.purgatory_link.specs.Relocs.{test_place, put_of, puts_of, relocate, with_puts}
use Rattle.purgatory_link.specs.Symbols.{symbol_value}
use Rattle.worked_examples.proofs.purgatories.linked_object.Goals as goal

pub returns-clause-places : goal.returns-clause-places
unfolding starts padding
returns-clause-places c = refl

pub returns-clause-size : goal.returns-clause-size
unfolding linked_size end padding
returns-clause-size c = refl

pub returns-clause-absolute : goal.returns-clause-absolute
unfolding linking linked_size link_at end relocate puts_of with_puts starts lay padding put_of with_field entry_of test_place symbol_value field
returns-clause-absolute c = refl

pub returns-clause-relative : goal.returns-clause-relative
unfolding linking linked_size link_at end relocate puts_of with_puts starts lay padding put_of with_field entry_of test_place symbol_value field
returns-clause-relative c = refl
