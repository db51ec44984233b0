use Rattle.std.proofs.Common.{◌++◌, length, ap, ◌∙◌}
use Rattle.multiboot_image.specs.Modules.{module_table}
use Rattle.multiboot_image.specs.Info.{info_text, info_of}
use Rattle.multiboot_image.proofs.Joined.{parts_joined, info_long_all}
use Rattle.multiboot_image.proofs.info.info_bytes.Goals as goal

pub returns-clause-exact : goal.returns-clause-exact
returns-clause-exact c =
    let rows = c.args.rows.now in
    let modules = c.args.modules.now in
    let head = c.in_ok-extend_from_slice.ensures.items ∙ ap (λ x. x ++ c.bytes.result.now) c.in_ok-out.ensures.items ∙ c.bytes.ensures.value ∙ c.block.ensures ∙ ap info_text (c.new.ensures ∙ ap (λ p. info_of p rows (length modules)) c.new-place.ensures) in
    let table = c.in_ok-put_module_table.ensures ∙ ap (λ p. c.put_rows.new.out.items ++ module_table p.texts modules) c.new-place.ensures in
    parts_joined c.args.at rows c.args.command.now modules c.extend_from_slice.new.self.items c.put_rows.new.out.items c.put_module_table.new.out.items c.put_text.new.out.items c.put_text-2.new.out.items c.put_texts.new.out.items head c.in_ok-put_rows.ensures table c.in_ok-put_text.ensures c.in_ok-put_text-2.ensures c.in_ok-put_texts.ensures

pub returns-clause-length : goal.returns-clause-length
returns-clause-length c = ap length (returns-clause-exact c) ∙ info_long_all c.args.at c.args.rows.now c.args.command.now c.args.modules.now
