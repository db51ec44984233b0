use Rattle.std.proofs.Common.{length, ap, ◌∙◌, rules}
use Rattle.kx_laws.proofs.Booleans.{is_above_zero}
use Rattle.boot_params.specs.SetupData.{head_text}
use Rattle.boot_params.proofs.Behind.{none_left, all_put}
use Rattle.boot_params.proofs.setup_data.put_extension.Goals as goal

pub returns-then-is_empty : goal.returns-then-is_empty
returns-then-is_empty c = none_left c.args.command c.args.rows.now c.args.out.now.items (search rules)

pub returns : goal.returns
returns c =
    all_put c.args.command c.args.rows.now c.args.out.now.items c.put_fill.new.out.items c.extend_from_slice.new.self.items c.put_rows.new.out.items c.bytes.result.now
    (is_above_zero (length c.args.rows.now) c.if-is_empty.ensures)
    c.in_ok-put_fill.ensures
    c.in_ok-extend_from_slice.ensures.items
    (c.bytes.ensures.value ∙ c.block.ensures ∙ ap head_text c.new.ensures)
    c.in_ok-put_rows.ensures
