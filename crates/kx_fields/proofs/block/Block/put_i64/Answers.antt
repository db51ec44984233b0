use Rattle.std.proofs.Common.{ap, ◌∙◌, subst, ◌<◌, ◌^◌}
use Rattle.kx_fields.specs.Fields.{field, signed}
use Rattle.kx_fields.specs.inner.Fields.{unsigned}
use Rattle.kx_fields.proofs.Formats.{unsigned-signed}
use Rattle.kx_fields.proofs.block.Block.put_i64.Goals as goal

pub returns-clause-put_back : goal.returns-clause-put_back
returns-clause-put_back g c = λ e.
    let old = field c.args.at 8 c.args.self.now in
    let fits : old < 2 ^ 64 = subst (λ n. n < 2 ^ 64) c.get_u64.ensures c.get_u64.type_inv in
    let back = unsigned-signed old fits in
    c.put_u64.ensures.put_back (c.cast_unsigned.ensures ∙ ap (λ z. unsigned (signed (unsigned z))) e ∙ ap (λ n. unsigned (signed n)) back ∙ back)
