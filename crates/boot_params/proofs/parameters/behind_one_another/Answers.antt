use Rattle.std.proofs.Common.{length, ap, arith}
use Rattle.boot_params.proofs.Behind.{left_few}
use Rattle.boot_params.proofs.parameters.behind_one_another.Goals as goal

pub put_extension-requires : goal.put_extension-requires
put_extension-requires c =
    let left = ap length c.rows_behind.ensures in
    let few = left_few c.args.rows.now c.requires.few in
    record { few = omega (arith, left, few) }
