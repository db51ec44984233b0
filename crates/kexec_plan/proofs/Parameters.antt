-- Where the boot parameters lie.
use Rattle.std.proofs.Common.{ℕ, ◌+◌, ◌^◌, ◌-◌, ◌*◌, ◌<◌, ◌≤◌, List, Bool, true, false, cond, length, arith}
use Rattle.std.specs.Prelude.{nat_lt}
use Rattle.memory_map.specs.declared.row.Row.{Row}
use Rattle.bzimage.specs.Kernel.{Kernel}
use Rattle.boot_params.specs.SetupData.{nul_end, record_place}
use Rattle.boot_params.specs.Params.{params_length}
use Rattle.kexec_plan.specs.declared.places.Site.{Site}
use Rattle.kexec_plan.specs.inner.Places.{IsPlacedBy}
use Rattle.kexec_plan.specs.Table.{parameters_rule}

-- they have more than a page
least : (rows command : ℕ) → 4097 ≤ params_length rows command
unfolding params_length
least rows command = by_test (nat_lt 128 rows)
  where
    by_test : (b : Bool) → 4097 ≤ cond b (record_place command + 16 + 20 * (rows - 128)) (nul_end command)
    by_test true = omega arith
    by_test false = omega arith

-- so the command behind the zero page begins below the limit of addresses
pub parameters_low : (k : Kernel) (rows : List Row) (command : List ℕ) (s : Site) → IsPlacedBy (parameters_rule k rows command) s → s.at + 4096 < 2 ^ 46
parameters_low k rows command s p =
    let more = least (length rows) (length command) in
    let size = p.size in
    let low = p.low in
    omega (arith, more, size, low)
