-- The RAM of the machines.
use Rattle.std.proofs.Common.{◌≡◌, ℕ, arith}
use Rattle.std.proofs.lemmas.Bool.Decides.{nat_tests}
use Rattle.kx_pages.specs.Spans.{in_spans}
use Rattle.memory_map.specs.Maps.{is_ram}
use Rattle.kexec_plan.specs.Rules.{ram_runs}
use Rattle.kexec_plan.proofs.Ram.{are_ram_runs}
use Rattle.worked_plans.specs.Machines.{machine, machine_ram, open_machine, open_ram}

pub machine_has : (q : ℕ) → in_spans machine_ram q ≡ is_ram machine q
machine_has q = grind (arith, nat_tests)

pub open_has : (q : ℕ) → in_spans open_ram q ≡ is_ram open_machine q
open_has q = grind (arith, nat_tests)

pub machine_runs : ram_runs machine ≡ machine_ram
machine_runs = are_ram_runs machine machine_ram (omega arith, omega arith, omega arith, (omega arith, omega arith, omega arith, (omega arith, omega arith, omega arith, (omega arith, omega arith, omega arith, tt)))) machine_has

pub open_runs : ram_runs open_machine ≡ open_ram
open_runs = are_ram_runs open_machine open_ram (omega arith, omega arith, omega arith, (omega arith, omega arith, omega arith, (omega arith, omega arith, omega arith, tt))) open_has
