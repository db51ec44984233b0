use Rattle.kexec_plan.proofs.Ram.{are_ram_runs}
use Rattle.kexec_plan.proofs.ground.test_over.Goals as goal

pub returns : goal.returns
returns c =
    rw (are_ram_runs c.args.map.now c.ram-ram.result.now c.spans-spans.ensures.apart c.ram-ram.ensures) c.new.ensures
