use Rattle.kexec_main.proofs.run.run_command.Goals as goal

pub returns-in-Exec : goal.returns-in-Exec
returns-in-Exec g c = rw c.in-Exec.is c.run_exec.ensures
