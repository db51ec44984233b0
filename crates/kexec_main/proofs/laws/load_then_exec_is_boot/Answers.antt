use Rattle.kexec_main.proofs.Together.{load_then_exec}
use Rattle.kexec_main.proofs.laws.load_then_exec_is_boot.Goals as goal

pub returns : goal.returns
returns g c = load_then_exec g.S.Shelf g.O.Sink
