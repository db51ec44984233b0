use Rattle.std.proofs.Common.{map, string_bytes}
use Rattle.kexec_words.specs.Meaning.{command_of}
use Rattle.kexec_main.proofs.Untaken.{memory_at_once}
use Rattle.kexec_main.proofs.run.run_words.Goals as goal

pub returns-in-Err-Memory : goal.returns-in-Err-Memory
returns-in-Err-Memory g c = memory_at_once g.S.Shelf g.O.Sink c.args.shelf.now c.args.out.now (command_of (map string_bytes c.args.words.now))
