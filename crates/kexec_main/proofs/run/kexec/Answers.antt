use Rattle.std.proofs.Common.{map, string_bytes}
use Rattle.file_commands.proofs.Saying.{said_alone, said_complete, said_done, said_gives, said_ready, said_refused, told, unread_rose, unsaid_rose, unwritten_rose}
use Rattle.kexec_words.specs.Meaning.{command_of}
use Rattle.command_parts.specs.declared.reason.Reason.TheVariants.{Usage}
use Rattle.kexec_main.specs.Commands.{entry_of}
use Rattle.kexec_main.proofs.Commands.{keeps}
use Rattle.kexec_main.proofs.Laid.{has_laid}
use Rattle.kexec_main.proofs.run.kexec.Goals as goal

pub returns-clause-told : goal.returns-clause-told
returns-clause-told g c = told entry_of Usage g.S.Shelf g.O.Sink _ _ _ _ _ (command_of (map string_bytes c.args.words.now)) c.run_words.ensures

pub returns-clause-done : goal.returns-clause-done
returns-clause-done g c = λ w e f. said_done entry_of Usage g.S.Shelf g.O.Sink _ _ _ _ _ (command_of (map string_bytes c.args.words.now)) keeps w e f c.run_words.ensures

pub returns-clause-laid : goal.returns-clause-laid
returns-clause-laid g c = λ w e f. said_gives entry_of Usage g.S.Shelf g.O.Sink _ _ _ _ _ (command_of (map string_bytes c.args.words.now)) w e f (λ held m. has_laid g.S.Shelf g.O.Sink held _ _ _ _ w m) c.run_words.ensures

pub returns-clause-without_files : goal.returns-clause-without_files
returns-clause-without_files g c = λ w e. said_alone entry_of Usage g.S.Shelf g.O.Sink _ _ _ _ _ (command_of (map string_bytes c.args.words.now)) keeps w e c.run_words.ensures

pub returns-clause-complete : goal.returns-clause-complete
returns-clause-complete g c = λ w e. said_complete entry_of Usage g.S.Shelf g.O.Sink _ _ _ _ _ (command_of (map string_bytes c.args.words.now)) keeps w e c.run_words.ensures

pub returns-clause-in_order : goal.returns-clause-in_order
returns-clause-in_order g c = λ w e f. said_ready entry_of Usage g.S.Shelf g.O.Sink _ _ _ _ _ (command_of (map string_bytes c.args.words.now)) keeps w e f c.run_words.ensures

pub returns-clause-refused : goal.returns-clause-refused
returns-clause-refused g c = λ w e. said_refused entry_of Usage g.S.Shelf g.O.Sink _ _ _ _ _ (command_of (map string_bytes c.args.words.now)) keeps w e c.run_words.ensures

pub returns-clause-unread : goal.returns-clause-unread
returns-clause-unread g c = λ n e. unread_rose entry_of Usage g.S.Shelf g.O.Sink _ _ _ _ _ (command_of (map string_bytes c.args.words.now)) n e c.run_words.ensures

pub returns-clause-unwritten : goal.returns-clause-unwritten
returns-clause-unwritten g c = λ n e. unwritten_rose entry_of Usage g.S.Shelf g.O.Sink _ _ _ _ _ (command_of (map string_bytes c.args.words.now)) n e c.run_words.ensures

pub returns-clause-unsaid : goal.returns-clause-unsaid
returns-clause-unsaid g c = λ e. unsaid_rose entry_of Usage g.S.Shelf g.O.Sink _ _ _ _ _ (command_of (map string_bytes c.args.words.now)) e c.run_words.ensures
