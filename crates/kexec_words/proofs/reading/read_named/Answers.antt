use Rattle.std.proofs.Common.{map, string_bytes}
use Rattle.kexec_words.specs.Meaning.{answer_by, command_in}
use Rattle.kexec_words.specs.inner.Given.{given_values}
use Rattle.kexec_words.specs.inner.Values.{command_value}
use Rattle.kexec_words.proofs.Taken.{answers_given, answers_refused, exits}
use Rattle.kexec_words.proofs.reading.read_named.Goals as goal

pub returns : goal.returns
returns c =
    answers_given command_value c.args.name (command_in c.args.name) (map string_bytes c.args.words.now) (given_values c.in_ok-given.given.items) c.command_in.result
    c.in_ok-given.ensures (rw c.deref.ensures.value at c.command_in.ensures)

pub returns-in_err-given : goal.returns-in_err-given
returns-in_err-given c =
    exits command_value (answer_by c.args.name (command_in c.args.name) (map string_bytes c.args.words.now)) c.from_residual.result c.in_err-given.field-0.0 c.from_residual.ensures.1
    (answers_refused command_value c.args.name (command_in c.args.name) (map string_bytes c.args.words.now) c.in_err-given.field-0.0
    (λ w is. rw is at c.in_err-given.ensures))
