use Rattle.std.proofs.Common.{Some, map, string_bytes}
use Rattle.kexec_words.proofs.Limits.{within_limits, outputs_apart}
use Rattle.kexec_words.proofs.reading.read.Goals as goal

pub returns-in-Some-name_of-clause-limits : goal.returns-in-Some-name_of-clause-limits
returns-in-Some-name_of-clause-limits c =
    within_limits (Some c.in-Some-name_of.name) (map string_bytes c.in-Some.rest.now) c.read_named.result c.read_named.ensures

pub returns-in-Some-name_of-clause-apart : goal.returns-in-Some-name_of-clause-apart
returns-in-Some-name_of-clause-apart c =
    outputs_apart (Some c.in-Some-name_of.name) (map string_bytes c.in-Some.rest.now) c.read_named.result c.read_named.ensures
