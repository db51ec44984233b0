use Rattle.std.proofs.Common.{◌≡◌, drop, map}
use Rattle.kexec_usage.specs.inner.Words.{given_value}
use Rattle.kexec_usage.specs.inner.Files.{first_shared_file, shared_file}
use Rattle.kexec_usage.proofs.files.shared_file.Given as goal

abbrev pub invariant-loop-file : goal.invariant-loop-file
invariant-loop-file l = first_shared_file (map given_value (drop l.file-index l.given)) (map given_value l.given) ≡ shared_file (map given_value l.given)
