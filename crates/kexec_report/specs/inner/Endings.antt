-- When the program says nothing, and what it says because it was asked (this project's own).
-- No clause of `kexec` reaches what stands here: it serves laws, and contracts inside the crates.
use Rattle.std.specs.Prelude.{ℕ, ◌==◌, ◌&&◌, ◌||◌, Bool, true, false, Option, Some, None}
use Rattle.kexec_report.specs.declared.causes.Failure.{Failure}
use Rattle.kexec_report.specs.declared.causes.Failure.TheVariants as failures
use Rattle.kexec_report.specs.declared.ending.Notice.{Notice}
use Rattle.kexec_report.specs.declared.ending.Notice.TheVariants as notices

-- the reader of standard output has closed the pipe
abbrev pub is_closed_pipe : Option Failure → Bool
is_closed_pipe None = false
is_closed_pipe (Some (failures.File cause)) = false
is_closed_pipe (Some (failures.Output error)) = false
is_closed_pipe (Some failures.ClosedPipe) = true

-- there is nothing to say of a command with this exit status: it is done, or nobody reads its text any more (5 is that of a text
-- that was not said)
abbrev pub is_quiet : ℕ → Option Failure → Bool
is_quiet code failure = code == 0 || (code == 5 && is_closed_pipe failure)

-- the help or the version
abbrev pub is_asked_for : Notice → Bool
is_asked_for (notices.NoWords program error) = false
is_asked_for (notices.Version program) = true
is_asked_for (notices.Help help) = true
is_asked_for (notices.Usage usage report) = false
is_asked_for (notices.Refusal report) = false
