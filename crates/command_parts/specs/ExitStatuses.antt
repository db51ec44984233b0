-- The exit status of each status (this project's own).
use Rattle.std.specs.Prelude.{ℕ}
use Rattle.command_parts.specs.declared.status.Status.{Status}
use Rattle.command_parts.specs.declared.status.Status.TheVariants as status

-- the exit status of each
abbrev pub code_of : Status → ℕ
code_of status.Done = 0
code_of (status.NotAccepted fault) = 1
code_of (status.Usage why) = 2
code_of (status.Unread role name) = 3
code_of (status.Unwritten role name) = 4
code_of status.Unsaid = 5
code_of (status.TooLong role name limit) = 6
code_of (status.Input fault) = 7
code_of (status.Plan fault) = 8
code_of (status.NoPages pool need) = 9
code_of (status.Heavy count) = 10
code_of status.NotKept = 11
code_of status.Memory = 12
code_of (status.Resident fault) = 13
code_of (status.Slots fault) = 14
code_of (status.Core fault) = 15
