-- The statuses of the program, read plainly, and their exit codes (this project's own).
use Rattle.std.specs.Prelude.{string_bytes}
use Rattle.list_checker.specs.declared.fault.ListFault.{ListFault}
use Rattle.file_commands.specs.Taking.{too_long, by}
use Rattle.file_commands.specs.Answers.{Answer, done, not_accepted, unread, unwritten, unsaid, memory, refused}
use Rattle.command_parts.specs.declared.reason.Reason.{Reason}
use Rattle.command_parts.specs.declared.reason.Reason.TheVariants as reasons
use Rattle.command_parts.specs.declared.status.Status.{Status}
use Rattle.command_parts.specs.declared.status.Status.TheVariants as status

-- how a command ended, by its status: names are the bytes of the names, and the role of a file is not seen
abbrev pub answer_of : Status → Answer ListFault Reason
answer_of status.Done = done
answer_of (status.NotAccepted fault) = not_accepted fault
answer_of (status.Usage why) = refused (by (reasons.Usage why))
answer_of (status.Unread role name) = unread (string_bytes name)
answer_of (status.Unwritten role name) = unwritten (string_bytes name)
answer_of status.Unsaid = unsaid
answer_of (status.TooLong role name limit) = refused (too_long (string_bytes name) limit)
answer_of (status.Input fault) = refused (by (reasons.Input fault))
answer_of (status.Plan fault) = refused (by (reasons.Plan fault))
answer_of (status.NoPages pool need) = refused (by (reasons.NoPages pool need))
answer_of (status.Resident fault) = refused (by (reasons.Resident fault))
answer_of (status.Heavy count) = refused (by (reasons.Heavy count))
answer_of status.NotKept = refused (by reasons.NotKept)
answer_of (status.Slots fault) = refused (by (reasons.Slots fault))
answer_of (status.Core fault) = refused (by (reasons.Core fault))
answer_of status.Memory = memory
