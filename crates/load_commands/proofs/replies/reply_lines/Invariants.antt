use Rattle.std.proofs.Common.{◌≡◌, ◌++◌, ◌+◌, drop, string_bytes}
use Rattle.load_commands.specs.Replies.{reply_lines}
use Rattle.load_commands.proofs.replies.reply_lines.Given as goal

abbrev pub invariant-loop-place : goal.invariant-loop-place
invariant-loop-place l = string_bytes l.text ++ reply_lines (l.place + 1) (drop l.place l.replies) ≡ reply_lines 1 l.replies
