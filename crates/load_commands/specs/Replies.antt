-- The replies of `drill` as lines (this project's own).
use Rattle.std.specs.Prelude.{ℕ, ◌+◌, List, [], ◌∷◌, ◌++◌, codes, decimal}
use Rattle.segments.specs.declared.fault.SegFault.{SegFault}
use Rattle.segments.specs.declared.fault.SegFault.TheVariants as faults
use Rattle.image_slots.specs.declared.reply.Reply.{Reply}
use Rattle.image_slots.specs.declared.reply.Reply.TheVariants as replies
use Rattle.command_parts.specs.Texts.{hexadecimal}

-- the name of a fault of segments
abbrev pub segments_fault : SegFault → List ℕ
segments_fault faults.Memory = codes "Memory"
segments_fault faults.NoSegments = codes "NoSegments"
segments_fault faults.TooMany = codes "TooMany"
segments_fault (faults.BadAddress i) = codes "BadAddress"
segments_fault (faults.Overlap i j) = codes "Overlap"
segments_fault (faults.TooFull i) = codes "TooFull"
segments_fault faults.HalfOfMemory = codes "HalfOfMemory"
segments_fault (faults.OutsideReserved i) = codes "OutsideReserved"
segments_fault (faults.NotRam i) = codes "NotRam"
segments_fault (faults.TooLarge pages) = codes "TooLarge"

-- a reply, behind the number of its event: callers and counts are in decimal, a page is in hexadecimal
abbrev pub reply_end : Reply → List ℕ
reply_end replies.Memory = codes " memory\n"
reply_end replies.Done = codes " done\n"
reply_end replies.Gone = codes " gone\n"
reply_end (replies.Busy caller) = codes " busy " ++ (decimal caller ++ codes "\n")
reply_end replies.Opened = codes " opened\n"
reply_end replies.NoArea = codes " no-area\n"
reply_end replies.NotOpen = codes " not-open\n"
reply_end replies.Written = codes " written\n"
reply_end replies.NotWritten = codes " not-written\n"
reply_end (replies.BadSegments fault) =
    codes " segments " ++ (segments_fault fault ++ codes "\n")
reply_end (replies.NoPages pool need) =
    codes " no-pages " ++ (decimal pool ++ (codes " " ++ (decimal need ++ codes "\n")))
reply_end replies.NoImage = codes " no-image\n"
reply_end (replies.Touched page) = codes " touched " ++ (hexadecimal page ++ codes "\n")

-- the line of the reply to the event of this number
unfoldable pub reply_line : ℕ → Reply → List ℕ
reply_line n r = decimal n ++ reply_end r

-- the lines of replies, the first of which has this number
abbrev pub reply_lines : ℕ → List Reply → List ℕ
reply_lines n [] = []
reply_lines n (r ∷ rs) = reply_line n r ++ reply_lines (n + 1) rs
