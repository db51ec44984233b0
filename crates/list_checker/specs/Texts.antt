-- The printed text of reasons and faults (this project's own).
use Rattle.std.specs.Prelude.{ℕ, ◌*◌, ◌++◌, false, List, codes}
use Rattle.std.specs.Fmt.{digits, decimal}
use Rattle.list_checker.specs.declared.fault.Why.{Why}
use Rattle.list_checker.specs.declared.fault.Why.TheVariants.{Flags, HeadKind, LinkAgain, RunsOff, NoDestination, NotWanted, TwiceWritten, SourceSpoiled, LinkSpoiled, ControlTouched, PairsMeet, SwapTouched, WrongBytes, Missing, PastLimit}
use Rattle.list_checker.specs.declared.fault.ListFault.{ListFault}

-- the reason's name; for a missing page also a space and the page's address in lower-case hexadecimal
abbrev pub why_text : Why → List ℕ
why_text Flags = codes "Flags"
why_text HeadKind = codes "HeadKind"
why_text LinkAgain = codes "LinkAgain"
why_text RunsOff = codes "RunsOff"
why_text NoDestination = codes "NoDestination"
why_text NotWanted = codes "NotWanted"
why_text TwiceWritten = codes "TwiceWritten"
why_text SourceSpoiled = codes "SourceSpoiled"
why_text LinkSpoiled = codes "LinkSpoiled"
why_text ControlTouched = codes "ControlTouched"
why_text PairsMeet = codes "PairsMeet"
why_text SwapTouched = codes "SwapTouched"
why_text WrongBytes = codes "WrongBytes"
why_text (Missing page) = codes "Missing " ++ digits 16 false (4096 * page)
why_text PastLimit = codes "PastLimit"

abbrev pub fault_text : ListFault → List ℕ
fault_text f = codes "word " ++ (decimal f.word ++ (codes ": " ++ why_text f.why))
