-- The printed text of reasons and faults (this project's own).
-- No clause of `kexec` reaches what stands here: it serves laws, and contracts inside the crates.
use Rattle.std.specs.Prelude.{ℕ, List, codes}
use Rattle.list_checker.specs.declared.fault.Why.{Why}
use Rattle.list_checker.specs.declared.fault.Why.TheVariants.{Flags, HeadKind, LinkAgain, RunsOff, NoDestination, NotWanted, TwiceWritten, SourceSpoiled, LinkSpoiled, ControlTouched, PairsMeet, SwapTouched, WrongBytes, Missing, PastLimit}

-- what is wrong with a word, for people
abbrev pub cause_text : Why → List ℕ
cause_text Flags = codes "its low twelve bits are not exactly one of the flags 1, 2, 4 and 8"
cause_text HeadKind = codes "a head links to a page or is done, and a crash kernel's head is done"
cause_text LinkAgain = codes "it links to a page that is already a link page"
cause_text RunsOff = codes "the last slot of a page must link on or to end the list"
cause_text NoDestination = codes "no destination word comes before it"
cause_text NotWanted = codes "its destination is no page of the segments"
cause_text TwiceWritten = codes "its destination was written by an earlier word"
cause_text SourceSpoiled = codes "its source was written by an earlier word"
cause_text LinkSpoiled = codes "a link page of the list is written by the list"
cause_text ControlTouched = codes "it names the control page or moves a page there"
cause_text PairsMeet =
    codes "one of its pages is the source of an earlier word, which context preserved forbids"
cause_text SwapTouched =
    codes "it names the swap page or moves a page there, or the swap page is the control page"
cause_text WrongBytes = codes "its source does not hold what its destination is to have"
cause_text (Missing page) = codes "the list leaves this page without the bytes that it is to have"
cause_text PastLimit = codes "its address is not below 0x400000000000"
