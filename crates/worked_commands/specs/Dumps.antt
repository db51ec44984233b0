-- What `dump` says of the segment `abc` at page 2, and of lists for it (this project's own).
use Rattle.std.specs.Prelude.{ℕ, ◌++◌, List, codes}

-- the digest is that of FIPS 180-4's example
abbrev pub segment_text : List ℕ
segment_text =
    codes "segment 2000 memsz 1000 bufsz 3 sha256 "
    ++ codes "ba7816bf8f01cfea414140de5dae2223b00361a396177a9cb410ff61f20015ad\n"

-- of the list that moves page 12 to page 2
abbrev pub list_text : List ℕ
list_text =
    codes "0 link 11000\n1 destination 2000\n2 source 12000\n3 done\n" ++ segment_text

-- of one whose first link page links to itself
abbrev pub round_text : List ℕ
round_text = codes "0 link 11000\nword 1: LinkAgain\n" ++ segment_text

-- of a crash kernel
abbrev pub crash_text : List ℕ
crash_text = codes "0 done\n" ++ segment_text
