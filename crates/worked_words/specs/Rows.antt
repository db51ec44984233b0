-- What is given for arguments, as the examples write it (this project's own).
use Rattle.std.specs.Prelude.{List, [], ◌∷◌, codes}
use Rattle.command_table.specs.Table.{Text}
use Rattle.kexec_words.specs.Given.{GivenValue}

-- an argument that was given these values
abbrev pub row : Text → List Text → GivenValue
row id values = record { id = id; texts = values }

-- OUT has one value and then another row; MODULES have two; MEMORY has none, and POOL no row
abbrev pub rows : List GivenValue
rows =
    row (codes "OUT") (codes "o" ∷ []) ∷ row (codes "MODULES") (codes "x" ∷ codes "y" ∷ [])
    ∷ row (codes "MEMORY") [] ∷ row (codes "OUT") (codes "another" ∷ [])
    ∷ row (codes "twice") (codes "true" ∷ []) ∷ row (codes "kept") (codes "false" ∷ []) ∷ []

-- an argument that was given one value
abbrev pub one : Text → Text → GivenValue
one id value = row id (value ∷ [])

-- each argument of each command, with a value of its own
abbrev pub all_rows : List GivenValue
all_rows =
    one (codes "MEMORY") (codes "m") ∷ one (codes "POOL") (codes "p")
    ∷ one (codes "OUT") (codes "o") ∷ one (codes "RECORD") (codes "r")
    ∷ one (codes "KERNEL") (codes "k")
    ∷ row (codes "MODULES") (codes "x" ∷ codes "y" ∷ [])
    ∷ one (codes "PAIRS") (codes "q") ∷ one (codes "EVENTS") (codes "v")
    ∷ one (codes "HEAD") (codes "20002") ∷ one (codes "LIMIT") (codes "7")
    ∷ one (codes "NUMBER") (codes "10") ∷ one (codes "ADDRESS") (codes "8")
    ∷ one (codes "map") (codes "f") ∷ one (codes "initrd") (codes "i")
    ∷ one (codes "purgatory") (codes "u") ∷ one (codes "notes") (codes "n")
    ∷ one (codes "command") (codes "c") ∷ one (codes "type") (codes "raw")
    ∷ one (codes "kept") (codes "2") ∷ one (codes "at") (codes "2000")
    ∷ one (codes "entry") (codes "2004") ∷ one (codes "below") (codes "100000")
    ∷ one (codes "swap") (codes "12000") ∷ one (codes "twice") (codes "true") ∷ []
