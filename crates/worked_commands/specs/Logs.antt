-- The calls of the copy of the examples, as logs have them (this project's own).
use Rattle.std.specs.Prelude.{ℕ, List, [], ◌∷◌, codes}
use Rattle.call_log.specs.Calls.{Call, put, said, taken}
use Rattle.worked_commands.specs.Inputs.{no_pages_file, three_bytes_file}
use Rattle.worked_commands.specs.Memories.{run_file}

-- `a` was taken, with one byte more than its limit, and `o` and `r` were put
abbrev pub a_taken : List ℕ → Call
a_taken bytes = taken (codes "a") 4 bytes

abbrev pub copy_calls : List Call
copy_calls =
    a_taken (codes "xyz") ∷ put (codes "o") (codes "xyz") ∷ put (codes "r") (codes "12") ∷ []

-- and the text was said
abbrev pub copy_text : List Call
copy_text = said (codes "ok\n") ∷ []

-- the calls of boot --type raw --at 2000 m p o k: each file was taken with one byte more than its limit
abbrev pub boot_calls : List Call
boot_calls =
    taken (codes "m") 537919505 no_pages_file ∷ taken (codes "p") 1048577 (codes "10-12\n")
    ∷ taken (codes "k") 268435457 (codes "abc") ∷ put (codes "o") run_file ∷ []

-- the calls of migrate r o
abbrev pub migrate_calls : List Call
migrate_calls =
    taken (codes "r") 268436449 three_bytes_file ∷ put (codes "o") three_bytes_file ∷ []
