-- Commands that copy a file, for the examples (this project's own).
use Rattle.std.specs.Prelude.{◌≡◌, ℕ, zero, suc, ◌+◌, List, [], ◌∷◌, Option, Some, None, Result, Ok, Err, codes}
use Rattle.kx_edge.specs.Edge.{Said}
use Rattle.file_commands.specs.Answers.{Answer, Command, FilesPut, Goods, Meets, MeetsTold, command_of}
use Rattle.file_commands.specs.Entry.{Entry, Holds, always}
use Rattle.file_commands.specs.Files.{whole_file}
use Rattle.file_commands.specs.Taking.{File, Refusal, by, ok}
use Rattle.worked_commands.specs.Shelves.{Desk, Slate, desk, slate, holding}

-- two outputs and a text
abbrev pub copy_goods : Option ℕ → List ℕ → Goods ℕ
copy_goods fault bytes = record {
  outputs = (codes "o", bytes) ∷ (codes "r", codes "12") ∷ [];
  text = codes "ok\n";
  fault = fault;
}

-- bytes are copied, with this fault; a file without bytes is refused for the reason 7
abbrev pub copies : Option ℕ → List ℕ → Result (Goods ℕ) (Refusal ℕ) → Type 0
copies fault [] (Ok goods) = ⊥
copies fault [] (Err why) = why ≡ by 7
copies fault (b ∷ bs) (Ok goods) = goods ≡ copy_goods fault (b ∷ bs)
copies fault (b ∷ bs) (Err why) = ⊥

-- `a` is copied, of at most three bytes
abbrev pub copy : Option ℕ → Command (List ℕ) ℕ ℕ
copy fault = command_of (whole_file 3 (codes "a")) (copies fault)

-- the files of the shelf before and after, and its faults
abbrev pub shelf : List File → (faults : ℕ) → Desk
shelf fs faults = record { files = Some (holding fs); faults = faults }

-- what was said, and the faults of the sink
abbrev pub slate_with : List ℕ → (faults : ℕ) → Slate
slate_with bytes faults = record { said = Some bytes; faults = faults }

-- the answer to this copy over a shelf of these files, from the states before to those
abbrev pub MeetsOver : List File → Option ℕ → Answer ℕ ℕ → Desk → Slate → Type 0
MeetsOver fs fault answer now told =
    MeetsTold desk slate (copy fault) (holding fs) (shelf fs 6) (slate_with (codes "!") 8) answer
    now told

-- `a` alone
abbrev pub one_file : List File
one_file = (codes "a", codes "xyz") ∷ []

-- `a` is a byte too long
abbrev pub long_file : List File
long_file = (codes "a", codes "wxyz") ∷ []

-- over a shelf of `a` alone
abbrev pub MeetsHere : Option ℕ → Answer ℕ ℕ → Desk → Slate → Type 0
MeetsHere fault answer now told = MeetsOver one_file fault answer now told

-- the same by what the calls did
abbrev pub MeetsByCalls : Option ℕ → Answer ℕ ℕ → Desk → Slate → Type 0
MeetsByCalls fault answer now told =
    Meets desk slate (copy fault) (shelf one_file 6) (slate_with (codes "!") 8) answer now told

-- the copy as an entry: `o` has the bytes of `a`, and the text is as it is
abbrev pub copy_entry : Entry ℕ ℕ
copy_entry = record {
  Inputs = List ℕ;
  command = copy None;
  did = λ D E x s o s' o'.
      FilesPut (D.files s) ((codes "o", x) ∷ (codes "r", codes "12") ∷ []) (D.files s')
      × Said (E.said o) (codes "ok\n") (E.said o');
  can = λ x. x ≡ [] → ⊥;
}

-- an entry that takes no file: its one output is `o`, of the byte of its number
abbrev pub write_entry : Entry ℕ ℕ
write_entry = record {
  Inputs = ℕ;
  command = command_of (ok 0x41)
      (λ x r. r ≡ Ok (record { outputs = (codes "o", x ∷ []) ∷ []; text = []; fault = None }));
  did = λ D E x s o s' o'. FilesPut (D.files s) ((codes "o", x ∷ []) ∷ []) (D.files s');
  can = always;
}

-- words are an entry's number, and other words are refused for the reason 100 and this number more
abbrev pub entry_of_number : ℕ → Entry ℕ ℕ
entry_of_number zero = copy_entry
entry_of_number (suc n) = write_entry

-- what the command that the words say makes: its type and what it takes
abbrev pub HoldsHere : ((X : Type 0) → Command X ℕ ℕ → Type 0) → Result ℕ ℕ → Type 0
HoldsHere P said = Holds entry_of_number (λ w. 100 + w) P said
