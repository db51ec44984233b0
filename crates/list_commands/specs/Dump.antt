-- What `dump` makes: a line for each word of the list, and one for each segment.
use Rattle.std.specs.Prelude.{◌≡◌, ℕ, ◌+◌, ◌*◌, ◌/◌, List, [], ◌∷◌, ◌++◌, length, take, codes, decimal, Option, Some, None, option_map, Result, Ok, Err}
use Rattle.std.specs.List.{flat_map}
use Rattle.kx_pages.specs.declared.item.Item.{Item}
use Rattle.kx_pages.specs.declared.item.Item.TheVariants.{Link, Destination, Source, Done}
use Rattle.kx_pages.specs.Items.{decode, item_of}
use Rattle.page_memory.specs.Contents.{at}
use Rattle.segments.specs.Values.{SegmentValue}
use Rattle.list_checker.specs.declared.fault.ListFault.{ListFault}
use Rattle.list_checker.specs.Crash.{crash_reason}
use Rattle.list_checker.specs.Reading.{IsWalk}
use Rattle.list_checker.specs.Texts.{fault_text}
use Rattle.sha2.specs.Sha256.{sha256}
use Rattle.hex.specs.Hex.{encode_lower}
use Rattle.file_commands.specs.Taking.{Refusal}
use Rattle.list_commands.specs.declared.records.CrashFiles.{CrashFiles}
use Rattle.list_commands.specs.declared.records.LoadFiles.{LoadFiles}
use Rattle.list_commands.specs.declared.records.TakenLoad.{TakenLoad}
use Rattle.list_commands.specs.declared.records.TakenLoad.TheVariants.{Normal, Crash}
use Rattle.command_parts.specs.declared.reason.Reason.{Reason}
use Rattle.list_commands.specs.Records.{load_files_of}
use Rattle.command_parts.specs.Outputs.{Made}
use Rattle.command_parts.specs.Texts.{hexadecimal}
use Rattle.kx_edge.specs.Edge.{Said}
use Rattle.kx_edge.specs.declared.edge.Shelf.{Ghosts as Shelf}
use Rattle.kx_edge.specs.declared.edge.Sink.{Ghosts as Sink}
use Rattle.file_commands.specs.Answers.{FilesPut, command_of}
use Rattle.kexec_words.specs.Values.{LoadNamesValue}
use Rattle.file_commands.specs.Entry.{always}
use Rattle.command_parts.specs.Entry.{ProgramEntry}

-- what a word is, and its address, that is the word without its flags
abbrev pub item_text : Item → ℕ → List ℕ
item_text (Link p) address = codes " link " ++ (hexadecimal address ++ codes "\n")
item_text (Destination p) address = codes " destination " ++ (hexadecimal address ++ codes "\n")
item_text (Source p) address = codes " source " ++ (hexadecimal address ++ codes "\n")
item_text (Done p) address = codes " done\n"

-- the line of a word of a walk: its number, what it is, and its address; a word that is no item has none
unfoldable pub word_line : ℕ → ℕ → List ℕ
word_line n w =
    elim (item_of w) [ Err fault ↦ [] | Ok item ↦ decimal n ++ item_text item (4096 * (w / 4096)) ]

-- the lines of words, the first of which has this number
abbrev pub word_lines : ℕ → List ℕ → List ℕ
word_lines n [] = []
word_lines n (w ∷ ws) = word_line n w ++ word_lines (n + 1) ws

-- the lines of a walk. The line of a word that cannot be followed, which is the last, tells why.
abbrev pub walk_text : List ℕ → Option ListFault → List ℕ
walk_text ws None = word_lines 0 ws
walk_text ws (Some f) = word_lines 0 (take f.word ws) ++ (fault_text f ++ codes "\n")

-- the line of a segment: its address, its bytes of memory, the count of its bytes and their digest by SHA-256 (FIPS 180-4)
unfoldable pub segment_line : SegmentValue → List ℕ
segment_line s =
    codes "segment "
    ++ (hexadecimal s.mem
    ++ (codes " memsz "
    ++ (hexadecimal s.memsz
    ++ (codes " bufsz "
    ++ (decimal (length s.bytes)
    ++ (codes " sha256 " ++ (encode_lower (sha256 s.bytes) ++ codes "\n")))))))

-- why the head of a crash load is no done word, if it is none: the fault of a load without pages
abbrev pub head_fault : ℕ → Option ListFault
head_fault head =
    option_map (λ why. record { word = 0; why = why })
    (crash_reason (λ p. []) (λ p. None) [] (decode head))

abbrev pub head_text_by : ℕ → Option ListFault → List ℕ
head_text_by head None = word_line 0 head
head_text_by head (Some f) = fault_text f ++ codes "\n"

-- the line of the head of a crash load: the done word, or why it is none
abbrev pub head_text : ℕ → List ℕ
head_text head = head_text_by head (head_fault head)

-- goods that are lines alone
abbrev pub lines_of : List ℕ → Made
lines_of text = record { outputs = []; text = text; fault = None }

-- a line for each word and each segment; no output is made, whether the list is accepted or not,
-- and nothing is refused
abbrev pub dumps_list : LoadFiles → Result Made (Refusal Reason) → Type 0
dumps_list x (Ok goods) =
    (ws : List ℕ) × (fault : Option ListFault)
    × IsWalk (at x.memory) x.image.head ws fault
    × (goods ≡ lines_of (walk_text ws fault ++ flat_map segment_line x.segments))
dumps_list x (Err other) = ⊥

-- the same of a crash load, whose list is the head alone
abbrev pub dumps_in_place : CrashFiles → Result Made (Refusal Reason) → Type 0
dumps_in_place x (Ok goods) =
    goods ≡ lines_of (head_text x.head ++ flat_map segment_line x.segments)
dumps_in_place x (Err other) = ⊥

-- by the record's kind
abbrev pub dumps : TakenLoad → Result Made (Refusal Reason) → Type 0
dumps (Normal x) r = dumps_list x r
dumps (Crash x) r = dumps_in_place x r

module _ {S O : Type 0} (D : Shelf S) (E : Sink O) (s : S) (o : O) (s' : S) (o' : O) where
  -- After `dump` of a normal load: the text tells each word of the record's list, up to the done word
  -- or the first that cannot be followed, and each segment.
  pub record HasDumped (files : LoadFiles) : Type 0 where
    pub list : List ℕ
    pub fault : Option ListFault
    pub walk : IsWalk (at files.memory) files.image.head list fault
    pub put : FilesPut (D.files s) [] (D.files s')
    pub said : Said (E.said o)
        (walk_text list fault ++ flat_map segment_line files.segments) (E.said o')

  -- After `dump` of a crash load: the text tells its head and each segment.
  pub record HasDumpedCrash (files : CrashFiles) : Type 0 where
    pub put : FilesPut (D.files s) [] (D.files s')
    pub said : Said (E.said o)
        (head_text files.head ++ flat_map segment_line files.segments) (E.said o')

  -- after `dump`, by the load that was read
  abbrev pub HasDumpedLoad : TakenLoad → Type 0
  HasDumpedLoad (Normal files) = HasDumped files
  HasDumpedLoad (Crash files) = HasDumpedCrash files

abbrev pub dump_entry : LoadNamesValue → ProgramEntry
dump_entry l = record {
  Inputs = TakenLoad;
  command = command_of (load_files_of l) dumps;
  did = λ D E x s o s' o'. HasDumpedLoad D E s o s' o' x;
  can = always;
}
