-- What `check` makes: what is told of an accepted load, or the first fault of another (this
-- project's own).
use Rattle.std.specs.Prelude.{◌≡◌, List, [], length, codes, ◌++◌, Option, Some, None, Result, Ok, Err}
use Rattle.kx_pages.specs.declared.item.Item.{Item}
use Rattle.kx_pages.specs.Items.{decode}
use Rattle.page_memory.specs.Contents.{at}
use Rattle.segments.specs.Values.{pages, want}
use Rattle.list_checker.specs.declared.fault.ListFault.{ListFault}
use Rattle.list_checker.specs.Walk.{IsAccepted, links, pairs}
use Rattle.list_checker.specs.Checked.{IsFirstFault}
use Rattle.list_checker.specs.Crash.{AcceptedCrash, crash_reason}
use Rattle.list_checker.specs.Texts.{fault_text}
use Rattle.file_commands.specs.Taking.{Refusal}
use Rattle.list_commands.specs.declared.records.CrashFiles.{CrashFiles}
use Rattle.list_commands.specs.declared.records.LoadFiles.{LoadFiles}
use Rattle.list_commands.specs.declared.records.TakenLoad.{TakenLoad}
use Rattle.list_commands.specs.declared.records.TakenLoad.TheVariants.{Normal, Crash}
use Rattle.command_parts.specs.declared.reason.Reason.{Reason}
use Rattle.command_parts.specs.Outputs.{Made}
use Rattle.command_parts.specs.Texts.{accepted_line, crash_line}
use Rattle.kx_pages.specs.Modes.{swap_page}
use Rattle.kx_edge.specs.Edge.{Said}
use Rattle.kx_edge.specs.declared.edge.Shelf.{Ghosts as Shelf}
use Rattle.kx_edge.specs.declared.edge.Sink.{Ghosts as Sink}
use Rattle.file_commands.specs.Answers.{FilesPut, command_of}
use Rattle.kexec_words.specs.Values.{LoadNamesValue}
use Rattle.command_parts.specs.Entry.{ProgramEntry}
use Rattle.list_commands.specs.Records.{load_files_of}

-- the items are a list that is accepted for the record's segments in the memory, in its mode
abbrev pub IsAcceptedIn : LoadFiles → List Item → Type 0
IsAcceptedIn x is =
    IsAccepted (at x.memory) (want x.segments) x.image.head x.image.control (swap_page x.image.mode)
    is

-- the list is not accepted, and this is its first fault
abbrev pub IsFaultIn : LoadFiles → ListFault → Type 0
IsFaultIn x f = IsFirstFault x.memory x.segments x.image f.word f.why

-- the crash load lies in its place: its head is a done word, and each page of its segments has its
-- segment's bytes and then zeros
abbrev pub IsInPlace : CrashFiles → Type 0
IsInPlace x = AcceptedCrash (at x.memory) (want x.segments) x.head

-- it does not, and this is its first fault, which is told of the head
pub record IsPlaceFault (x : CrashFiles) (f : ListFault) : Type 0 where
  pub head : f.word ≡ 0
  pub why : crash_reason (at x.memory) (want x.segments) (pages x.segments) (decode x.head)
      ≡ Some f.why
  pub no_place : IsInPlace x → ⊥

-- the goods of a load that is not accepted: the fault's line alone
pub record IsFaultLine (f : ListFault) (goods : Made) : Type 0 where
  pub outputs : goods.outputs ≡ []
  pub text : goods.text ≡ fault_text f ++ codes "\n"
  pub fault : goods.fault ≡ Some f

-- the line of an accepted list
pub record IsAcceptedLine (x : LoadFiles) (goods : Made) : Type 0 where
  pub items : List Item
  pub accepted : IsAcceptedIn x items
  pub text : goods.text ≡ accepted_line (length items) (length (links items)) (length (pairs items))
  pub outputs : goods.outputs ≡ []

-- the line of a crash load that lies in its place
pub record IsPlaceLine (x : CrashFiles) (goods : Made) : Type 0 where
  pub accepted : IsInPlace x
  pub text : goods.text ≡ crash_line (length (pages x.segments))
  pub outputs : goods.outputs ≡ []

abbrev pub checks_list_as : LoadFiles → Made → Option ListFault → Type 0
checks_list_as x goods None = IsAcceptedLine x goods
checks_list_as x goods (Some f) = IsFaultIn x f × IsFaultLine f goods

-- the line of an accepted list, or its first fault; no output is made, and nothing is refused
abbrev pub checks_list : LoadFiles → Result Made (Refusal Reason) → Type 0
checks_list x (Ok goods) = checks_list_as x goods goods.fault
checks_list x (Err other) = ⊥

abbrev pub checks_place_as : CrashFiles → Made → Option ListFault → Type 0
checks_place_as x goods None = IsPlaceLine x goods
checks_place_as x goods (Some f) = IsPlaceFault x f × IsFaultLine f goods

-- the same of a crash load
abbrev pub checks_in_place : CrashFiles → Result Made (Refusal Reason) → Type 0
checks_in_place x (Ok goods) = checks_place_as x goods goods.fault
checks_in_place x (Err other) = ⊥

-- by the record's kind
abbrev pub checks : TakenLoad → Result Made (Refusal Reason) → Type 0
checks (Normal x) r = checks_list x r
checks (Crash x) r = checks_in_place x r

module _ {S O : Type 0} (D : Shelf S) (E : Sink O) (s : S) (o : O) (s' : S) (o' : O) where
  -- After `check` of a normal load: the list of the record is accepted in the memory for its segments,
  -- and the text tells it.
  pub record HasChecked (files : LoadFiles) : Type 0 where
    pub items : List Item
    pub accepted : IsAcceptedIn files items
    pub put : FilesPut (D.files s) [] (D.files s')
    pub said : Said (E.said o)
        (accepted_line (length items) (length (links items)) (length (pairs items))) (E.said o')

  -- After `check` of a crash load: it lies in its place, and the text tells how many pages it has.
  pub record HasCheckedCrash (files : CrashFiles) : Type 0 where
    pub accepted : IsInPlace files
    pub put : FilesPut (D.files s) [] (D.files s')
    pub said : Said (E.said o) (crash_line (length (pages files.segments))) (E.said o')

  -- after `check`, by the load that was read
  abbrev pub HasCheckedLoad : TakenLoad → Type 0
  HasCheckedLoad (Normal files) = HasChecked files
  HasCheckedLoad (Crash files) = HasCheckedCrash files

-- the load that was taken is accepted in the memory
abbrev pub IsAcceptedLoad : TakenLoad → Type 0
IsAcceptedLoad (Normal x) = (is : List Item) × IsAcceptedIn x is
IsAcceptedLoad (Crash x) = IsInPlace x

abbrev pub check_entry : LoadNamesValue → ProgramEntry
check_entry l = record {
  Inputs = TakenLoad;
  command = command_of (load_files_of l) checks;
  did = λ D E x s o s' o'. HasCheckedLoad D E s o s' o' x;
  can = IsAcceptedLoad;
}
