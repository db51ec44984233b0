-- A list that moves page 12 to page 2, and what commands say of it (this project's own).
use Rattle.std.specs.Prelude.{◌≡◌, ℕ, ◌+◌, List, [], ◌∷◌, Some, true, false}
use Rattle.kx_edge.specs.Edge.{Said}
use Rattle.kx_edge.specs.declared.edge.Shelf.{Ghosts as Shelf}
use Rattle.kx_edge.specs.declared.edge.Sink.{Ghosts as Sink}
use Rattle.file_commands.specs.Answers.{FilesPut}
use Rattle.file_commands.specs.Taking.{File}
use Rattle.kx_pages.specs.declared.item.Item.{Item}
use Rattle.kx_pages.specs.declared.item.Item.TheVariants.{Link, Destination, Source, Done}
use Rattle.kx_pages.specs.Bytes.{Mem, page_of}
use Rattle.kx_pages.specs.declared.image.Mode.TheVariants.{Plain}
use Rattle.load_record.specs.File.{Record}
use Rattle.page_memory.specs.Contents.{Contents, at}
use Rattle.page_memory.specs.Memory.{word}
use Rattle.list_checker.specs.declared.fault.ListFault.{ListFault}
use Rattle.command_parts.specs.Outputs.{Made}
use Rattle.worked_commands.specs.Inputs.{three_bytes}
use Rattle.worked_commands.specs.Texts.{plain_image, registers}

-- M has these words from address a on
abbrev pub HasWords : Mem → ℕ → List ℕ → Type 0
HasWords M a [] = Unit {0}
HasWords M a (w ∷ ws) = (word M a ≡ w) × HasWords M (a + 8) ws

-- page 11 holds the list, whatever else memory holds
abbrev pub HasList : Contents → Type 0
HasList m = HasWords (at m) 0x11000 (0x2001 ∷ 0x12008 ∷ 4 ∷ [])

-- and page 12 these bytes and then zeros
abbrev pub HasSource : Contents → List ℕ → Type 0
HasSource m bytes = at m 0x12 ≡ page_of bytes

abbrev pub one_move : List Item
one_move = Link 0x11 ∷ Destination 2 ∷ Source 0x12 ∷ Done 0 ∷ []

-- the record of the list, for `abc` at page 2
abbrev pub plain_record : Record
plain_record = record {
  crash = false;
  image = plain_image;
  start = registers;
  regions = 0;
  digest = 0;
  segments = three_bytes;
}

-- the record of a crash kernel of `abc` at page 2, with this head
abbrev pub crash_record : ℕ → Record
crash_record head =
    record plain_record { crash = true; image = record { head = head; mode = Plain; control = 0 } }

-- a fault, and the goods that tell it alone
abbrev pub told_fault : ListFault → List ℕ → Made
told_fault f text = record { outputs = []; text = text; fault = Some f }

-- What was done put these outputs and no others, and said this text, on every shelf and sink.
abbrev pub Gives : {S O : Type 0} (D : Shelf S) (E : Sink O) → (S → O → S → O → Type 0)
    → List File → List ℕ → Type 0
Gives {S} {O} D E did outputs text =
    (s : S) (o : O) (t : S) (p : O) → did s o t p
    → FilesPut (D.files s) outputs (D.files t) × Said (E.said o) text (E.said p)

-- It was done where these outputs were put, and this text was said.
abbrev pub GivenBy : {S O : Type 0} (D : Shelf S) (E : Sink O) → (S → O → S → O → Type 0)
    → List File → List ℕ → Type 0
GivenBy {S} {O} D E did outputs text =
    (s : S) (o : O) (t : S) (p : O) → FilesPut (D.files s) outputs (D.files t)
    → Said (E.said o) text (E.said p) → did s o t p

-- What was done put these outputs; it said this text.
abbrev pub Puts : {S O : Type 0} (D : Shelf S) (E : Sink O) → (S → O → S → O → Type 0) → List File
    → Type 0
Puts {S} {O} D E did outputs =
    (s : S) (o : O) (t : S) (p : O) → did s o t p → FilesPut (D.files s) outputs (D.files t)

abbrev pub Says : {S O : Type 0} (D : Shelf S) (E : Sink O) → (S → O → S → O → Type 0) → List ℕ
    → Type 0
Says {S} {O} D E did text =
    (s : S) (o : O) (t : S) (p : O) → did s o t p → Said (E.said o) text (E.said p)

-- It was never done.
abbrev pub Never : {S O : Type 0} (D : Shelf S) (E : Sink O) → (S → O → S → O → Type 0) → Type 0
Never {S} {O} D E did = (s : S) (o : O) (t : S) (p : O) → did s o t p → ⊥

-- It is so from all states to all.
abbrev pub Always : {S O : Type 0} (D : Shelf S) (E : Sink O) → (S → O → S → O → Type 0) → Type 0
Always {S} {O} D E did = (s : S) (o : O) (t : S) (p : O) → did s o t p
