-- What `core` makes (this project's own).
use Rattle.std.specs.Prelude.{◌≡◌, ℕ, List, [], ◌∷◌, ◌++◌, codes, decimal, length, None, Result, Ok, Err}
use Rattle.kx_edge.specs.Edge.{Said}
use Rattle.kx_edge.specs.declared.edge.Shelf.{Ghosts as Shelf}
use Rattle.kx_edge.specs.declared.edge.Sink.{Ghosts as Sink}
use Rattle.kx_pages.specs.Bytes.{Mem}
use Rattle.page_memory.specs.Contents.{Contents, at}
use Rattle.vmcore_file.specs.File.{CoreValue as CoreMade, core_reading}
use Rattle.file_commands.specs.Answers.{FilesPut, command_of}
use Rattle.file_commands.specs.Taking.{Refusal, too_long, by}
use Rattle.kexec_words.specs.Values.{CoreValue}
use Rattle.command_parts.specs.declared.reason.Reason.{Reason}
use Rattle.command_parts.specs.declared.reason.Reason.TheVariants.{Core}
use Rattle.command_parts.specs.Entry.{ProgramEntry}
use Rattle.command_parts.specs.Files.{memory_file}
use Rattle.command_parts.specs.Outputs.{Made}

-- how many load rows, bytes of notes and bytes a core file has
abbrev pub core_line : CoreMade → List ℕ
core_line core =
    codes "core loads "
    ++ (decimal core.loads
    ++ (codes " notes "
    ++ (decimal core.notes ++ (codes " bytes " ++ (decimal (length core.bytes) ++ codes "\n")))))

-- the memory has no core by the headers at an address, for this reason
abbrev pub RefusesCore : Mem → ℕ → Reason → Type 0
RefusesCore M address (Core fault) = core_reading M address ≡ Err fault
RefusesCore M address other = ⊥

-- the core file of a memory by the headers at an address, under this name, and the line of its size; or there is none
abbrev pub cores : ℕ → List ℕ → Contents → Result Made (Refusal Reason) → Type 0
cores address out memory (Ok goods) =
    (core : CoreMade) × (core_reading (at memory) address ≡ Ok core)
    × (goods.text ≡ core_line core) × (goods.fault ≡ None)
    × (goods.outputs ≡ (out, core.bytes) ∷ [])
cores address out memory (Err (by why)) = RefusesCore (at memory) address why
cores address out memory (Err (too_long name limit)) = ⊥

module _ {S O : Type 0} (D : Shelf S) (E : Sink O) (s : S) (o : O) (s' : S) (o' : O) where
  -- After `core`: the memory that was read has a core by the headers at the address. OUT is its file, every other file is
  -- as it was, and the text tells how large it is.
  pub record HasWrittenCore (c : CoreValue) (memory : Contents) : Type 0 where
    pub made : CoreMade
    pub is_core : core_reading (at memory) c.address ≡ Ok made
    pub put : FilesPut (D.files s) ((c.out, made.bytes) ∷ []) (D.files s')
    pub said : Said (E.said o) (core_line made) (E.said o')

-- the memory has a core by the headers at the address
abbrev pub CanWriteCore : ℕ → Contents → Type 0
CanWriteCore address memory = (core : CoreMade) × (core_reading (at memory) address ≡ Ok core)

abbrev pub core_entry : CoreValue → ProgramEntry
core_entry c = record {
  Inputs = Contents;
  command = command_of (memory_file c.memory) (cores c.address c.out);
  did = λ D E memory s o s' o'. HasWrittenCore D E s o s' o' c memory;
  can = CanWriteCore c.address;
}
