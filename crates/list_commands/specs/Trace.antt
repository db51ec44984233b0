-- What `trace` makes (this project's own).
use Rattle.std.specs.Prelude.{◌≡◌, ℕ, ◌/◌, List, ◌++◌, codes, decimal, Option, Some, None, Result, Ok, Err, [], ◌∷◌}
use Rattle.kx_pages.specs.declared.image.Mode.{Mode}
use Rattle.kx_pages.specs.declared.image.Mode.TheVariants.{Plain, Kept}
use Rattle.page_memory.specs.Contents.{Contents, at}
use Rattle.relocate_machine.specs.declared.step.Outcome.{Outcome}
use Rattle.relocate_machine.specs.declared.step.Outcome.TheVariants as outcomes
use Rattle.relocate_machine.specs.Machine.{State}
use Rattle.relocate_machine.specs.Run.{run_of}
use Rattle.file_commands.specs.Taking.{Refusal, too_long, by}
use Rattle.kexec_words.specs.Values.{TraceValue}
use Rattle.command_parts.specs.declared.reason.Reason.{Reason}
use Rattle.command_parts.specs.Files.{memory_file}
use Rattle.command_parts.specs.Outputs.{Made, HasNoFile, IsMemoryFile, IsFileOf, IsTooHeavy}
use Rattle.command_parts.specs.Texts.{hexadecimal}
use Rattle.kx_edge.specs.Edge.{Said}
use Rattle.kx_edge.specs.declared.edge.Shelf.{Ghosts as Shelf}
use Rattle.kx_edge.specs.declared.edge.Sink.{Ghosts as Sink}
use Rattle.file_commands.specs.Answers.{FilesPut, command_of}
use Rattle.command_parts.specs.Entry.{ProgramEntry}

-- how a run came out
abbrev pub outcome_line : Outcome → List ℕ
outcome_line (outcomes.Done steps) = codes "done " ++ (decimal steps ++ codes "\n")
outcome_line (outcomes.Running limit) = codes "running " ++ (decimal limit ++ codes "\n")
outcome_line (outcomes.Off address steps) =
    codes "off " ++ (hexadecimal address ++ (codes " after " ++ (decimal steps ++ codes "\n")))

-- with a swap page the moves are those of kept mode
abbrev pub mode_by : Option ℕ → Mode
mode_by None = Plain
mode_by (Some address) = Kept (address / 4096)

-- the file of the memory after the steps and the outcome's line; or that memory has no file
abbrev pub traces : (head : ℕ) → Mode → (limit : ℕ) → (out : List ℕ) → Contents
    → Result Made (Refusal Reason) → Type 0
traces head mode limit out m (Ok goods) =
    let run = run_of m head mode limit in
    (goods.text ≡ outcome_line run.1) × (goods.fault ≡ None)
    × IsMemoryFile goods.outputs out (at run.0.memory)
traces head mode limit out m (Err (by why)) =
    HasNoFile (at (run_of m head mode limit).0.memory) why
traces head mode limit out m (Err (too_long name most)) = ⊥

-- the machine's run that the words ask of a memory
abbrev pub run_asked : TraceValue → Contents → State × Outcome
run_asked t m = run_of m t.head (mode_by t.swap) t.limit

module _ {S O : Type 0} (D : Shelf S) (E : Sink O) (s : S) (o : O) (s' : S) (o' : O) where
  -- After `trace` of this memory: OUT is the file of the memory after the steps of the machine, and the text tells how its
  -- run came out.
  pub record HasTraced (t : TraceValue) (m : Contents) : Type 0 where
    pub output : List ℕ
    pub is_memory : IsFileOf (at (run_asked t m).0.memory) output
    pub put : FilesPut (D.files s) ((t.out, output) ∷ []) (D.files s')
    pub said : Said (E.said o) (outcome_line (run_asked t m).1) (E.said o')

-- the memory after the steps has a file
abbrev pub CanTrace : TraceValue → Contents → Type 0
CanTrace t m = (n : ℕ) → IsTooHeavy (at (run_asked t m).0.memory) n → ⊥

abbrev pub trace_entry : TraceValue → ProgramEntry
trace_entry t = record {
  Inputs = Contents;
  command = command_of (memory_file t.memory) (traces t.head (mode_by t.swap) t.limit t.out);
  did = λ D E x s o s' o'. HasTraced D E s o s' o' t x;
  can = CanTrace t;
}
