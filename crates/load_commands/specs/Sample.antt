-- What `sample` makes. It takes no file. This project's own.
use Rattle.std.specs.Prelude.{◌≡◌, ℕ, List, [], ◌++◌, None, Result, Ok, Err, codes}
use Rattle.kx_pages.specs.declared.image.Wish.TheVariants.{Plain}
use Rattle.load_states.specs.Fillings.{IsSealed}
use Rattle.load_states.specs.Ready.{Told}
use Rattle.load_states.specs.States.{Checked}
use Rattle.sample_load.specs.Samples.{sample_memory, sample_pool, sample_segments, start_of, memory_digest}
use Rattle.file_commands.specs.Taking.{Refusal, ok}
use Rattle.command_parts.specs.declared.reason.Reason.{Reason}
use Rattle.command_parts.specs.Outputs.{Made}
use Rattle.command_parts.specs.Runs.{after_runs, list_text, Leaves, MachineLeaves}
use Rattle.command_parts.specs.Texts.{ran_line}
use Rattle.kx_edge.specs.Edge.{Said}
use Rattle.kx_edge.specs.declared.edge.Shelf.{Ghosts as Shelf}
use Rattle.kx_edge.specs.declared.edge.Sink.{Ghosts as Sink}
use Rattle.load_states.specs.Runs.{EndsAfter}
use Rattle.file_commands.specs.Answers.{FilesPut, command_of}
use Rattle.file_commands.specs.Entry.{always}
use Rattle.command_parts.specs.Entry.{ProgramEntry}
use Rattle.kx_pages.specs.Bytes.{Mem}
use Rattle.hex.specs.Hex.{encode_lower}

-- the digest of a sample's memory, in hexadecimal
unfoldable pub memory_line : Mem → List ℕ
memory_line N = codes "memory " ++ (encode_lower (memory_digest N) ++ codes "\n")

-- The sample of this number was loaded in plain mode.
pub record IsSample (number : ℕ) (c : Checked) : Type 0 where
  -- the list, the control page and the sources are those that the rules of taking pages and laying a list give, in its
  -- memory and from its pool
  pub laid : IsSealed sample_memory sample_pool Plain (sample_segments number) c.load
  -- the list is accepted for its segments, by a walk of so many words with so many link pages and these pairs
  pub accepted : Told c.load c.words c.links c.pairs

-- what is said of the list, of its run, and of the memory after it
abbrev pub sample_text : ℕ → Checked → List ℕ
sample_text number c =
    (list_text c (start_of (sample_segments number)) ++ ran_line c.words)
    ++ memory_line (after_runs None c)

-- The list of the sample is run, and the text tells of it. No output is made, and nothing is refused.
abbrev pub samples : ℕ → Unit {0} → Result Made (Refusal Reason) → Type 0
samples number x (Ok goods) =
    (c : Checked) × IsSample number c × (goods.outputs ≡ []) × (goods.text ≡ sample_text number c)
    × (goods.fault ≡ None)
samples number x (Err why) = ⊥

module _ {S O : Type 0} (D : Shelf S) (E : Sink O) (s : S) (o : O) (s' : S) (o' : O) where
  -- After `sample`: the load that the number makes was run. The machine's run of its list ends after as many steps as the
  -- walk has words, and leaves each page of its segments what it is to have and every other page as it was. Every file is
  -- as it was, and the text tells the list, its run and the memory after it.
  pub record HasSampled (number : ℕ) : Type 0 where
    pub checked : Checked
    pub sample : IsSample number checked
    pub ends : EndsAfter checked.load checked.words
    pub runs : MachineLeaves None checked
    pub leaves : Leaves None checked (after_runs None checked)
    pub put : FilesPut (D.files s) [] (D.files s')
    pub said : Said (E.said o) (sample_text number checked) (E.said o')

abbrev pub sample_entry : ℕ → ProgramEntry
sample_entry number = record {
  Inputs = Unit {0};
  command = command_of (ok tt) (samples number);
  did = λ D E x s o s' o'. HasSampled D E s o s' o' number;
  can = always;
}
