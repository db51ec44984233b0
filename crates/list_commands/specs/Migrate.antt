-- What `migrate` makes (this project's own).
use Rattle.std.specs.Prelude.{◌≡◌, ℕ, List, [], ◌∷◌, ◌++◌, codes, decimal, length, None, Result, Ok, Err}
use Rattle.load_record.specs.File.{Record, record_file}
use Rattle.file_commands.specs.Taking.{Refusal}
use Rattle.kexec_words.specs.Values.{MigrateValue}
use Rattle.command_parts.specs.declared.reason.Reason.{Reason}
use Rattle.list_commands.specs.Records.{load_record_file}
use Rattle.command_parts.specs.Outputs.{IsReadBack, Made}
use Rattle.kx_edge.specs.Edge.{Said}
use Rattle.kx_edge.specs.declared.edge.Shelf.{Ghosts as Shelf}
use Rattle.kx_edge.specs.declared.edge.Sink.{Ghosts as Sink}
use Rattle.file_commands.specs.Answers.{FilesPut, command_of}
use Rattle.file_commands.specs.Entry.{always}
use Rattle.command_parts.specs.Entry.{ProgramEntry}

-- how many segments a record has
abbrev pub segments_line : ℕ → List ℕ
segments_line count = codes "record segments " ++ (decimal count ++ codes "\n")

-- the file of the record, which reads back, and the line of its segments; nothing is refused
abbrev pub migrates : List ℕ → Record → Result Made (Refusal Reason) → Type 0
migrates out r (Ok goods) =
    (goods.text ≡ segments_line (length r.segments)) × (goods.fault ≡ None)
    × (goods.outputs ≡ (out, record_file r) ∷ []) × IsReadBack r
migrates out r (Err other) = ⊥

module _ {S O : Type 0} (D : Shelf S) (E : Sink O) (s : S) (o : O) (s' : S) (o' : O) where
  -- After `migrate`: OUT is the file of the record that was read, as the second version spells it, and reads back as this
  -- record. Every other file is as it was, and the text tells how many segments the record has.
  pub record HasMigrated (m : MigrateValue) (load_record : Record) : Type 0 where
    pub read_back : IsReadBack load_record
    pub put : FilesPut (D.files s) ((m.out, record_file load_record) ∷ []) (D.files s')
    pub said : Said (E.said o) (segments_line (length load_record.segments)) (E.said o')

abbrev pub migrate_entry : MigrateValue → ProgramEntry
migrate_entry m = record {
  Inputs = Record;
  command = command_of (load_record_file m.load_record) (migrates m.out);
  did = λ D E x s o s' o'. HasMigrated D E s o s' o' m x;
  can = always;
}
