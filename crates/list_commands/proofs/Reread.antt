-- What commands read of files that are held.
use Rattle.std.proofs.Common.{◌≡◌, ◌∙◌, ℕ, Bool, true, false, List, length, drop, Option, Some, None, Ok, if◌then◌else◌, ap, refl, sym, subst}
use Rattle.kx_laws.proofs.Results.{bind_ok, ok_same}
use Rattle.kx_edge.specs.Edge.{Files}
use Rattle.page_memory.specs.Contents.{Contents}
use Rattle.segments.specs.Rules.{bare_refusal}
use Rattle.segments.specs.inner.Rules.{IsBare}
use Rattle.segments.specs.Values.{SegmentValue}
use Rattle.segments.specs.declared.fault.SegFault.{SegFault}
use Rattle.load_record.specs.File.{Record, tested_head, record_of, record_reading, record_by, tested_segments}
use Rattle.load_record.specs.Head.{version_of}
use Rattle.load_record.specs.declared.fault.RecFault.{RecFault}
use Rattle.file_commands.specs.Files.{from_reader, whole_file}
use Rattle.file_commands.specs.Taking.{Refusal, ok, reads, ◌>>=◌}
use Rattle.file_commands.specs.inner.Taking.{file_at}
use Rattle.file_commands.proofs.Steps.{reads_cases}
use Rattle.kexec_words.specs.Values.{ExecValue}
use Rattle.list_commands.specs.declared.records.LoadFiles.{LoadFiles}
use Rattle.list_commands.specs.declared.records.TakenLoad.TheVariants.{Crash, Normal}
use Rattle.command_parts.specs.declared.reason.InputFault.TheVariants as inputs
use Rattle.command_parts.specs.declared.reason.Reason.{Reason}
use Rattle.command_parts.specs.declared.reason.Reason.TheVariants.{Input}
use Rattle.list_commands.specs.Records.{crash_files, list_files, load_by, load_files, load_record_file, record_limit}
use Rattle.command_parts.specs.Files.{memory_file}
use Rattle.command_parts.proofs.Found.{reader_found, whole_found}

-- the head of a record, a type that load_record keeps to itself: what a record is made of first
abbrev DomainOf : {A B : Type 0} → (A → B) → Type 0
DomainOf {A} f = A

abbrev Head : Type 0
Head = DomainOf record_by

pub record_found : (name : List ℕ) (held : Files) (r : Record) → reads (load_record_file name) held ≡ Ok r → record_reading (file_at held name) ≡ Ok r
record_found name held r h =
    let k = reads_cases (whole_file record_limit name) (λ bytes. from_reader (λ e. Input (inputs.Rec e)) (record_reading bytes)) held r h in
    subst (λ bytes. record_reading bytes ≡ Ok r) (sym (whole_found record_limit name held k.0 k.1)) (reader_found (λ e. Input (inputs.Rec e)) (record_reading k.0) held r k.2)

-- the load that the files tell, by the kind of the record
by_kind : (m : Contents) (r : Record) (b : Bool) → r.crash ≡ b → (if b then Crash (crash_files m r) else Normal (list_files m r)) ≡ load_by m r
by_kind m r true e = ap (λ b. if b then Crash (crash_files m r) else Normal (list_files m r)) (sym e)
by_kind m r false e = ap (λ b. if b then Crash (crash_files m r) else Normal (list_files m r)) (sym e)

-- a load that is normal is that of the memory and the record
normal_by : (m : Contents) (r : Record) (x : LoadFiles) (b : Bool) → r.crash ≡ b → load_by m r ≡ Normal x → list_files m r ≡ x
normal_by m r x true e h = let k = by_kind m r true e ∙ h in cc
normal_by m r x false e h = let k = by_kind m r false e ∙ h in cc

-- what `exec` read of a normal load, file by file
pub record IsReadAs (e : ExecValue) (held : Files) (x : LoadFiles) : Type 0 where
  pub m : Contents
  pub r : Record
  pub memory : reads (memory_file e.memory) held ≡ Ok m
  pub load_record : reads (load_record_file e.load_record) held ≡ Ok r
  pub same : list_files m r ≡ x

pub exec_read : (e : ExecValue) (held : Files) (x : LoadFiles) → reads (load_files e.memory e.load_record) held ≡ Ok (Normal x) → IsReadAs e held x
exec_read e held x h =
    let m = reads_cases (memory_file e.memory) (λ m. load_record_file e.load_record >>= (λ r. ok (load_by m r))) held (Normal x) h in
    let r = reads_cases (load_record_file e.load_record) (λ r. ok (load_by m.0 r)) held (Normal x) m.2 in
    record {
      m = m.0;
      r = r.0;
      memory = m.1;
      load_record = r.1;
      same = normal_by m.0 r.0 x r.0.crash refl (ok_same {F = Refusal Reason} (load_by m.0 r.0) (Normal x) r.2);
    }

-- the segments of a record that was read break no rule
ruled_bare : (h : Head) (ss : List SegmentValue) (first : Option SegFault) (r : Record) → bare_refusal ss ≡ first → record_by h ss first ≡ Ok r → IsBare r.segments
ruled_bare h ss None r e k = subst (λ (r : Record). IsBare r.segments) (ok_same {F = RecFault} (record_of h ss) r k) e
ruled_bare h ss (Some fault) r e k = cc

record_bare : (bytes : List ℕ) (r : Record) → record_reading bytes ≡ Ok r → IsBare r.segments
unfolding record_reading
record_bare bytes r h =
    let head = bind_ok (tested_head bytes) _ r h in
    let list = bind_ok (tested_segments (version_of bytes) (length bytes) head.0.segments (drop 96 bytes)) _ r head.2 in
    ruled_bare head.0 list.0 (bare_refusal list.0) r refl list.2

pub exec_bare : (e : ExecValue) (held : Files) (x : LoadFiles) → reads (load_files e.memory e.load_record) held ≡ Ok (Normal x) → IsBare x.segments
exec_bare e held x h =
    let k = exec_read e held x h in
    subst (λ (x : LoadFiles). IsBare x.segments) k.same (record_bare (file_at held e.load_record) k.r (record_found e.load_record held k.r k.load_record))
