-- What is read of files that are held.
use Rattle.std.proofs.Common.{◌≡◌, ◌∙◌, ℕ, List, length, Result, Ok, Err, nat_lt, sym, subst}
use Rattle.kx_laws.proofs.Results.{guard_ok, ok_same}
use Rattle.kx_edge.specs.Edge.{Files}
use Rattle.page_memory.specs.Contents.{Contents}
use Rattle.page_memory.specs.File.{reading}
use Rattle.file_commands.specs.Files.{from_reader, whole_file}
use Rattle.file_commands.specs.Taking.{Refusal, reads, too_long}
use Rattle.file_commands.specs.inner.Taking.{file_at}
use Rattle.file_commands.proofs.Measured.{measured_reads}
use Rattle.file_commands.proofs.Steps.{reads_cases}
use Rattle.command_parts.specs.declared.reason.InputFault.TheVariants as inputs
use Rattle.command_parts.specs.declared.reason.Reason.{Reason}
use Rattle.command_parts.specs.declared.reason.Reason.TheVariants.{Input}
use Rattle.command_parts.specs.Files.{memory_file, memory_limit}

-- a whole file is what the name holds
pub whole_found : (limit : ℕ) (name : List ℕ) (held : Files) (bytes : List ℕ) → reads {R = Reason} (whole_file limit name) held ≡ Ok bytes → file_at held name ≡ bytes
whole_found limit name held bytes h =
    ok_same {F = Refusal Reason} (file_at held name) bytes
    (guard_ok (nat_lt limit (length (file_at held name))) (too_long name limit) (Ok (file_at held name)) bytes (sym (measured_reads {R = Reason} limit name held) ∙ h)).1

-- what a reader made of bytes
pub reader_found : {F X : Type 0} (reason : F → Reason) (r : Result X F) (held : Files) (x : X) → reads (from_reader reason r) held ≡ Ok x → r ≡ Ok x
reader_found reason (Ok y) held x h = let e = ok_same {F = Refusal Reason} y x h in cc
reader_found reason (Err f) held x h = cc

pub memory_found : (name : List ℕ) (held : Files) (m : Contents) → reads (memory_file name) held ≡ Ok m → reading (file_at held name) ≡ Ok m
memory_found name held m h =
    let k = reads_cases (whole_file memory_limit name) (λ bytes. from_reader (λ e. Input (inputs.Mem e)) (reading bytes)) held m h in
    subst (λ bytes. reading bytes ≡ Ok m) (sym (whole_found memory_limit name held k.0 k.1)) (reader_found (λ e. Input (inputs.Mem e)) (reading k.0) held m k.2)
