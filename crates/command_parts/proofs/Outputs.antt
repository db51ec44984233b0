-- The files of memories: memories that agree have the same file, a memory has one, and it reads as the memory.
use Rattle.std.proofs.Common.{ℕ, List, ◌∙◌, ◌≡◌, length, sym, ap, arith, Ok}
use Rattle.kx_pages.specs.Bytes.{Mem}
use Rattle.page_memory.specs.Memory.{Agree}
use Rattle.file_commands.specs.Taking.{File}
use Rattle.command_parts.specs.declared.reason.Reason.{Reason}
use Rattle.command_parts.specs.Outputs.{HasNoFile, IsFileOf, IsMemoryFile, IsTooHeavy}
use Rattle.command_parts.specs.declared.reason.Reason.TheVariants as reasons
use Rattle.page_memory.specs.File.{stored_pages, reading}
use Rattle.page_memory.proofs.OneFile.{stored-agree, file-agree}
use Rattle.kx_laws.specs.Results.{◌>>=◌}
use Rattle.kx_laws.proofs.Results.{ok_same}
use Rattle.page_memory.specs.Contents.{Contents, at}
use Rattle.page_memory.specs.declared.fault.MemFault.{MemFault}
use Rattle.page_memory.proofs.RoundTrip.{file_read}

pub file_as : (N M : Mem) (bytes : List ℕ) → Agree N M → IsFileOf N bytes → IsFileOf M bytes
file_as N M bytes h f = (f.0, f.1, λ p. f.2 p ∙ h p, f.3, f.4)

pub output_as : (N M : Mem) (outputs : List File) (name : List ℕ) → Agree N M → IsMemoryFile outputs name N → IsMemoryFile outputs name M
output_as N M outputs name h f = (f.0, f.1, file_as N M f.0 h f.2)

pub no_file_as : (N M : Mem) (why : Reason) → Agree N M → HasNoFile N why → HasNoFile M why
no_file_as N M (reasons.Heavy n) h f = (f.0, f.1, λ p. f.2 p ∙ h p, f.3, f.4)
no_file_as N M other h f = absurd f

-- a memory without a file is too heavy for one
pub heavy : (N : Mem) (why : Reason) → ((n : ℕ) → IsTooHeavy N n → ⊥) → HasNoFile N why → ⊥
heavy N (reasons.Heavy n) light h = light n h
heavy N other light h = h

-- a memory that has a file is not too heavy for one
pub has_file : (N : Mem) (bytes : List ℕ) (n : ℕ) → IsFileOf N bytes → IsTooHeavy N n → ⊥
has_file N bytes n f h =
    let same : length (stored_pages h.0) ≡ length (stored_pages f.0) = ap length (stored-agree h.0 f.0 (λ p. h.2 p ∙ sym (f.2 p))) in
    omega (arith, same, f.3, h.3)

pub file_none : (N : Mem) (bytes : List ℕ) (why : Reason) → IsFileOf N bytes → HasNoFile N why → ⊥
file_none N bytes why f h = heavy N why (λ n k. has_file N bytes n f k) h

-- a memory has no file for one reason
pub one_weight : (N : Mem) (why w : Reason) → HasNoFile N why → HasNoFile N w → w ≡ why
one_weight N (reasons.Heavy n) (reasons.Heavy m) h k = ap reasons.Heavy (k.4 ∙ ap length (stored-agree k.0 h.0 (λ p. k.2 p ∙ sym (h.2 p))) ∙ sym h.4)
one_weight N (reasons.Heavy n) other h k = absurd k
one_weight N other w h k = absurd h

-- a memory has one file
pub one_file : (N : Mem) (a b : List ℕ) → IsFileOf N a → IsFileOf N b → a ≡ b
one_file N a b f g = f.4 ∙ file-agree f.0 g.0 (λ p. f.2 p ∙ sym (g.2 p)) ∙ sym g.4

-- the file of a memory reads as a memory that agrees with it
pub file_agrees : (N : Mem) (bytes : List ℕ) (m : Contents) → IsFileOf N bytes → reading bytes ≡ Ok m → Agree (at m) N
file_agrees N bytes m f h =
    let k = file_read f.0 f.1 f.3 in
    let again : reading bytes ≡ Ok (record { pages = k.0; sets = 0 }) =
    ap reading f.4 ∙ ap (λ r. r >>= (λ pages. Ok (record { pages = pages; sets = 0 }))) k.1 in
    let same : record { pages = k.0; sets = 0 } ≡ m = ok_same {F = MemFault} (record { pages = k.0; sets = 0 }) m (sym again ∙ h) in
    λ p. ap (λ m. at m p) (sym same) ∙ k.2 p ∙ f.2 p
