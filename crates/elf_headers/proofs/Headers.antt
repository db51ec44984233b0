-- File headers and program headers: their sizes, and that they read back.
use Rattle.std.proofs.Common.{◌≡◌, ℕ, zero, suc, ◌+◌, ◌*◌, ◌<◌, List, [], ◌∷◌, ◌++◌, length, take, drop, get_or, refl, ap, ◌∙◌, arith}
use Rattle.std.specs.List.{flat_map, AllByRecursion}
use Rattle.std.proofs.lemmas.List.{length-append}
use Rattle.std.proofs.Math.Seq.{drop-append-add, take-append_seam}
use Rattle.kx_laws.proofs.Lists.{take_front}
use Rattle.kx_fields.specs.Fields.{AreBytes, bytes_at, zeros}
use Rattle.kx_fields.specs.Formats.{blank, read, written}
use Rattle.kx_fields.specs.inner.Formats.{IsFormat, Fits}
use Rattle.kx_fields.proofs.Bytes.{AreBytes-zeros, AreBytes-from_test, length-zeros}
use Rattle.kx_fields.proofs.Formats.{AreBytes-blank, length-written, length-blank, read_written, blank_begins}
use Rattle.elf_headers.specs.declared.program_header.ProgramHeader.{ProgramHeader}
use Rattle.elf_headers.specs.declared.file_header.FileHeader.{FileHeader}
use Rattle.elf_headers.specs.FileHeader.{ident, file_header, header_text}
use Rattle.elf_headers.specs.inner.FileHeader.{IsHeaderReadBack}
use Rattle.elf_headers.specs.ProgramHeader.{program_header, row_text}
use Rattle.elf_headers.specs.inner.ProgramHeader.{IsRowReadBack, AreReadBack}

-- ---- the tables
pub file_header_is : IsFormat 64 file_header
file_header_is = record { numbered = λ at fits. refl; whole = λ at fits. refl; apart = refl }

pub program_header_is : IsFormat 56 program_header
program_header_is = record { numbered = λ at fits. refl; whole = λ at fits. refl; apart = refl }

-- ---- the file header
pub header_size : (h : FileHeader) → length (header_text h) ≡ 64
unfolding header_text
header_size h = length-written 64 file_header h _ file_header_is (length-blank 64 ident (omega arith))

ident_bytes : AreBytes ident
ident_bytes = AreBytes-from_test ident refl

-- one whose numbers fit reads back
pub header_back : (h : FileHeader) → Fits file_header h → IsHeaderReadBack h
unfolding header_text
header_back h fits =
    read_written 64 file_header h (blank 64 ident) file_header_is refl fits (length-blank 64 ident (omega arith)) (AreBytes-blank 64 ident ident_bytes)

-- it begins with its identification
pub header_ident : (h : FileHeader) → take 16 (header_text h) ≡ ident
unfolding header_text
header_ident h =
    ap (take 16) (blank_begins 64 file_header h ident file_header_is refl (omega arith))
    ∙ take-append_seam ident (drop 16 (written file_header h (blank 64 ident)))

-- ---- program headers
pub row_size : (h : ProgramHeader) → length (row_text h) ≡ 56
unfolding row_text
row_size h = length-written 56 program_header h (zeros 56) program_header_is (length-zeros 56)

pub rows_size : (hs : List ProgramHeader) → length (flat_map row_text hs) ≡ 56 * length hs
rows_size [] = refl
rows_size (h ∷ hs) = omega (arith, length-append (row_text h) (flat_map row_text hs), row_size h, rows_size hs)

-- one whose numbers fit reads back
pub row_back : (h : ProgramHeader) → Fits program_header h → IsRowReadBack h
unfolding row_text
row_back h fits = read_written 56 program_header h (zeros 56) program_header_is refl fits (length-zeros 56) (AreBytes-zeros 56)

-- ---- program headers one after another
pub all_append : (P : ProgramHeader → Type 0) (xs ys : List ProgramHeader) → AllByRecursion P xs → AllByRecursion P ys → AllByRecursion P (xs ++ ys)
all_append P [] ys a b = b
all_append P (x ∷ xs) ys a b = (a.0, all_append P xs ys a.1 b)

-- number i stands behind i others
pub one_row : (hs : List ProgramHeader) (i : ℕ) (d : ProgramHeader) → i < length hs → bytes_at (56 * i) 56 (flat_map row_text hs) ≡ row_text (get_or hs i d)
one_row [] i d below = absurd (omega arith)
one_row (h ∷ hs) zero d below = take_front (row_text h) (flat_map row_text hs) 56 (row_size h)
one_row (h ∷ hs) (suc i) d below =
    let size = row_size h in
    let place : 56 * suc i ≡ length (row_text h) + 56 * i = omega (arith, size) in
    ap (λ n. take 56 (drop n (row_text h ++ flat_map row_text hs))) place
    ∙ ap (take 56) (drop-append-add (row_text h) (flat_map row_text hs) (56 * i))
    ∙ one_row hs i d (omega arith)

pub row_reads : (hs : List ProgramHeader) (i : ℕ) (d : ProgramHeader) → i < length hs → AreReadBack hs → read program_header (row_text (get_or hs i d)) ≡ get_or hs i d
row_reads [] i d below back = absurd (omega arith)
row_reads (h ∷ hs) zero d below back = back.0
row_reads (h ∷ hs) (suc i) d below back = row_reads hs i d (omega arith) back.1
