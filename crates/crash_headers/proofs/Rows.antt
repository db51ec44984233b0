-- Program headers put one after another.
use Rattle.std.proofs.Common.{◌≡◌, ℕ, zero, suc, ◌+◌, ◌*◌, ◌<◌, ◌≤◌, List, [], ◌∷◌, ◌++◌, length, take, drop, get_or, map, sym, ap, ◌∙◌, subst, arith}
use Rattle.std.specs.List.{flat_map, AllByRecursion}
use Rattle.std.proofs.lemmas.List.{take_all, take-append-le, map_more, flat_map_more, length-append, length-map}
use Rattle.std.proofs.Math.Seq.{drop-append-add}
use Rattle.kx_laws.proofs.Lists.{take_front}
use Rattle.kx_fields.specs.Fields.{bytes_at}
use Rattle.kx_fields.specs.Formats.{read}
use Rattle.kx_fields.specs.inner.Formats.{Fits}
use Rattle.memory_map.specs.declared.row.Row.{Row}
use Rattle.elf_headers.specs.declared.program_header.ProgramHeader.{ProgramHeader}
use Rattle.elf_headers.specs.FileHeader.{file_header, core_header, header_text}
use Rattle.elf_headers.specs.inner.FileHeader.{IsHeaderReadBack}
use Rattle.elf_headers.specs.ProgramHeader.{program_header, row_text}
use Rattle.elf_headers.specs.inner.ProgramHeader.{IsRowReadBack, AreReadBack}
use Rattle.elf_headers.proofs.Headers.{header_size, header_ident, rows_size, all_append, one_row, row_reads}
use Rattle.crash_headers.specs.declared.note.Note.{Note}
use Rattle.crash_headers.specs.ProgramHeader.{note_row, load_row}
use Rattle.crash_headers.specs.Headers.{count_of, rows, headers, length_for}
use Rattle.crash_headers.specs.inner.Headers.{HasIdentification, HasFileHeader, HasProgramHeaders}

-- what stands where no range does
abbrev pub no_row : Row
no_row = record { start = 0; size = 0; kind = 0 }

pub each_at : (P : Row → Type 0) (xs : List Row) (i : ℕ) (d : Row) → AllByRecursion P xs → i < length xs → P (get_or xs i d)
each_at P [] i d all l = absurd (omega (arith, l))
each_at P (y ∷ ys) zero d all l = all.0
each_at P (y ∷ ys) (suc i) d all l = each_at P ys i d all.1 (omega (arith, l))

-- one more row that reads back, behind the others
pub back_more : {X : Type 0} (f : X → ProgramHeader) (xs : List X) (i : ℕ) (d : X) → i < length xs → IsRowReadBack (f (get_or xs i d)) → AreReadBack (map f (take i xs)) → AreReadBack (map f (take (i + 1) xs))
back_more f xs i d l one so_far =
    subst AreReadBack (sym (map_more f xs i d l)) (all_append IsRowReadBack (map f (take i xs)) (f (get_or xs i d) ∷ []) so_far (one, tt))

pub back_all : {X : Type 0} (f : X → ProgramHeader) (xs : List X) (i : ℕ) → i ≡ length xs → AreReadBack (map f (take i xs)) → AreReadBack (map f xs)
back_all f xs i e so_far = subst (λ x. AreReadBack (map f x)) (take_all i xs (omega (arith, e))) so_far

pub back_rows : (notes : List Note) (ranges : List Row) → AreReadBack (map note_row notes) → AreReadBack (map load_row ranges) → AreReadBack (rows notes ranges)
back_rows notes ranges a b = all_append IsRowReadBack (map note_row notes) (map load_row ranges) a b

-- one more row behind the others
pub row_more : {X : Type 0} (f : X → ProgramHeader) (xs : List X) (i : ℕ) (d : X) (old out new : List ℕ) → i < length xs → new ≡ out ++ row_text (f (get_or xs i d)) → out ≡ old ++ flat_map row_text (map f (take i xs)) → new ≡ old ++ flat_map row_text (map f (take (i + 1) xs))
row_more f xs i d old out new l step so_far =
    step
    ∙ ap (λ x. x ++ row_text (f (get_or xs i d))) so_far
    ∙ flat_map_more row_text old (map f (take i xs)) (f (get_or xs i d))
    ∙ ap (λ x. old ++ flat_map row_text x) (sym (map_more f xs i d l))

pub rows_all : {X : Type 0} (f : X → ProgramHeader) (xs : List X) (i : ℕ) (old out : List ℕ) → i ≡ length xs → out ≡ old ++ flat_map row_text (map f (take i xs)) → out ≡ old ++ flat_map row_text (map f xs)
rows_all f xs i old out e so_far = so_far ∙ ap (λ x. old ++ flat_map row_text (map f x)) (take_all i xs (omega (arith, e)))

pub headers_size : (notes : List Note) (ranges : List Row) → length (headers notes ranges) ≡ length_for (length notes) ranges
unfolding headers
headers_size notes ranges =
    let h = header_text (core_header (count_of notes ranges)) in
    omega (arith, length-append h (flat_map row_text (rows notes ranges)), header_size (core_header (count_of notes ranges)), rows_size (rows notes ranges), length-append (map note_row notes) (map load_row ranges), length-map notes note_row, length-map ranges load_row)

-- the numbers of a core file's header fit
pub core_fits : (n : ℕ) → n ≤ 1024 → Fits file_header (core_header n)
core_fits n few =
    (omega arith, (omega arith, (omega arith, (omega arith, (omega arith, (omega arith, (omega arith, (omega arith, (omega arith, (omega (arith, few), (omega arith, (omega arith, (omega arith, tt)))))))))))))

-- the identification of the headers
pub headers_ident : (notes : List Note) (ranges : List Row) (bytes : List ℕ) → bytes ≡ headers notes ranges → HasIdentification bytes
unfolding headers
headers_ident notes ranges bytes e =
    let h = header_text (core_header (count_of notes ranges)) in
    let size = header_size (core_header (count_of notes ranges)) in
    ap (take 16) e
    ∙ take-append-le 16 h (flat_map row_text (rows notes ranges)) (omega (arith, size))
    ∙ header_ident (core_header (count_of notes ranges))

pub headers_file_header : (notes : List Note) (ranges : List Row) (bytes : List ℕ) → bytes ≡ headers notes ranges → IsHeaderReadBack (core_header (count_of notes ranges)) → HasFileHeader (count_of notes ranges) bytes
unfolding headers
headers_file_header notes ranges bytes e back =
    let h = header_text (core_header (count_of notes ranges)) in
    ap (read file_header) (ap (take 64) e ∙ take_front h (flat_map row_text (rows notes ranges)) 64 (header_size (core_header (count_of notes ranges))))
    ∙ back

pub headers_rows : (notes : List Note) (ranges : List Row) (bytes : List ℕ) → bytes ≡ headers notes ranges → AreReadBack (rows notes ranges) → HasProgramHeaders (rows notes ranges) bytes
unfolding headers
headers_rows notes ranges bytes e back i d below =
    let h = header_text (core_header (count_of notes ranges)) in
    let size = header_size (core_header (count_of notes ranges)) in
    let place : 64 + 56 * i ≡ length h + 56 * i = omega (arith, size) in
    ap (read program_header)
    (ap (bytes_at (64 + 56 * i) 56) e
    ∙ ap (λ n. take 56 (drop n (h ++ flat_map row_text (rows notes ranges)))) place
    ∙ ap (take 56) (drop-append-add h (flat_map row_text (rows notes ranges)) (56 * i))
    ∙ one_row (rows notes ranges) i d below)
    ∙ row_reads (rows notes ranges) i d below back
