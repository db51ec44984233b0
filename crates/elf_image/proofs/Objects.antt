-- The symbols and the relocations of an object that were read.
use Rattle.std.proofs.Common.{◌≡◌, ℕ, List, [], ◌∷◌, ◌++◌, length, Bool, true, false, cond, refl, sym, ap, ◌∙◌, subst, Ok, Err, Result, Some, None, append-nil}
use Rattle.std.specs.Prelude.{◌==◌, map}
use Rattle.std.specs.List.{slice_get}
use Rattle.elf_image.specs.declared.section.SectionHeader.{SectionHeader}
use Rattle.elf_image.specs.declared.reloc.RelocSection.{RelocSection}
use Rattle.elf_image.specs.declared.fault.ElfFault.{ElfFault}
use Rattle.kx_laws.specs.Results.{◌>>=◌, unless}
use Rattle.elf_image.specs.inner.Gathered.{onto}
use Rattle.elf_image.specs.Sym.{Sym}
use Rattle.elf_image.specs.Numbers.{sht_symtab}
use Rattle.elf_image.specs.Table.{Table}
use Rattle.elf_image.specs.Section.{section_of, place_of, first_of, read_in, read_table}
use Rattle.elf_image.specs.Symbol.{entries_in, strings_of, symbols_in, refuse_second, symbols_at, read_symbols}
use Rattle.elf_image.specs.Reloc.{rela_fault, test_symbols, reloc_section, relocs_in, relocs_at, read_relocs}
use Rattle.elf_image.specs.Object.{Relocatable, object_reading}
use Rattle.elf_image.proofs.Failing.{Fails, fails_err, fails_on}

-- ---- a symbol table
pub strings_told : (file : List ℕ) (t : Table) (place : ℕ) (h : SectionHeader) (s : List ℕ) → strings_of file t place h ≡ Ok s → symbols_in file t place h ≡ entries_in file (length t.headers) h s
unfolding symbols_in
strings_told file t place h s e = ap (λ r. r >>= entries_in file (length t.headers) h) e

pub strings_fail : (file : List ℕ) (t : Table) (place : ℕ) (h : SectionHeader) (e : ElfFault) → Fails e (strings_of file t place h) → Fails e (symbols_in file t place h)
unfolding symbols_in
strings_fail file t place h e f = fails_on e (strings_of file t place h) (entries_in file (length t.headers) h) f

after_symbols : Table → ℕ → List Sym → Result (List Sym) ElfFault
after_symbols t i symbols = refuse_second t i >>= λ _. Ok symbols

pub no_symbols : (file : List ℕ) (t : Table) → first_of sht_symtab 0 t.headers ≡ None → read_symbols file t ≡ Ok []
unfolding read_symbols
no_symbols file t e = ap (symbols_at file t) e

there : (file : List ℕ) (t : Table) (i : ℕ) (h : SectionHeader) → first_of sht_symtab 0 t.headers ≡ Some i → slice_get t.headers i ≡ Some h → read_symbols file t ≡ (symbols_in file t (place_of t i) h >>= after_symbols t i)
unfolding read_symbols after_symbols
there file t i h e is =
    ap (symbols_at file t) e ∙ ap (λ o. read_in (symbols_in file t (place_of t i)) o >>= after_symbols t i) is

pub symbols_fail : (file : List ℕ) (t : Table) (i : ℕ) (h : SectionHeader) (e : ElfFault) → first_of sht_symtab 0 t.headers ≡ Some i → slice_get t.headers i ≡ Some h → Fails e (symbols_in file t (place_of t i) h) → Fails e (read_symbols file t)
symbols_fail file t i h e at is f = subst (Fails e) (sym (there file t i h at is)) (fails_on e _ (after_symbols t i) f)

pub second_fails : (file : List ℕ) (t : Table) (i : ℕ) (h : SectionHeader) (symbols : List Sym) (e : ElfFault) → first_of sht_symtab 0 t.headers ≡ Some i → slice_get t.headers i ≡ Some h → symbols_in file t (place_of t i) h ≡ Ok symbols → refuse_second t i ≡ Err e → Fails e (read_symbols file t)
unfolding after_symbols
second_fails file t i h symbols e at is got second =
    fails_err e _ (there file t i h at is ∙ ap (λ r. r >>= after_symbols t i) got ∙ ap (λ r. r >>= λ _. Ok symbols) second)

pub symbols_told : (file : List ℕ) (t : Table) (i : ℕ) (h : SectionHeader) (symbols : List Sym) → first_of sht_symtab 0 t.headers ≡ Some i → slice_get t.headers i ≡ Some h → symbols_in file t (place_of t i) h ≡ Ok symbols → refuse_second t i ≡ Ok tt → read_symbols file t ≡ Ok symbols
unfolding after_symbols
symbols_told file t i h symbols at is got second =
    there file t i h at is ∙ ap (λ r. r >>= after_symbols t i) got ∙ ap (λ r. r >>= λ _. Ok symbols) second

-- ---- a section of relocations
pub no_section : (file : List ℕ) (t : Table) (symbols i : ℕ) (out : List RelocSection) → slice_get t.headers i ≡ None → onto out (relocs_at file t symbols i) ≡ Ok out
no_section file t symbols i out e = ap (λ o. onto out (read_in (relocs_in file t symbols i) o)) e ∙ ap Ok (append-nil out)

after_fault : List ℕ → ℕ → ℕ → SectionHeader → Result (List RelocSection) ElfFault
after_fault file symbols i h = test_symbols file symbols (reloc_section i h) >>= λ _. Ok (reloc_section i h ∷ [])

by_kind : (file : List ℕ) (t : Table) (symbols i : ℕ) (h : SectionHeader) (b : Bool) → (h.kind == 4) ≡ b → relocs_in file t symbols i h ≡ cond b (unless (rela_fault t (place_of t i) h) >>= λ _. after_fault file symbols i h) (Ok [])
unfolding relocs_in after_fault
by_kind file t symbols i h b e = ap (λ b. cond b (unless (rela_fault t (place_of t i) h) >>= λ _. after_fault file symbols i h) (Ok [])) e

pub other_type : (file : List ℕ) (t : Table) (symbols i : ℕ) (h : SectionHeader) (out : List RelocSection) → slice_get t.headers i ≡ Some h → (h.kind == 4) ≡ false → onto out (relocs_at file t symbols i) ≡ Ok out
other_type file t symbols i h out is e =
    ap (λ o. onto out (read_in (relocs_in file t symbols i) o)) is ∙ ap (onto out) (by_kind file t symbols i h false e) ∙ ap Ok (append-nil out)

of_type : (file : List ℕ) (t : Table) (symbols i : ℕ) (h : SectionHeader) → slice_get t.headers i ≡ Some h → (h.kind == 4) ≡ true → relocs_at file t symbols i ≡ (unless (rela_fault t (place_of t i) h) >>= λ _. after_fault file symbols i h)
of_type file t symbols i h is e = ap (read_in (relocs_in file t symbols i)) is ∙ by_kind file t symbols i h true e

pub header_fails : (file : List ℕ) (t : Table) (symbols i : ℕ) (h : SectionHeader) (out : List RelocSection) (fault : ElfFault) → slice_get t.headers i ≡ Some h → (h.kind == 4) ≡ true → unless (rela_fault t (place_of t i) h) ≡ Err fault → onto out (relocs_at file t symbols i) ≡ Err fault
header_fails file t symbols i h out fault is e f =
    ap (onto out) (of_type file t symbols i h is e ∙ ap (λ r. r >>= λ _. after_fault file symbols i h) f)

with_header : (file : List ℕ) (t : Table) (symbols i : ℕ) (h : SectionHeader) → slice_get t.headers i ≡ Some h → (h.kind == 4) ≡ true → unless (rela_fault t (place_of t i) h) ≡ Ok tt → relocs_at file t symbols i ≡ after_fault file symbols i h
with_header file t symbols i h is e fit =
    of_type file t symbols i h is e ∙ ap (λ r. r >>= λ _. after_fault file symbols i h) fit

pub symbol_fails : (file : List ℕ) (t : Table) (symbols i : ℕ) (h : SectionHeader) (out : List RelocSection) (fault : ElfFault) → slice_get t.headers i ≡ Some h → (h.kind == 4) ≡ true → unless (rela_fault t (place_of t i) h) ≡ Ok tt → test_symbols file symbols (reloc_section i h) ≡ Err fault → onto out (relocs_at file t symbols i) ≡ Err fault
unfolding after_fault
symbol_fails file t symbols i h out fault is e fit f =
    ap (onto out) (with_header file t symbols i h is e fit ∙ ap (λ r. r >>= λ _. Ok (reloc_section i h ∷ [])) f)

pub section_told : (file : List ℕ) (t : Table) (symbols i : ℕ) (h : SectionHeader) (out : List RelocSection) → slice_get t.headers i ≡ Some h → (h.kind == 4) ≡ true → unless (rela_fault t (place_of t i) h) ≡ Ok tt → test_symbols file symbols (reloc_section i h) ≡ Ok tt → onto out (relocs_at file t symbols i) ≡ Ok (out ++ reloc_section i h ∷ [])
unfolding after_fault
section_told file t symbols i h out is e fit right =
    ap (onto out) (with_header file t symbols i h is e fit ∙ ap (λ r. r >>= λ _. Ok (reloc_section i h ∷ [])) right)

-- ---- the object
after_relocs : Table → List Sym → List RelocSection → Result Relocatable ElfFault
after_relocs t symbols relocs = Ok (record { sections = map section_of t.headers; symbols = symbols; reloc_sections = relocs })

after_list : List ℕ → Table → List Sym → Result Relocatable ElfFault
after_list file t symbols = read_relocs file t (length symbols) >>= after_relocs t symbols

after_table : List ℕ → Table → Result Relocatable ElfFault
after_table file t = read_symbols file t >>= after_list file t

reading_in_two_steps : (file : List ℕ) → object_reading file ≡ (read_table file >>= after_table file)
unfolding object_reading after_relocs after_list after_table
reading_in_two_steps file = refl

pub table_fails : (file : List ℕ) (e : ElfFault) → Fails e (read_table file) → Fails e (object_reading file)
table_fails file e f = subst (Fails e) (sym (reading_in_two_steps file)) (fails_on e (read_table file) (after_table file) f)

with_table : (file : List ℕ) (t : Table) → read_table file ≡ Ok t → object_reading file ≡ (read_symbols file t >>= after_list file t)
unfolding after_table
with_table file t e = reading_in_two_steps file ∙ ap (λ r. r >>= after_table file) e

pub object_symbols_fail : (file : List ℕ) (t : Table) (e : ElfFault) → read_table file ≡ Ok t → Fails e (read_symbols file t) → Fails e (object_reading file)
object_symbols_fail file t e is f = subst (Fails e) (sym (with_table file t is)) (fails_on e (read_symbols file t) (after_list file t) f)

with_symbols : (file : List ℕ) (t : Table) (symbols : List Sym) → read_table file ≡ Ok t → read_symbols file t ≡ Ok symbols → object_reading file ≡ (read_relocs file t (length symbols) >>= after_relocs t symbols)
unfolding after_list
with_symbols file t symbols e got = with_table file t e ∙ ap (λ r. r >>= after_list file t) got

pub object_relocs_fail : (file : List ℕ) (t : Table) (symbols : List Sym) (e : ElfFault) → read_table file ≡ Ok t → read_symbols file t ≡ Ok symbols → Fails e (read_relocs file t (length symbols)) → Fails e (object_reading file)
object_relocs_fail file t symbols e is got f =
    subst (Fails e) (sym (with_symbols file t symbols is got)) (fails_on e (read_relocs file t (length symbols)) (after_relocs t symbols) f)

pub object_told : (file : List ℕ) (t : Table) (symbols : List Sym) (relocs : List RelocSection) → read_table file ≡ Ok t → read_symbols file t ≡ Ok symbols → read_relocs file t (length symbols) ≡ Ok relocs → object_reading file ≡ Ok (record { sections = map section_of t.headers; symbols = symbols; reloc_sections = relocs })
unfolding after_relocs
object_told file t symbols relocs is got all =
    with_symbols file t symbols is got ∙ ap (λ r. r >>= after_relocs t symbols) all
