-- The section headers of a file that was read.
use Rattle.std.proofs.Common.{◌≡◌, ℕ, suc, ◌+◌, ◌*◌, ◌≤◌, List, [], ◌∷◌, length, Bool, true, false, cond, refl, sym, ap, ◌∙◌, Ok, Err, Some, None, arith}
use Rattle.std.specs.Prelude.{nat_lt, not, ◌==◌, ◌&&◌, position}
use Rattle.std.specs.List.{All, position_or_len}
use Rattle.std.proofs.lemmas.Bool.Decides.{nat_tests}
use Rattle.kx_laws.proofs.Lists.{none_first}
use Rattle.std.proofs.lemmas.List.Elements.{All-nil, All-cons}
use Rattle.std.proofs.lemmas.List.FromFn.{length-map-range_with_len}
use Rattle.kx_fields.specs.Fields.{bytes_at}
use Rattle.kx_fields.specs.Formats.{read}
use Rattle.elf_image.specs.declared.section.SectionHeader.{SectionHeader}
use Rattle.elf_image.specs.declared.file_header.Header.{Header}
use Rattle.elf_image.specs.declared.fault.ElfFault.{ElfFault}
use Rattle.elf_image.specs.declared.fault.ElfFault.TheVariants as faults
use Rattle.elf_image.specs.declared.fault.ElfPart.TheVariants as parts
use Rattle.kx_laws.specs.Results.{◌>>=◌, unless, unless_at}
use Rattle.elf_image.specs.FileHeader.{read_elf64, object_fault, object_header}
use Rattle.elf_image.specs.Section.{section_header, section_of, is_section_cut, headers_of, tested_table, read_table}
use Rattle.elf_image.specs.inner.Section.{IsInside, IsTable}
use Rattle.elf_image.proofs.Walk.{peel}
use Rattle.elf_image.proofs.Failing.{Fails, fails_err, fails_on}
use Rattle.elf_image.proofs.Reading.{tested_from}

-- ---- the header of the file
pub table_within : (file : List ℕ) (h : Header) → object_header file ≡ Ok h → h.file.shoff + 64 * h.file.shnum ≤ length file
unfolding object_header object_fault
table_within file h e =
    let f = tested_from (read_elf64 file) (λ k. unless (object_fault (length file) k)) h e in
    let a = peel (not (h.file.machine == 62)) _ _ f in
    let b = peel (not (h.file.kind == 1)) _ _ a.1 in
    let c = peel (not (h.file.shnum == 0) && not (h.file.shentsize == 64)) _ _ b.1 in
    let d = peel (nat_lt (length file) (h.file.shoff + 64 * h.file.shnum)) _ _ c.1 in
    within (length file) (h.file.shoff + 64 * h.file.shnum) d.0
  where
    within : (n m : ℕ) → nat_lt n m ≡ false → m ≤ n
    within n m h = grind (arith, nat_tests)

pub header_fails : (file : List ℕ) (e : ElfFault) → object_header file ≡ Err e → Fails e (read_table file)
unfolding read_table
header_fails file e is =
    fails_on e (object_header file) (λ h. tested_table (length file) (record { start = h.file.shoff; headers = headers_of h.file.shoff h.file.shnum file })) (fails_err e _ is)

reads_table : (file : List ℕ) (h : Header) (hs : List SectionHeader) → object_header file ≡ Ok h → hs ≡ headers_of h.file.shoff h.file.shnum file → read_table file ≡ tested_table (length file) (record { start = h.file.shoff; headers = hs })
unfolding read_table
reads_table file h hs e is =
    ap (λ r. r >>= λ h. tested_table (length file) (record { start = h.file.shoff; headers = headers_of h.file.shoff h.file.shnum file })) e
    ∙ ap (λ l. tested_table (length file) (record { start = h.file.shoff; headers = l })) (sym is)

pub cut_told : (file : List ℕ) (h : Header) (hs : List SectionHeader) (i : ℕ) → object_header file ≡ Ok h → hs ≡ headers_of h.file.shoff h.file.shnum file → position (is_section_cut (length file)) hs ≡ Some i → read_table file ≡ Err (faults.Truncated (parts.Section i))
cut_told file h hs i e is cut =
    reads_table file h hs e is ∙ ap (λ o. unless_at (λ i. faults.Truncated (parts.Section i)) o >>= λ _. Ok (record { start = h.file.shoff; headers = hs })) cut

pub table_told : (file : List ℕ) (h : Header) (hs : List SectionHeader) → object_header file ≡ Ok h → hs ≡ headers_of h.file.shoff h.file.shnum file → position (is_section_cut (length file)) hs ≡ None → read_table file ≡ Ok (record { start = h.file.shoff; headers = hs })
table_told file h hs e is cut =
    reads_table file h hs e is ∙ ap (λ o. unless_at (λ i. faults.Truncated (parts.Section i)) o >>= λ _. Ok (record { start = h.file.shoff; headers = hs })) cut

-- ---- sections that are not cut lie in the file
inside_of : (file : List ℕ) (h : SectionHeader) → is_section_cut (length file) h ≡ false → IsInside file (section_of h)
inside_of file h e = record { inside = λ a b. by (h.kind == 0) (h.kind == 8) refl refl a b e }
  where
    by : (x y : Bool) → (h.kind == 0) ≡ x → (h.kind == 8) ≡ y → (h.kind ≡ 0 → ⊥) → (h.kind ≡ 8 → ⊥) → (not x && (not y && nat_lt (length file) (h.offset + h.size))) ≡ false → h.offset + h.size ≤ length file
    by true y p q a b t = absurd (a (grind (arith, nat_tests)))
    by false true p q a b t = absurd (b (grind (arith, nat_tests)))
    by false false p q a b t = grind (arith, nat_tests)

all_pass : (file : List ℕ) (hs : List SectionHeader) → length hs ≤ position_or_len (is_section_cut (length file)) hs → All (λ h. IsInside file (section_of h)) hs
all_pass file [] h = All-nil (λ h. IsInside file (section_of h))
all_pass file (x ∷ hs) h = by (is_section_cut (length file) x) refl h (λ few. all_pass file hs few)
  where
    by : (b : Bool) → is_section_cut (length file) x ≡ b → suc (length hs) ≤ cond (not b) (1 + position_or_len (is_section_cut (length file)) hs) 0 → (length hs ≤ position_or_len (is_section_cut (length file)) hs → All (λ h. IsInside file (section_of h)) hs) → All (λ h. IsInside file (section_of h)) (x ∷ hs)
    by true e few rest = absurd (omega arith)
    by false e few rest = All-cons (λ h. IsInside file (section_of h)) x hs (inside_of file x e) (rest (omega (arith, few)))

pub table_is : (file : List ℕ) (h : Header) (hs : List SectionHeader) → object_header file ≡ Ok h → hs ≡ headers_of h.file.shoff h.file.shnum file → position (is_section_cut (length file)) hs ≡ None → IsTable file (record { start = h.file.shoff; headers = hs })
table_is file h hs e is cut =
    let long : length hs ≡ h.file.shnum = ap length is ∙ length-map-range_with_len (λ i. read section_header (bytes_at (h.file.shoff + 64 * i) 64 file)) 0 h.file.shnum in
    let within = table_within file h e in
    record { inside = omega (arith, long, within); each = all_pass file hs (none_first (is_section_cut (length file)) hs cut) }
