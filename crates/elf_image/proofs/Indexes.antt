-- The indexes in an object that was read are those of sections and symbols.
use Rattle.std.proofs.Common.{◌≡◌, ℕ, ◌+◌, ◌*◌, ◌/◌, ◌<◌, ◌≤◌, List, [], ◌∷◌, ◌++◌, length, Bool, true, false, cond, refl, sym, ap, ◌∙◌, subst, Ok, Err, Result, Option, Some, None, inl, inr, arith}
use Rattle.std.specs.Prelude.{◌⊎◌, nat_lt, not, ◌==◌, ◌||◌, map}
use Rattle.std.specs.List.{All, slice_get, range_with_len}
use Rattle.std.proofs.lemmas.Bool.Decides.{nat_tests}
use Rattle.std.proofs.lemmas.Bool.{or_cases, ltb-true}
use Rattle.std.proofs.lemmas.List.{length-map}
use Rattle.std.proofs.lemmas.Option.{get_or_from_slice_get, slice_get_within}
use Rattle.std.proofs.lemmas.List.Elements.{All-nil, All-cons, All-append, All-map}
use Rattle.kx_fields.specs.Fields.{bytes_at}
use Rattle.kx_fields.specs.Formats.{read}
use Rattle.elf_image.specs.declared.section.SectionHeader.{SectionHeader}
use Rattle.elf_image.specs.declared.symbol.Symbol.{Symbol}
use Rattle.elf_image.specs.declared.reloc.RelocSection.{RelocSection}
use Rattle.elf_image.specs.declared.fault.ElfFault.{ElfFault}
use Rattle.elf_image.specs.declared.fault.ElfFault.TheVariants as faults
use Rattle.kx_laws.specs.Results.{◌>>=◌, unless}
use Rattle.elf_image.specs.Gathered.{gather, one, each}
use Rattle.elf_image.specs.Sym.{Sym}
use Rattle.elf_image.specs.Numbers.{sht_symtab}
use Rattle.elf_image.specs.Table.{Table}
use Rattle.elf_image.specs.Section.{section_of, place_of, first_of, is_of, read_in}
use Rattle.elf_image.specs.inner.Section.{IsInside, IsTable}
use Rattle.elf_image.specs.Symbol.{symbol_entry, name_in, is_index, symbol_of, symbol_in, entries_in, strings_of, symbols_in, refuse_second, symbols_at, read_symbols}
use Rattle.elf_image.specs.Reloc.{rela_fault, test_symbols, reloc_section, relocs_in, relocs_at, read_relocs}
use Rattle.elf_image.specs.inner.Reloc.{AreInside}
use Rattle.elf_image.specs.Object.{Relocatable}
use Rattle.elf_image.specs.inner.Object.{IsDefined, IsRelocSection, IsObject}
use Rattle.elf_image.proofs.Walk.{peel}
use Rattle.elf_image.proofs.Strays.{all_symbols}
use Rattle.kx_laws.proofs.Results.{bind_ok, ok_same}

-- ---- what was gathered was given by the steps
gathered_all : {A B : Type 0} (P : B → Type 0) (f : A → Result (List B) ElfFault) (xs : List A) (ys : List B) → ((x : A) (zs : List B) → f x ≡ Ok zs → All P zs) → gather f xs ≡ Ok ys → All P ys
unfolding gather
gathered_all P f [] ys holds h = subst (All P) (ok_same [] ys h) (All-nil P)
gathered_all P f (x ∷ xs) ys holds h =
    let a = bind_ok (f x) (λ ys. gather f xs >>= λ more. Ok (ys ++ more)) ys h in
    let b = bind_ok (gather f xs) (λ more. Ok (a.0 ++ more)) ys a.2 in
    subst (All P) (ok_same (a.0 ++ b.0) ys b.2) (All-append P a.0 b.0 (holds x a.0 a.1) (gathered_all P f xs b.0 holds b.1))

each_all : {A B : Type 0} (P : B → Type 0) (f : A → Result B ElfFault) (xs : List A) (ys : List B) → ((x : A) (y : B) → f x ≡ Ok y → P y) → each f xs ≡ Ok ys → All P ys
each_all P f xs ys holds h =
    gathered_all P (λ x. one (f x)) xs ys
    (λ x zs e.
    let a = bind_ok (f x) (λ y. Ok (y ∷ [])) zs e in
    subst (All P) (ok_same (a.0 ∷ []) zs a.2) (All-cons P a.0 [] (holds x a.0 a.1) (All-nil P)))
    h

read_all : {B : Type 0} (P : B → Type 0) (f : SectionHeader → Result (List B) ElfFault) (o : Option SectionHeader) (ys : List B) → ((h : SectionHeader) → f h ≡ Ok ys → All P ys) → read_in f o ≡ Ok ys → All P ys
read_all P f None ys holds h = subst (All P) (ok_same [] ys h) (All-nil P)
read_all P f (Some s) ys holds h = holds s h

-- ---- symbols
index_of : (sections i : ℕ) → is_index sections i ≡ true → (i < sections) ⊎ ((i ≡ 65521) ⊎ (i ≡ 65522))
index_of sections i h = elim (or_cases (nat_lt i sections) _ h) [ inl t ↦ inl (grind (arith, nat_tests)) | inr t ↦ inr (other t) ]
  where
    other : ((i == 65521) || (i == 65522)) ≡ true → (i ≡ 65521) ⊎ (i ≡ 65522)
    other h = elim (or_cases (i == 65521) (i == 65522) h) [ inl t ↦ inl (grind (arith, nat_tests)) | inr t ↦ inr (grind (arith, nat_tests)) ]

defined_of : (sections at k : ℕ) (e : Symbol) (o : Option (List ℕ)) (s : Sym) → symbol_of sections at k e o ≡ Ok s → IsDefined sections s
defined_of sections at k e None s h = cc
defined_of sections at k e (Some name) s h = by (is_index sections e.section) refl h
  where
    by : (b : Bool) → is_index sections e.section ≡ b → ◌≡◌ {A = Result Sym ElfFault} (cond b (Ok (record { name = name; section = e.section; value = e.value; size = e.size })) (Err (faults.BadIndex (at + 6)))) (Ok s) → IsDefined sections s
    by true t h = subst (IsDefined sections) (ok_same _ s h) (record { index = index_of sections e.section t })
    by false t h = cc

symbol_defined : (file strings : List ℕ) (sections at k : ℕ) (s : Sym) → symbol_in file strings sections at k ≡ Ok s → IsDefined sections s
unfolding symbol_in
symbol_defined file strings sections at k s h = let e = read symbol_entry (bytes_at at 24 file) in defined_of sections at k e (name_in strings e.name) s h

table_defined : (file : List ℕ) (t : Table) (place : ℕ) (h : SectionHeader) (ss : List Sym) → symbols_in file t place h ≡ Ok ss → All (IsDefined (length t.headers)) ss
unfolding symbols_in
table_defined file t place h ss e =
    let a = bind_ok (strings_of file t place h) (entries_in file (length t.headers) h) ss e in
    each_all (IsDefined (length t.headers)) (λ k. symbol_in file a.0 (length t.headers) (h.offset + 24 * k) k) (range_with_len 0 (h.size / 24)) ss
    (λ k s is. symbol_defined file a.0 (length t.headers) (h.offset + 24 * k) k s is) a.2

at_defined : (file : List ℕ) (t : Table) (o : Option ℕ) (ss : List Sym) → symbols_at file t o ≡ Ok ss → All (IsDefined (length t.headers)) ss
at_defined file t None ss e = subst (All (IsDefined (length t.headers))) (ok_same [] ss e) (All-nil (IsDefined (length t.headers)))
at_defined file t (Some i) ss e =
    let a = bind_ok (read_in (symbols_in file t (place_of t i)) (slice_get t.headers i)) (λ symbols. refuse_second t i >>= λ _. Ok symbols) ss e in
    let b = bind_ok (refuse_second t i) (λ _. Ok a.0) ss a.2 in
    subst (All (IsDefined (length t.headers))) (ok_same a.0 ss b.2)
    (read_all (IsDefined (length t.headers)) (symbols_in file t (place_of t i)) (slice_get t.headers i) a.0 (λ h is. table_defined file t (place_of t i) h a.0 is) a.1)

pub symbols_defined : (file : List ℕ) (t : Table) (ss : List Sym) → read_symbols file t ≡ Ok ss → All (IsDefined (length t.headers)) ss
unfolding read_symbols
symbols_defined file t ss e = at_defined file t (first_of sht_symtab 0 t.headers) ss e

-- ---- relocations
target_below : (t : Table) (place : ℕ) (h : SectionHeader) → unless (rela_fault t place h) ≡ Ok tt → h.info < length t.headers
unfolding rela_fault
target_below t place h e =
    let a = peel (not (h.entsize == 24)) _ _ e in
    let b = peel (not (is_of sht_symtab (slice_get t.headers h.link))) _ _ a.1 in
    let c = peel (not (nat_lt h.info (length t.headers))) _ _ b.1 in
    below (nat_lt h.info (length t.headers)) refl c.0
  where
    below : (b : Bool) → nat_lt h.info (length t.headers) ≡ b → not b ≡ false → h.info < length t.headers
    below true t h = ltb-true _ _ t
    below false t h = cc

-- the entries of a section whose bytes lie in the file do
entries_inside : (file : List ℕ) (i : ℕ) (h : SectionHeader) → h.kind ≡ 4 → IsInside file (section_of h) → AreInside file (reloc_section i h)
entries_inside file i h kind inside =
    let within : h.offset + h.size ≤ length file = inside.inside (λ e. absurd (omega (arith, e, kind))) (λ e. absurd (omega (arith, e, kind))) in omega (arith, within)

of_kind : (file : List ℕ) (t : Table) (symbols i : ℕ) (h : SectionHeader) → h.kind ≡ 4 → IsInside file (section_of h) → (rs : List RelocSection)
    → (unless (rela_fault t (place_of t i) h) >>= λ _. test_symbols file symbols (reloc_section i h) >>= λ _. Ok (reloc_section i h ∷ [])) ≡ Ok rs
    → All (IsRelocSection file (length t.headers) symbols) rs
of_kind file t symbols i h kind inside rs e =
    let a = bind_ok (unless (rela_fault t (place_of t i) h)) (λ _. test_symbols file symbols (reloc_section i h) >>= λ _. Ok (reloc_section i h ∷ [])) rs e in
    let b = bind_ok (test_symbols file symbols (reloc_section i h)) (λ _. Ok (reloc_section i h ∷ [])) rs a.2 in
    let P = IsRelocSection file (length t.headers) symbols in
    let is : P (reloc_section i h) = record {
      target = target_below t (place_of t i) h a.1;
      inside = entries_inside file i h kind inside;
      symbol = all_symbols file symbols (reloc_section i h) b.1;
    } in
    subst (All P) (ok_same (reloc_section i h ∷ []) rs b.2) (All-cons P (reloc_section i h) [] is (All-nil P))

section_is : (file : List ℕ) (t : Table) (symbols i : ℕ) (h : SectionHeader) (rs : List RelocSection) → IsInside file (section_of h) → relocs_in file t symbols i h ≡ Ok rs → All (IsRelocSection file (length t.headers) symbols) rs
unfolding relocs_in
section_is file t symbols i h rs inside e = by (h.kind == 4) refl e
  where
    by : (b : Bool) → (h.kind == 4) ≡ b → cond b (unless (rela_fault t (place_of t i) h) >>= λ _. test_symbols file symbols (reloc_section i h) >>= λ _. Ok (reloc_section i h ∷ [])) (Ok []) ≡ Ok rs → All (IsRelocSection file (length t.headers) symbols) rs
    by false k e = subst (All (IsRelocSection file (length t.headers) symbols)) (ok_same [] rs e) (All-nil (IsRelocSection file (length t.headers) symbols))
    by true k e = of_kind file t symbols i h (grind (arith, nat_tests)) inside rs e

pub relocs_are : (file : List ℕ) (t : Table) (symbols : ℕ) (rs : List RelocSection) → IsTable file t → read_relocs file t symbols ≡ Ok rs → All (IsRelocSection file (length t.headers) symbols) rs
unfolding read_relocs
relocs_are file t symbols rs table e =
    let P = IsRelocSection file (length t.headers) symbols in
    gathered_all P (relocs_at file t symbols) (range_with_len 0 (length t.headers)) rs (λ i zs is. at i (slice_get t.headers i) refl zs is) e
  where
    inside_at : (i : ℕ) (h : SectionHeader) → slice_get t.headers i ≡ Some h → IsInside file (section_of h)
    inside_at i h there = subst (λ h. IsInside file (section_of h)) (get_or_from_slice_get t.headers i h h there) (table.each i h (slice_get_within t.headers i h there))

    at : (i : ℕ) (o : Option SectionHeader) → slice_get t.headers i ≡ o → (zs : List RelocSection) → read_in (relocs_in file t symbols i) o ≡ Ok zs → All (IsRelocSection file (length t.headers) symbols) zs
    at i None none zs is = subst (All (IsRelocSection file (length t.headers) symbols)) (ok_same [] zs is) (All-nil (IsRelocSection file (length t.headers) symbols))
    at i (Some h) there zs is = section_is file t symbols i h zs (inside_at i h there) is

-- ---- the object
pub object_is : (file : List ℕ) (t : Table) (o : Relocatable) → IsTable file t → o.sections ≡ map section_of t.headers → read_symbols file t ≡ Ok o.symbols → read_relocs file t (length o.symbols) ≡ Ok o.reloc_sections → IsObject o file
object_is file t o table sections symbols relocs =
    let long : length t.headers ≡ length o.sections = sym (ap length sections ∙ length-map t.headers section_of) in
    record {
      sections = subst (All (IsInside file)) (sym sections) (All-map (IsInside file) section_of t.headers table.each);
      symbols = subst (λ n. All (IsDefined n) o.symbols) long (symbols_defined file t o.symbols symbols);
      relocs = subst (λ n. All (IsRelocSection file n (length o.symbols)) o.reloc_sections) long (relocs_are file t (length o.symbols) o.reloc_sections table relocs);
    }
