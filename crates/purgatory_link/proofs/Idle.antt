-- Relocations that put nothing.
use Rattle.std.proofs.Common.{◌≡◌, ℕ, ◌+◌, ◌*◌, ◌<◌, List, take, true, false, refl, sym, ap, ◌∙◌, subst, Option, Some, None, Result, Ok, Err, arith}
use Rattle.std.specs.Prelude.{◌==◌, ◌&&◌, is_ok, is_some}
use Rattle.std.proofs.lemmas.Bool.Decides.{nat_tests}
use Rattle.kx_laws.proofs.Booleans.{and_parts}
use Rattle.elf_image.specs.declared.reloc.Reloc.{Reloc}
use Rattle.elf_image.specs.declared.reloc.RelocSection.{RelocSection}
use Rattle.kx_fields.specs.Fields.{bytes_at}
use Rattle.kx_fields.specs.Formats.{read}
use Rattle.elf_image.specs.Reloc.{rela, reloc_of, entry_of, entries_of, entry_place}
use Rattle.elf_image.specs.Object.{Relocatable}
use Rattle.purgatory_link.specs.declared.put.Put.{Put}
use Rattle.purgatory_link.specs.declared.form.Form.TheVariants as forms
use Rattle.purgatory_link.specs.declared.fault.LinkFault.{LinkFault}
use Rattle.purgatory_link.specs.Symbols.{start_at, symbol_value}
use Rattle.purgatory_link.specs.Formulas.{form_of}
use Rattle.purgatory_link.specs.Relocs.{put_of}
use Rattle.purgatory_link.specs.inner.Relocs.{is_none, alone, is_idle}
use Rattle.purgatory_link.proofs.Putting.{placed_none, put_passed, put_given}
use Rattle.purgatory_link.specs.declared.relocate.LinkBuffer.{LinkBuffer}
use Rattle.purgatory_link.specs.inner.Progress.{ArePut}
use Rattle.purgatory_link.proofs.Relocating.{PutsNothing, none_put, idle_entries}

-- the section of a relocation is not loaded
pub unloaded_idle : (base : ℕ) (o : Relocatable) (starts : List (Option ℕ)) (r : Reloc) → None ≡ start_at starts r.target → PutsNothing base o starts r
unloaded_idle base o starts r none = λ puts. sym (put_passed base o starts puts r none)

pub unloaded_entry : (file : List ℕ) (starts : List (Option ℕ)) (s : RelocSection) (k : ℕ) (start : Option ℕ) → start ≡ start_at starts s.target → is_some start ≡ false → None ≡ start_at starts (entry_of file s k).target
unfolding entry_of
unloaded_entry file starts s k None is none = is
unloaded_entry file starts s k (Some start) is none = cc

-- it is of type R_X86_64_NONE, and its symbol has a value
pub is_none_by : (base : ℕ) (o : Relocatable) (starts : List (Option ℕ)) (r : Reloc) (v : Result ℕ LinkFault) → r.kind ≡ 0 → v ≡ symbol_value base starts o.symbols r.symbol → is_ok v ≡ true → is_none base o starts r ≡ true
is_none_by base o starts r v kind is ok = ap (λ k. (k == 0) && is_ok (symbol_value base starts o.symbols r.symbol)) kind ∙ ap is_ok (sym is) ∙ ok

none_idle : (base : ℕ) (o : Relocatable) (starts : List (Option ℕ)) (r : Reloc) → is_none base o starts r ≡ true → PutsNothing base o starts r
none_idle base o starts r is = λ puts. at puts (start_at starts r.target) refl
  where
    both : ((r.kind == 0) ≡ true) × (is_ok (symbol_value base starts o.symbols r.symbol) ≡ true)
    both = and_parts (r.kind == 0) (is_ok (symbol_value base starts o.symbols r.symbol)) is

    kind : r.kind ≡ 0
    kind = let h = both.0 in grind (arith, nat_tests)

    by_value : (puts : List Put) (start : ℕ) (v : Result ℕ LinkFault) → Some start ≡ start_at starts r.target → v ≡ symbol_value base starts o.symbols r.symbol → is_ok v ≡ true → put_of base o starts puts r ≡ Ok None
    by_value puts start (Ok s) there value ok =
        sym (put_given base o starts puts r start forms.Empty s there (sym (ap form_of kind)) (placed_none base o puts r (start + r.offset) 0 refl) value)
    by_value puts start (Err e) there value ok = cc

    at : (puts : List Put) (start : Option ℕ) → start_at starts r.target ≡ start → put_of base o starts puts r ≡ Ok None
    at puts None e = sym (put_passed base o starts puts r (sym e))
    at puts (Some start) e = by_value puts start (symbol_value base starts o.symbols r.symbol) (sym e) refl both.1

-- entry k of a section, where that is noted of its place
pub noted_idle : (base : ℕ) (o : Relocatable) (file : List ℕ) (starts : List (Option ℕ)) (s : RelocSection) (k : ℕ) → is_idle base o file starts (s.offset + 24 * k) ≡ true → PutsNothing base o starts (entry_of file s k)
unfolding is_idle entry_of
noted_idle base o file starts s k is =
    let on : entry_place (alone (s.offset + 24 * k)) 0 ≡ entry_place s k = omega arith in
    none_idle base o starts (entry_of file s k) (subst (λ at. is_none base o starts (reloc_of s k (read rela (bytes_at at 24 file))) ≡ true) on is)

-- the entries behind those up to entry j, as many as are noted there
pub run_idle : (base : ℕ) (o : Relocatable) (file : List ℕ) (starts : List (Option ℕ)) (s : RelocSection) (j n : ℕ) → ((k : ℕ) → k < n → is_idle base o file starts (s.offset + 24 * j + 24 * k) ≡ true) → (k : ℕ) → k < n → j + k < s.count → PutsNothing base o starts (entry_of file s (j + k))
run_idle base o file starts s j n run = λ k below _.
    let on : s.offset + 24 * j + 24 * k ≡ s.offset + 24 * (j + k) = omega arith in
    noted_idle base o file starts s (j + k) (subst (λ at. is_idle base o file starts at ≡ true) on (run k below))

-- the first entries, as many as are noted
pub first_run : (base : ℕ) (o : Relocatable) (file : List ℕ) (starts : List (Option ℕ)) (b : LinkBuffer) (s : RelocSection) (n : ℕ) → ((k : ℕ) → k < n → is_idle base o file starts (s.offset + 24 * k) ≡ true) → ArePut base o starts b b (take n (entries_of file s))
first_run base o file starts b s n run =
    let on : 0 + n ≡ n = omega arith in
    subst (λ m. ArePut base o starts b b (take m (entries_of file s))) on
    (idle_entries base o starts b b file s 0 n (none_put base o starts b file s)
    (run_idle base o file starts s 0 n (λ k below. let e : s.offset + 24 * k ≡ s.offset + 24 * 0 + 24 * k = omega arith in subst (λ at. is_idle base o file starts at ≡ true) e (run k below))))

-- and those behind entry j
pub next_run : (base : ℕ) (o : Relocatable) (file : List ℕ) (starts : List (Option ℕ)) (old now : LinkBuffer) (s : RelocSection) (j n m : ℕ) → m ≡ j + (1 + n) → ArePut base o starts old now (take (j + 1) (entries_of file s)) → ((k : ℕ) → k < n → is_idle base o file starts (s.offset + 24 * (j + 1) + 24 * k) ≡ true) → ArePut base o starts old now (take m (entries_of file s))
next_run base o file starts old now s j n m is put run =
    let on : j + 1 + n ≡ m = omega (arith, is) in
    subst (λ m. ArePut base o starts old now (take m (entries_of file s))) on
    (idle_entries base o starts old now file s (j + 1) n put (run_idle base o file starts s (j + 1) n run))
