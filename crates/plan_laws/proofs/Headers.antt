-- The program headers of an executable that was read, by their places in the file.
use Rattle.std.proofs.Common.{◌≡◌, ◌∙◌, ℕ, suc, ◌+◌, ◌*◌, ◌<◌, ◌≤◌, List, [], length, drop, Bool, true, false, Option, Some, Ok, refl, sym, ap, subst, arith}
use Rattle.std.specs.Prelude.{nat_lt}
use Rattle.std.specs.List.{filter}
use Rattle.std.proofs.Math.Nat.{mul-le-mul_left, mul-suc}
use Rattle.std.proofs.lemmas.Bool.{cond-true, eq-eqb, ltb-false}
use Rattle.std.proofs.lemmas.List.{length-drop, length-take}
use Rattle.kx_laws.specs.Results.{unless}
use Rattle.kx_laws.proofs.Results.{bind_ok, guard_ok, ok_same}
use Rattle.kx_fields.specs.Fields.{bytes_at, field}
use Rattle.kx_fields.specs.Formats.{read}
use Rattle.elf_image.specs.FileHeader.{entry_size, exec_fault, exec_header, header_format, header_of, header_size, read_class, read_header}
use Rattle.elf_image.specs.Image.{segments_of}
use Rattle.elf_image.specs.Loads.{Executable, exec_reading, has_memory, loads_onto, read_loads}
use Rattle.elf_image.specs.ProgramHeader.{load_at, load_of, loads_of, row_format}
use Rattle.elf_image.specs.declared.fault.ElfFault.{ElfFault}
use Rattle.elf_image.specs.declared.load.Load.{Load}
use Rattle.elf_image.proofs.Reading.{has_table}
use Rattle.elf_image.proofs.Sound.{exec_sound}
use Rattle.plan_laws.specs.Executable.{AreLoaded32, AreLoaded64, IsLoaded}
use Rattle.plan_laws.proofs.Executables.{Among, all_roomy, all_taken, given, kept, load_stands}
use Rattle.plan_laws.proofs.Private.{Header}
use Rattle.plan_laws.proofs.ZeroPages.{field_inside}

-- ---- the file header
-- the first bytes of a file of this class, read as its header
abbrev pub header_read : Bool → List ℕ → Header
header_read wide file = record { wide = wide; file = read (header_format wide) (bytes_at 0 (header_size wide) file) }

pub record IsRead (file : List ℕ) (h : Header) : Type 0 where
  pub long : header_size h.wide ≤ length file
  pub is : header_read h.wide file ≡ h

header_is : (file : List ℕ) (wide : Bool) (h : Header) → header_of file wide ≡ Ok h → IsRead file h
header_is file wide h e =
    let a = guard_ok (nat_lt (length file) (header_size wide)) _ _ h e in
    let same = ok_same {F = ElfFault} (header_read wide file) h a.1 in
    subst (IsRead file) same (record { long = ltb-false (length file) (header_size wide) a.0; is = refl })

read_is : (file : List ℕ) (h : Header) → exec_header file ≡ Ok h → IsRead file h
unfolding exec_header read_header
read_is file h e =
    let a = bind_ok (read_header file) _ h e in
    let b = bind_ok (unless (exec_fault (length file) a.0)) (λ _. Ok a.0) h a.2 in
    let c = bind_ok (read_class file) (header_of file) a.0 a.1 in
    subst (IsRead file) (ok_same {F = ElfFault} a.0 h b.2) (header_is file c.0 a.0 c.2)

-- ---- an executable that was read
pub record Parts (file : List ℕ) (x : Executable) : Type 0 where
  pub header : Header
  pub read : exec_header file ≡ Ok header
  pub wide : x.wide ≡ header.wide
  pub entry : x.entry ≡ header.file.entry
  pub all : loads_onto (length file) [] (loads_of header file) ≡ Ok (loads_of header file)
  pub loads : filter has_memory (loads_of header file) ≡ x.loads

pub parts_of : (file : List ℕ) (x : Executable) → exec_reading file ≡ Ok x → Parts file x
unfolding exec_reading read_loads
parts_of file x e =
    let a = bind_ok (exec_header file) _ x e in
    let b = bind_ok (read_loads a.0 file) _ x a.2 in
    let c = bind_ok (loads_onto (length file) [] (loads_of a.0 file)) _ b.0 b.1 in
    let taken = all_taken (length file) [] (loads_of a.0 file) c.0 c.1 in
    let same = ok_same {F = ElfFault} (record { wide = a.0.wide; entry = a.0.file.entry; loads = b.0 }) x b.2 in
    record {
      header = a.0;
      read = a.1;
      wide = sym (ap (λ (x : Executable). x.wide) same);
      entry = sym (ap (λ (x : Executable). x.entry) same);
      all = c.1 ∙ ap Ok (sym taken);
      loads = ap (filter has_memory) taken ∙ ok_same {F = ElfFault} (filter has_memory c.0) b.0 c.2 ∙ ap (λ (x : Executable). x.loads) same;
    }

-- each load of the file is loaded, one without memory too
loaded : (file : List ℕ) (x : Executable) (l : Load) → exec_reading file ≡ Ok x → (p : Parts file x) → Among l (loads_of p.header file) → IsLoaded file l.offset l.paddr l.filesz l.memsz (segments_of file x.loads)
loaded file x l e p h = by (has_memory l) refl
  where
    room : l.filesz ≤ l.memsz
    room = all_roomy (length file) [] (loads_of p.header file) (loads_of p.header file) l p.all h

    by : (b : Bool) → has_memory l ≡ b → IsLoaded file l.offset l.paddr l.filesz l.memsz (segments_of file x.loads)
    by true some = load_stands (length file) file l x.loads (exec_sound file x e) (subst (Among l) p.loads (kept l (loads_of p.header file) some h))
    by false none =
        let empty : l.memsz ≤ 0 = ltb-false 0 l.memsz none in
        record { bytes = λ k inside. absurd (omega (arith, inside, room, empty)); zeros = λ k past inside. absurd (omega (arith, inside, empty)) }

row_inside : (n i count at first most : ℕ) → i < count → at ≡ first + n * i → first + n * count ≤ most → at + n ≤ most
row_inside n i count at first most h e k = let next = mul-le-mul_left {m = suc i} {n = count} n h in omega (arith, e, k, next, mul-suc n i)

-- the load of these numbers
abbrev load : (offset filesz paddr memsz : ℕ) → Load
load offset filesz paddr memsz = record { offset = offset; filesz = filesz; paddr = paddr; memsz = memsz }

-- ---- the fields of a row
inside_file : (n at : ℕ) (file : List ℕ) → at + n ≤ length file → length (bytes_at at n file) ≡ n
inside_file n at file h = omega (arith, length-take n (drop at file), length-drop at file, h)

pub field_of : (n at b u : ℕ) (file : List ℕ) → at + n ≤ length file → b + u ≤ n → field b u (bytes_at at n file) ≡ field (at + b) u file
field_of n at b u file h within = sym (field_inside at n b u file (bytes_at at n file) refl (let long = inside_file n at file h in omega (arith, long, within)))

load_same : (a b c d a2 b2 c2 d2 : ℕ) → a ≡ a2 → b ≡ b2 → c ≡ c2 → d ≡ d2 → (load a b c d) ≡ load a2 b2 c2 d2
load_same a b c d a2 b2 c2 d2 e f g h = ap (λ x. load x b c d) e ∙ ap (λ x. load a2 x c d) f ∙ ap (λ x. load a2 b2 x d) g ∙ ap (λ x. load a2 b2 c2 x) h

-- the loads that the program headers at this place are
abbrev load64 : List ℕ → ℕ → Load
load64 file p = load (field (p + 8) 8 file) (field (p + 32) 8 file) (field (p + 24) 8 file) (field (p + 40) 8 file)

abbrev load32 : List ℕ → ℕ → Load
load32 file p = load (field (p + 4) 4 file) (field (p + 16) 4 file) (field (p + 12) 4 file) (field (p + 20) 4 file)

abbrev row_at : Bool → List ℕ → ℕ → Option Load
row_at wide file p = load_of (read (row_format wide) (bytes_at p (entry_size wide) file))

row64 : (file : List ℕ) (p : ℕ) → p + 56 ≤ length file → field p 4 file ≡ 1 → row_at true file p ≡ Some (load64 file p)
row64 file p inside kind =
    let z : p + 0 ≡ p = omega arith in
    let f = λ (b u : ℕ) (within : b + u ≤ 56). field_of 56 p b u file inside within in
    cond-true _ _ _ (eq-eqb _ _ (f 0 4 (omega arith) ∙ ap (λ p. field p 4 file) z ∙ kind))
    ∙ ap Some (load_same _ _ _ _ _ _ _ _ (f 8 8 (omega arith)) (f 32 8 (omega arith)) (f 24 8 (omega arith)) (f 40 8 (omega arith)))

row32 : (file : List ℕ) (p : ℕ) → p + 32 ≤ length file → field p 4 file ≡ 1 → row_at false file p ≡ Some (load32 file p)
row32 file p inside kind =
    let z : p + 0 ≡ p = omega arith in
    let f = λ (b u : ℕ) (within : b + u ≤ 32). field_of 32 p b u file inside within in
    cond-true _ _ _ (eq-eqb _ _ (f 0 4 (omega arith) ∙ ap (λ p. field p 4 file) z ∙ kind))
    ∙ ap Some (load_same _ _ _ _ _ _ _ _ (f 4 4 (omega arith)) (f 16 4 (omega arith)) (f 12 4 (omega arith)) (f 20 4 (omega arith)))

-- ---- all loads of a file of either class
module _ (file : List ℕ) (x : Executable) (e : exec_reading file ≡ Ok x) (p : Parts file x) where
  abbrev h : Header
  h = p.header

  is : IsRead file h
  is = read_is file h p.read

  -- the row at this place, of which the file header tells
  one : (wide : Bool) (i at : ℕ) (l : Load) → h.wide ≡ wide → i < (header_read wide file).file.phnum → at ≡ (header_read wide file).file.phoff + entry_size wide * i
      → (at + entry_size wide ≤ length file → row_at wide file at ≡ Some l) → IsLoaded file l.offset l.paddr l.filesz l.memsz (segments_of file x.loads)
  one wide i at l is_wide below place row =
      let same : header_read wide file ≡ h = ap (λ w. header_read w file) (sym is_wide) ∙ is.is in
      let table = subst (λ (h : Header). h.file.phoff + entry_size h.wide * h.file.phnum ≤ length file) (sym same) (has_table file h p.read).inside in
      let l_is = row (row_inside (entry_size wide) i (header_read wide file).file.phnum at (header_read wide file).file.phoff (length file) below place table) in
      let read = ap (λ at. row_at wide file at) (sym place) ∙ l_is in
      loaded file x l e p (given (load_at h file) 0 h.file.phnum i i l (omega arith) (subst (λ (h : Header). i < h.file.phnum) same below)
      (subst (λ (h : Header). load_at h file i ≡ Some l) same read))

  pub loads64 : h.wide ≡ true → AreLoaded64 file (segments_of file x.loads)
  loads64 wide i at below place kind =
      let long = subst (λ w. header_size w ≤ length file) wide is.long in
      one true i at (load64 file at) wide
      (subst (λ n. i < n) (sym (field_of 64 0 56 2 file long (omega arith))) below)
      (place ∙ ap (λ n. n + 56 * i) (sym (field_of 64 0 32 8 file long (omega arith))))
      (λ inside. row64 file at inside kind)

  pub loads32 : h.wide ≡ false → AreLoaded32 file (segments_of file x.loads)
  loads32 wide i at below place kind =
      let long = subst (λ w. header_size w ≤ length file) wide is.long in
      one false i at (load32 file at) wide
      (subst (λ n. i < n) (sym (field_of 52 0 44 2 file long (omega arith))) below)
      (place ∙ ap (λ n. n + 32 * i) (sym (field_of 52 0 28 4 file long (omega arith))))
      (λ inside. row32 file at inside kind)

  pub entry64 : h.wide ≡ true → x.entry ≡ field 0x18 8 file
  entry64 wide =
      let long = subst (λ w. header_size w ≤ length file) wide is.long in
      p.entry ∙ ap (λ (h : Header). h.file.entry) (sym is.is ∙ ap (λ w. header_read w file) wide) ∙ field_of 64 0 24 8 file long (omega arith)

  pub entry32 : h.wide ≡ false → x.entry ≡ field 0x18 4 file
  entry32 wide =
      let long = subst (λ w. header_size w ≤ length file) wide is.long in
      p.entry ∙ ap (λ (h : Header). h.file.entry) (sym is.is ∙ ap (λ w. header_read w file) wide) ∙ field_of 52 0 24 4 file long (omega arith)
