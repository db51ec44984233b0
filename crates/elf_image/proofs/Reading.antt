-- The header and the loads of a file that was read.
use Rattle.std.proofs.Common.{◌≡◌, ℕ, List, length, false, refl, sym, ap, ◌∙◌, subst, Ok, Err, Result}
use Rattle.std.specs.Prelude.{not, ◌==◌, ◌&&◌}
use Rattle.std.proofs.lemmas.Bool.{ltb-false}
use Rattle.elf_image.specs.declared.load.Load.{Load}
use Rattle.elf_image.specs.declared.fault.ElfFault.{ElfFault}
use Rattle.elf_image.specs.declared.file_header.Header.{Header}
use Rattle.kx_laws.specs.Results.{◌>>=◌, unless}
use Rattle.elf_image.specs.FileHeader.{read_header, exec_fault, exec_header, is_table_cut, machine_of, entry_size}
use Rattle.elf_image.specs.inner.FileHeader.{HasTable}
use Rattle.elf_image.specs.Loads.{read_loads, exec_reading}
use Rattle.elf_image.proofs.Walk.{peel}
use Rattle.elf_image.proofs.Failing.{Fails, fails_err, fails_on}

then_ok : {X : Type 0} (o : Result (Unit {0}) ElfFault) (x k : X) → (o >>= λ _. Ok x) ≡ Ok k → (o ≡ Ok tt) × (x ≡ k)
then_ok (Ok u) x k h = (refl, cc)
then_ok (Err e) x k h = cc

pub tested_from : {X : Type 0} (r : Result X ElfFault) (g : X → Result (Unit {0}) ElfFault) (k : X) → (r >>= λ h. g h >>= λ _. Ok h) ≡ Ok k → g k ≡ Ok tt
tested_from (Ok x) g k h = let a = then_ok (g x) x k h in ap g (sym a.1) ∙ a.0
tested_from (Err e) g k h = cc

tested_fault : (bytes : List ℕ) (h : Header) → exec_header bytes ≡ Ok h → unless (exec_fault (length bytes) h) ≡ Ok tt
unfolding exec_header
tested_fault bytes h e = tested_from (read_header bytes) (λ k. unless (exec_fault (length bytes) k)) h e

table_from : (n : ℕ) (h : Header) → unless (exec_fault n h) ≡ Ok tt → is_table_cut n h ≡ false
unfolding exec_fault
table_from n h e =
    let a = peel (not (h.file.machine == machine_of h.wide)) _ _ e in
    let b = peel (not (h.file.kind == 2)) _ _ a.1 in
    let c = peel (h.file.phnum == 65535) _ _ b.1 in
    let d = peel (not (h.file.phnum == 0) && not (h.file.phentsize == entry_size h.wide)) _ _ c.1 in
    (peel (is_table_cut n h) _ _ d.1).0

pub has_table : (bytes : List ℕ) (h : Header) → exec_header bytes ≡ Ok h → HasTable (length bytes) h
has_table bytes h e = record { inside = ltb-false (length bytes) _ (table_from (length bytes) h (tested_fault bytes h e)) }

pub header_fails : (bytes : List ℕ) (e : ElfFault) → exec_header bytes ≡ Err e → Fails e (exec_reading bytes)
unfolding exec_reading
header_fails bytes e h =
    fails_on e (exec_header bytes) (λ h. read_loads h bytes >>= λ ls. Ok (record { wide = h.wide; entry = h.file.entry; loads = ls })) (fails_err e (exec_header bytes) h)

reads_loads : (bytes : List ℕ) (h : Header) → exec_header bytes ≡ Ok h → exec_reading bytes ≡ (read_loads h bytes >>= λ ls. Ok (record { wide = h.wide; entry = h.file.entry; loads = ls }))
unfolding exec_reading
reads_loads bytes h e = ap (λ r. r >>= λ h. read_loads h bytes >>= λ ls. Ok (record { wide = h.wide; entry = h.file.entry; loads = ls })) e

pub loads_fail : (bytes : List ℕ) (h : Header) (e : ElfFault) → exec_header bytes ≡ Ok h → Fails e (read_loads h bytes) → Fails e (exec_reading bytes)
loads_fail bytes h e is f =
    subst (Fails e) (sym (reads_loads bytes h is)) (fails_on e (read_loads h bytes) (λ ls. Ok (record { wide = h.wide; entry = h.file.entry; loads = ls })) f)

pub reads : (bytes : List ℕ) (h : Header) (ls : List Load) → exec_header bytes ≡ Ok h → read_loads h bytes ≡ Ok ls → exec_reading bytes ≡ Ok (record { wide = h.wide; entry = h.file.entry; loads = ls })
reads bytes h ls is found = reads_loads bytes h is ∙ ap (λ (r : Result (List Load) ElfFault). r >>= λ ls. Ok (record { wide = h.wide; entry = h.file.entry; loads = ls })) found
