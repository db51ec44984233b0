-- The setup header of a file that was read.
use Rattle.std.proofs.Common.{◌≡◌, ℕ, ◌-◌, ◌^◌, ◌<◌, ◌≤◌, List, length, drop, Bool, true, false, cond, refl, sym, ap, ◌∙◌, subst, Ok, Err, Option, Some, arith, length-drop}
use Rattle.std.specs.Prelude.{◌&&◌, ◌==◌, nat_lt, nat_le, not, IsTrue}
use Rattle.std.proofs.lemmas.Bool.Decides.{nat_tests}
use Rattle.std.proofs.lemmas.Bool.{or_parts, ltb-false, leb-false}
use Rattle.std.proofs.lemmas.List.{length-take-le}
use Rattle.std.specs.Int.{is_power_of_two, IsPowerOfTwo}
use Rattle.bzimage.proofs.Powers.{power_of_two}
use Rattle.bzimage.specs.declared.fault.BzFault.{BzFault}
use Rattle.bzimage.specs.declared.setup_header.SetupHeader.{SetupHeader}
use Rattle.kx_laws.specs.Results.{◌>>=◌, unless}
use Rattle.bzimage.specs.Kernel.{Kernel, has_bit, header_end, is_header_end, kernel_start, is_alignment, is_cut, header_fault, tested_header, header_bytes, kernel_of, kernel_reading}
use Rattle.bzimage.specs.inner.Kernel.{HasSmallNumbers, IsTested, IsSound}

peel : (b : Bool) (x : BzFault) (rest : Option BzFault) → unless (cond b (Some x) rest) ≡ Ok tt → (b ≡ false) × (unless rest ≡ Ok tt)
peel true x rest h = cc
peel false x rest h = (refl, h)

so : (b : Bool) → not b ≡ false → IsTrue b
so true h = refl
so false h = cc

least : (end : ℕ) → IsTrue (is_header_end end) → 0x264 ≤ end
least end h = grind (arith, nat_tests)

most : (end : ℕ) → IsTrue (is_header_end end) → end ≤ 0x290
most end h = grind (arith, nat_tests)

pub no_fault_is_tested : (n : ℕ) (h : SetupHeader) → unless (header_fault n h) ≡ Ok tt → IsTested n h
unfolding header_fault
no_fault_is_tested n h e =
    let b = peel (nat_lt h.version 0x20c) _ _ e in
    let c = peel (not (has_bit 0 h.xloadflags)) _ _ b.1 in
    let d = peel (h.relocatable_kernel == 0) _ _ c.1 in
    let f = peel (not (has_bit 0 h.loadflags)) _ _ d.1 in
    let g = peel (not (is_header_end (header_end h))) _ _ f.1 in
    let i = peel (not (is_alignment h.kernel_alignment)) _ _ g.1 in
    let j = or_parts (nat_lt n (header_end h)) (nat_le n (kernel_start h)) (peel (is_cut n h) _ _ i.1).0 in
    let good = so (is_header_end (header_end h)) g.0 in
    record {
      least_end = least (header_end h) good;
      most_end = most (header_end h) good;
      align = so (is_alignment h.kernel_alignment) i.0;
      whole = ltb-false n (header_end h) j.0;
      start = leb-false n (kernel_start h) j.1;
    }

pub fails : (file : List ℕ) (e : BzFault) → tested_header file ≡ Err e → kernel_reading file ≡ Err e
unfolding kernel_reading
fails file e h = ap (λ r. r >>= λ s. Ok (kernel_of s (header_bytes s file))) h

pub reads : (file header : List ℕ) (h : SetupHeader) (k : Kernel) → tested_header file ≡ Ok h → header ≡ header_bytes h file → k ≡ kernel_of h header → kernel_reading file ≡ Ok k
unfolding kernel_reading
reads file header h k is bytes e =
    ap (λ r. r >>= λ s. Ok (kernel_of s (header_bytes s file))) is ∙ ap Ok (ap (kernel_of h) (sym bytes) ∙ sym e)

header_size : (h : SetupHeader) (file : List ℕ) → IsTested (length file) h → length (header_bytes h file) ≡ header_end h - 0x1f1
header_size h file t =
    let long = length-drop 0x1f1 file in
    length-take-le (header_end h - 0x1f1) (drop 0x1f1 file) (omega (arith, long, t.whole))

power : (a : ℕ) → IsTrue (is_alignment a) → IsPowerOfTwo a
power a h = power_of_two a (by_test (is_power_of_two a) _ h)
  where
    by_test : (x y : Bool) → IsTrue (x && y) → x ≡ true
    by_test true y h = refl
    by_test false y h = cc

least_align : (a : ℕ) → IsTrue (is_alignment a) → 4096 ≤ a
least_align a h = grind (arith, nat_tests)

most_align : (a : ℕ) → IsTrue (is_alignment a) → a ≤ 2 ^ 30
most_align a h = grind (arith, nat_tests)

pub sound : (file header : List ℕ) (h : SetupHeader) (k : Kernel) → IsTested (length file) h → header ≡ header_bytes h file → k ≡ kernel_of h header → HasSmallNumbers k → IsSound (length file) k
sound file header h k t bytes e small =
    let size = ap length bytes ∙ header_size h file t in
    let same = ap (λ (k : Kernel). length k.header) e in
    record {
      least_header = omega (arith, size, same, t.least_end);
      most_header = omega (arith, size, same, t.most_end);
      align = subst (λ (k : Kernel). IsPowerOfTwo k.align) (sym e) (power h.kernel_alignment t.align);
      least_align = subst (λ (k : Kernel). 4096 ≤ k.align) (sym e) (least_align h.kernel_alignment t.align);
      most_align = subst (λ (k : Kernel). k.align ≤ 2 ^ 30) (sym e) (most_align h.kernel_alignment t.align);
      start = subst (λ (k : Kernel). k.start < length file) (sym e) t.start;
      numbers = small;
    }
