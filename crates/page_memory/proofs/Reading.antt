-- One more page of a memory file.
use Rattle.std.proofs.Common.{◌≡◌, ℕ, suc, ◌+◌, List, length, true, false, refl, sym, ap, subst, Ok, Err, ◌⊎◌, inl, inr}
use Rattle.std.specs.Prelude.{◌==◌}
use Rattle.std.specs.Ordering.{nat_cmp}
use Rattle.std.specs.FinMap as finite
use Rattle.page_memory.specs.declared.fault.MemFault.{MemFault}
use Rattle.page_memory.specs.declared.fault.MemFault.TheVariants as faults
use Rattle.page_memory.specs.File.{entry_at, pages_onto}
use Rattle.kx_laws.specs.Results.{◌>>=◌}

abbrev Pages : Type 0
Pages = finite.FinMap nat_cmp (List ℕ)

pub pages_onto-ok : (total place low : ℕ) (m : Pages) (n k : ℕ) (bytes : List ℕ) (e : ℕ × List ℕ × List ℕ) → n ≡ suc k → entry_at total place low bytes ≡ Ok e → pages_onto total place low m n bytes ≡ pages_onto total (place + 4104) (e.0 + 1) (finite.insert m e.0 e.1) k e.2
unfolding pages_onto
pages_onto-ok total place low m n k bytes e more is =
    subst (λ n. pages_onto total place low m n bytes ≡ pages_onto total (place + 4104) (e.0 + 1) (finite.insert m e.0 e.1) k e.2) (sym more)
    (ap (λ r. r >>= λ e. pages_onto total (place + 4104) (e.0 + 1) (finite.insert m e.0 e.1) k e.2) is)

pages_onto-err : (total place low : ℕ) (m : Pages) (n k : ℕ) (bytes : List ℕ) (f : MemFault) → n ≡ suc k → entry_at total place low bytes ≡ Err f → pages_onto total place low m n bytes ≡ Err f
unfolding pages_onto
pages_onto-err total place low m n k bytes f more is =
    subst (λ n. pages_onto total place low m n bytes ≡ Err f) (sym more)
    (ap (λ r. r >>= λ e. pages_onto total (place + 4104) (e.0 + 1) (finite.insert m e.0 e.1) k e.2) is)

-- what one page's fault, or want of memory, is for all of them
pub pages_onto-fails : (total place low : ℕ) (m : Pages) (n k : ℕ) (bytes : List ℕ) (f : MemFault) → n ≡ suc k → (entry_at total place low bytes ≡ Err f) ⊎ (f ≡ faults.Memory) → (pages_onto total place low m n bytes ≡ Err f) ⊎ (f ≡ faults.Memory)
pages_onto-fails total place low m n k bytes f more (inl h) = inl (pages_onto-err total place low m n k bytes f more h)
pages_onto-fails total place low m n k bytes f more (inr h) = inr h

pub pages_onto-end : (total place low : ℕ) (m : Pages) (n : ℕ) (bytes : List ℕ) → n ≡ 0 → (length bytes == 0) ≡ true → pages_onto total place low m n bytes ≡ Ok m
unfolding pages_onto
pages_onto-end total place low m n bytes none empty = rw (none, empty) refl

pub pages_onto-trailing : (total place low : ℕ) (m : Pages) (n : ℕ) (bytes : List ℕ) → n ≡ 0 → (length bytes == 0) ≡ false → pages_onto total place low m n bytes ≡ Err (faults.Trailing place)
unfolding pages_onto
pages_onto-trailing total place low m n bytes none more = rw (none, more) refl
