-- A memory: a finite map from page numbers to 4,096 bytes each, and a number of sets. This project's own.
use Rattle.std.specs.Prelude.{ℕ, ◌<◌, ◌^◌, List, unwrap_or, replicate, IfSome}
use Rattle.std.specs.Ordering.{nat_cmp}
use Rattle.std.specs.FinMap as finite
use Rattle.kx_fields.specs.Fields.{IsBlock}

-- what a clause sees of a Memory
pub record Contents : Type 0 where
  pub pages : finite.FinMap nat_cmp (List ℕ)
  pub sets : ℕ

-- a page of zeros
unfoldable pub zero_page : List ℕ
zero_page = replicate 4096 0

-- what a page reads as
unfoldable pub frame_at : finite.FinMap nat_cmp (List ℕ) → ℕ → List ℕ
frame_at pages p = unwrap_or (finite.get pages p) zero_page

abbrev pub at : Contents → ℕ → List ℕ
at m p = frame_at m.pages p

-- m with these bytes at page p
abbrev pub with_page : Contents → ℕ → List ℕ → Contents
with_page m p bytes = record { pages = finite.insert m.pages p bytes; sets = m.sets }

-- page d becomes what page s reads as
abbrev pub copy_page : Contents → ℕ → ℕ → Contents
copy_page m d s = with_page m d (at m s)

-- the copies s to w, d to s, w to d, in this order
abbrev pub swap_pages : Contents → ℕ → ℕ → ℕ → Contents
swap_pages m d s w = copy_page (copy_page (copy_page m w s) s d) d w

-- what each memory is
pub record IsMemory (m : Contents) : Type 0 where
  pub each : (q : ℕ) → IfSome (finite.get m.pages q) (λ b. (q < 2 ^ 34) × IsBlock 4096 b)
