-- A memory: a finite map from page numbers to 4,096 bytes each, and a number of sets. This project's own.
-- No clause of `kexec` reaches what stands here: it serves laws, and contracts inside the crates.
use Rattle.std.specs.Prelude.{ℕ, ◌+◌, ◌/◌, ◌%◌, ◌++◌, List, drop, take}
use Rattle.std.specs.Ordering.{nat_cmp}
use Rattle.std.specs.FinMap as finite
use Rattle.std.specs.Prelude.{refl, IsSome}
use Rattle.std.specs.Coded.{Coded, code_by, coded×, coded_ℕ, coded_list}
use Rattle.byteorder.specs.Endian.{little_bytes}
use Rattle.kx_laws.specs.Counts.{next_count}
use Rattle.page_memory.specs.Contents.{Contents, at}

-- stored as the pair of its fields
abbrev pub contents_code : Coded Contents
contents_code =
    code_by (finite.FinMap nat_cmp (List ℕ) × ℕ)
    (coded× (finite.code coded_ℕ (coded_list coded_ℕ)) coded_ℕ)
    (λ m. (m.pages, m.sets)) (λ p. record { pages = p.0; sets = p.1 }) (λ _. refl)

-- page p is held
abbrev pub IsHeld : Contents → ℕ → Type 0
IsHeld m p = IsSome (finite.get m.pages p)

-- with_page, where the number of sets goes on
abbrev pub after_set : Contents → ℕ → List ℕ → Contents
after_set m p bytes = record { pages = finite.insert m.pages p bytes; sets = next_count m.sets }

-- the page with the word at this place
unfoldable pub page_with_word : List ℕ → ℕ → ℕ → List ℕ
page_with_word bytes place v = take place bytes ++ (little_bytes 8 v ++ drop (place + 8) bytes)

-- m with v at the word of address a
abbrev pub with_word : Contents → ℕ → ℕ → Contents
with_word m a v = after_set m (a / 4096) (page_with_word (at m (a / 4096)) (a % 4096) v)
