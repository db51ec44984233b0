-- Loads that rise, joined one after another into segments (this project's own).
-- No clause of `kexec` reaches what stands here: it serves laws, and contracts inside the crates.
use Rattle.std.specs.Prelude.{ℕ, ◌+◌, ◌-◌, ◌*◌, ◌/◌, ◌^◌, ◌++◌, ◌<◌, ◌≤◌, ◌==◌, ◌&&◌, Bool, List, [], ◌∷◌, length, take, drop, replicate, nat_lt, nat_le, if◌then◌else◌}
use Rattle.std.specs.List.{AllByRecursion, count_by}
use Rattle.kx_pages.specs.Ranges.{whole_pages}
use Rattle.segments.specs.Values.{SegmentValue}
use Rattle.elf_image.specs.declared.load.Load.{Load}
use Rattle.elf_image.specs.Loads.{load_stop}

-- what each load that has memory keeps, in a file of n bytes
pub record IsLoad (n : ℕ) (l : Load) : Type 0 where
  pub some : 0 < l.memsz
  pub fits : l.filesz ≤ l.memsz
  pub low : load_stop l ≤ 2 ^ 46
  pub inside : l.offset + l.filesz ≤ n

abbrev pub AreLoads : ℕ → List Load → Type 0
AreLoads n ls = AllByRecursion (IsLoad n) ls

-- address a is in the memory of a load
abbrev pub is_memory_of : ℕ → Load → Bool
is_memory_of a l = nat_le l.paddr a && nat_lt a (load_stop l)

-- the loads have memory, keep to the file of n bytes, and no address is in the memory of two
pub record AreSound (n : ℕ) (ls : List Load) : Type 0 where
  pub each : AreLoads n ls
  pub apart : (a : ℕ) → count_by (is_memory_of a) ls ≤ 1

-- the loads rise from address s on, and no two meet
abbrev pub Rise : ℕ → List Load → Type 0
Rise s [] = Unit {0}
Rise s (l ∷ ls) = (s ≤ l.paddr) × Rise (load_stop l) ls

-- the address of the first page of a load, and that behind its last page
abbrev pub first_of : Load → ℕ
first_of l = 4096 * (l.paddr / 4096)

abbrev pub end_of : Load → ℕ
end_of l = whole_pages (load_stop l)

-- the bytes of a segment at mem, and behind them the file part of a load, with zeros between
abbrev pub grown : List ℕ → Load → List ℕ → ℕ → List ℕ
grown file l bytes mem =
    if l.filesz == 0 then bytes
    else bytes ++ (replicate (l.paddr - mem - length bytes) 0 ++ take l.filesz (drop l.offset file))

abbrev pub part : List ℕ → ℕ → ℕ → SegmentValue
part bytes mem stop = record { bytes = bytes; mem = mem; memsz = stop - mem }

-- the segment so far, with these bytes from mem on and pages up to stop, and the loads that follow
unfoldable pub joined_to : List ℕ → List ℕ → ℕ → ℕ → List Load → List SegmentValue
joined_to file bytes mem stop [] = part bytes mem stop ∷ []
joined_to file bytes mem stop (l ∷ ls) =
    if nat_le (first_of l) stop then joined_to file (grown file l bytes mem) mem (end_of l) ls
    else part bytes mem stop
    ∷ joined_to file (grown file l [] (first_of l)) (first_of l) (end_of l) ls

unfoldable pub join : List ℕ → List Load → List SegmentValue
join file [] = []
join file (l ∷ ls) = joined_to file (grown file l [] (first_of l)) (first_of l) (end_of l) ls
