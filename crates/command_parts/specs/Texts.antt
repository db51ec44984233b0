-- The texts that commands say (this project's own). Addresses and words are in lower-case hexadecimal without leading
-- zeros, counts in decimal, and each line ends with a newline.
use Rattle.std.specs.Prelude.{ℕ, ◌*◌, List, [], ◌++◌, codes, decimal, false, Option, Some, None}
use Rattle.kx_pages.specs.Bytes.{Mem}
use Rattle.purgatory_link.specs.declared.region_test.RegionTest.{RegionTest}
use Rattle.purgatory_link.specs.declared.region_test.RegionTest.TheVariants as tests
use Rattle.purgatory_link.specs.RegionTest.{test}
use Rattle.std.specs.Fmt.{digits}
use Rattle.kx_pages.specs.declared.image.Start.{Start}
use Rattle.kx_pages.specs.declared.image.Image.{Image}
use Rattle.kx_pages.specs.declared.image.Mode.{Mode}
use Rattle.kx_pages.specs.declared.image.Mode.TheVariants.{Plain, Kept}
use Rattle.command_parts.specs.declared.startup.PurgatoryPlaces.{PurgatoryPlaces}
use Rattle.command_parts.specs.declared.startup.Startup.{Startup}

abbrev pub hexadecimal : ℕ → List ℕ
hexadecimal n = digits 16 false n

-- an accepted list: how many words its walk has, how many link pages, how many pairs of destination and source
abbrev pub accepted_line : ℕ → ℕ → ℕ → List ℕ
accepted_line words links pairs =
    codes "accepted words "
    ++ (decimal words
    ++ (codes " links "
    ++ (decimal links ++ (codes " pairs " ++ (decimal pairs ++ codes "\n")))))

-- the head word, the control page's address, and with context preserved the swap page's
abbrev pub head_line : Image → List ℕ
head_line image =
    codes "head "
    ++ (hexadecimal image.head
    ++ (codes " control " ++ (hexadecimal (4096 * image.control) ++ swap_end image.mode)))
  where
    swap_end : Mode → List ℕ
    swap_end Plain = codes "\n"
    swap_end (Kept swap) = codes " swap " ++ (hexadecimal (4096 * swap) ++ codes "\n")

-- where the new kernel starts, and with which registers
abbrev pub start_line : Start → List ℕ
start_line s =
    codes "start entry "
    ++ (hexadecimal s.entry
    ++ (codes " rax "
    ++ (hexadecimal s.rax
    ++ (codes " rbx "
    ++ (hexadecimal s.rbx ++ (codes " rsi " ++ (hexadecimal s.rsi ++ codes "\n")))))))

-- a run, and how many steps it took
abbrev pub ran_line : ℕ → List ℕ
ran_line steps = codes "ran " ++ (decimal steps ++ codes "\n")

-- what the test of the purgatory's regions found
abbrev pub regions_line : RegionTest → List ℕ
regions_line tests.Same = codes "regions same\n"
regions_line (tests.Differs found wanted) = codes "regions differ\n"
regions_line (tests.Wild region) = codes "regions wild\n"

-- the line of that test after one run, where there is a purgatory
abbrev pub purgatory_line : Mem → Option PurgatoryPlaces → List ℕ
purgatory_line N None = []
purgatory_line N (Some places) = regions_line (test N places.regions places.digest)

-- what a load says
abbrev pub load_lines : ℕ → ℕ → ℕ → Image → Start → List ℕ
load_lines words links pairs image start =
    accepted_line words links pairs ++ (head_line image ++ start_line start)

-- a crash load that is accepted: how many pages its segments have
abbrev pub crash_line : ℕ → List ℕ
crash_line pages = codes "accepted crash pages " ++ (decimal pages ++ codes "\n")

-- what a crash load says
abbrev pub crash_lines : ℕ → Start → List ℕ
crash_lines pages start = crash_line pages ++ start_line start

-- what is said of a crash load and of its run, after which memory is this
abbrev pub crash_ran_text : Mem → (pages steps : ℕ) → Startup → List ℕ
crash_ran_text N pages steps s =
    (crash_lines pages s.start ++ ran_line steps) ++ purgatory_line N s.purgatory
