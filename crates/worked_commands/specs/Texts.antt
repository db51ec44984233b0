-- Values with different numbers at all their places, of which lines are said (this project's own).
use Rattle.std.specs.Prelude.{[], ◌∷◌, codes}
use Rattle.kx_pages.specs.declared.image.Image.{Image}
use Rattle.kx_pages.specs.declared.image.Mode.TheVariants.{Plain, Kept}
use Rattle.kx_pages.specs.declared.image.Start.{Start}
use Rattle.page_memory.specs.Contents.{Contents}
use Rattle.std.specs.FinMap.{empty}
use Rattle.load_states.specs.States.{Checked, no_pages}
use Rattle.vmcore_file.specs.File.{CoreValue}
use Rattle.kexec_plan.specs.Requests.{Plan}

abbrev pub plain_image : Image
plain_image = record { head = 0x11002; mode = Plain; control = 0x10 }

abbrev pub kept_image : Image
kept_image = record { head = 0x12002; mode = Kept 0x11; control = 0x10 }

abbrev pub registers : Start
registers = record { entry = 0x2a00; rax = 0x2bad_b002; rbx = 0x9500; rsi = 0x90000 }

-- a plan with a purgatory, whose table of regions is at 3000 and whose digest is at 3100
abbrev pub purgatory_plan : Plan
purgatory_plan =
    record { segments = []; start = registers; regions = 0x3000; digest = 0x3100 }

-- a memory without pages
abbrev pub no_memory : Contents
no_memory = record { pages = empty; sets = 0 }

-- a list of seven words on three link pages with two pairs
abbrev pub kept_checked : Checked
kept_checked = record {
  load = record { memory = no_memory; pool = no_pages; image = kept_image; segments = [] };
  words = 7;
  links = 3;
  pairs = (2, 0x13) ∷ (3, 0x14) ∷ [];
}

-- a core file of five bytes
abbrev pub core_of_five : CoreValue
core_of_five = record { bytes = codes "abcde"; loads = 2; notes = 344 }
