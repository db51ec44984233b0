-- The parameter segment: the zero page, the command and a NUL, and behind them the rows of the memory map that the zero
-- page has no room for (Linux/x86 boot protocol, "The Kernel Command Line" and "Zero Page"; that they stand together, the
-- limit of rows and the order of faults are this project's own).
use Rattle.std.specs.Prelude.{ℕ, ◌+◌, ◌-◌, ◌*◌, ◌++◌, ◌==◌, List, ◌∷◌, length, take, drop, nat_lt, if◌then◌else◌, Option, Some, Result, Ok}
use Rattle.std.specs.Option.{option_map}
use Rattle.std.specs.List.{position}
use Rattle.kx_laws.specs.Results.{◌>>=◌, unless}
use Rattle.bzimage.specs.Kernel.{Kernel}
use Rattle.memory_map.specs.declared.row.Row.{Row}
use Rattle.boot_params.specs.declared.fault.ParamsFault.{ParamsFault}
use Rattle.boot_params.specs.declared.fault.ParamsFault.TheVariants as faults
use Rattle.boot_params.specs.ZeroPage.{page_text}
use Rattle.boot_params.specs.SetupData.{nul_end, record_place, extension}
use Rattle.boot_params.specs.Numbers.{numbers_of}

-- the first fault: of the rows, of the command's length, and of a NUL in it
unfoldable pub params_fault : Kernel → List Row → List ℕ → Option ParamsFault
params_fault kernel rows command =
    if nat_lt 1152 (length rows) then Some (faults.TooManyRanges (length rows))
    else if nat_lt kernel.command_most (length command)
    then Some (faults.CommandTooLong (length command) kernel.command_most)
    else option_map faults.NulInCommand (position (λ b. b == 0) command)

-- the zero page with the first 128 rows, right behind it the command and a NUL, and behind them the rows that are left
unfoldable pub params_text : Kernel → List Row → List ℕ → ℕ → Option (ℕ × ℕ) → List ℕ
params_text kernel rows command at initrd =
    page_text kernel.header (numbers_of (length rows) (length command) at initrd) (take 128 rows)
    ++ (command ++ 0 ∷ extension (length command) (drop 128 rows))

-- how many bytes it has with so many rows and a command of so many bytes
unfoldable pub params_length : ℕ → ℕ → ℕ
params_length rows command =
    if nat_lt 128 rows then record_place command + 16 + 20 * (rows - 128) else nul_end command

-- the parameter segment at this address, or the first fault
unfoldable pub params : Kernel → List Row → List ℕ → ℕ → Option (ℕ × ℕ)
    → Result (List ℕ) ParamsFault
params kernel rows command at initrd = do
  _ ← unless (params_fault kernel rows command)
  Ok (params_text kernel rows command at initrd)
