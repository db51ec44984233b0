-- The signature of a bzImage (Linux/x86 boot protocol, "The Real-Mode Kernel Header", boot_flag and header). Places count
-- bytes from the file's start.
use Rattle.std.specs.Prelude.{ℕ, ◌==◌, ◌&&◌, Bool, false, List, [], length, take, nat_lt, if◌then◌else◌}
use Rattle.kx_fields.specs.Formats.{Format, read}
use Rattle.bzimage.specs.declared.signature.Signature.{Signature}

abbrev pub signature : Format Signature
signature = record {
  layout = λ at. record { boot_flag = at 0x1fe 2; header = at 0x202 4 };
  numbers = λ h. [];
}

-- the mark of a boot sector, and "HdrS"
abbrev pub is_right : Signature → Bool
is_right s = (s.boot_flag == 0xaa55) && (s.header == 0x53726448)

-- the file has both in their places
unfoldable pub is_bzimage : List ℕ → Bool
is_bzimage file =
    if nat_lt (length file) 0x206 then false
    else is_right (read signature (take 0x206 file))
