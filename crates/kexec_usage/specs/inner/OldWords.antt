-- The words of kexec(8) that have a counterpart here. Source: kexec(8) of kexec-tools, OPTIONS; the counterparts are this
-- project's own.
-- No clause of `kexec` reaches what stands here: it serves laws, and contracts inside the crates.
use Rattle.std.specs.Prelude.{List, [], ◌∷◌, Option, Some, None, codes, if◌then◌else◌, unwrap_or}
use Rattle.std.specs.Str.{bytes_eq}
use Rattle.kexec_usage.specs.inner.Words.{Text}

-- the command that does what an option of kexec(8) does
abbrev pub command_for : Text → Option Text
command_for w = if bytes_eq w (codes "-l") then Some (codes "load")
    else (if bytes_eq w (codes "--load") then Some (codes "load")
    else (if bytes_eq w (codes "-e") then Some (codes "exec")
    else (if bytes_eq w (codes "--exec") then Some (codes "exec")
    else (if bytes_eq w (codes "-p") then Some (codes "load-panic")
    else (if bytes_eq w (codes "--load-panic") then Some (codes "load-panic") else None)))))

-- the option that does what an option of kexec(8) does
abbrev pub option_for : Text → Option Text
option_for w = if bytes_eq w (codes "-t") then Some (codes "--type")
    else (if bytes_eq w (codes "--append") then Some (codes "--command")
    else (if bytes_eq w (codes "--command-line") then Some (codes "--command")
    else (if bytes_eq w (codes "--ramdisk") then Some (codes "--initrd")
    else (if bytes_eq w (codes "--load-preserve-context") then Some (codes "--kept") else None))))

-- the type of kernels that a type of kexec(8) is
abbrev pub type_for : Text → Option Text
type_for w = if bytes_eq w (codes "bzImage") then Some (codes "bzimage")
    else (if bytes_eq w (codes "bzImage64") then Some (codes "bzimage")
    else (if bytes_eq w (codes "elf-x86_64") then Some (codes "elf")
    else (if bytes_eq w (codes "multiboot-x86") then Some (codes "multiboot") else None)))

-- the command whose usage line belongs to these words
abbrev pub meant_of : List Text → Text
meant_of [] = []
meant_of (word ∷ words) = unwrap_or (command_for word) word
