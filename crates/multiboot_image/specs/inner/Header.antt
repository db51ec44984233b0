-- The Multiboot header (Multiboot Specification 0.6.96, sections 3.1.1 to 3.1.3).
-- No clause of `kexec` reaches what stands here: it serves laws, and contracts inside the crates.
use Rattle.std.specs.Prelude.{ℕ, ◌+◌, ◌&&◌, List, length, nat_le, if◌then◌else◌, Option, Some, None}
use Rattle.multiboot_image.specs.declared.header.Head.{Head}
use Rattle.multiboot_image.specs.Header.{is_head, head_at}

abbrev pub head_in : List ℕ → ℕ → Option Head
head_in bytes at =
    if nat_le (at + 12) (length bytes) && is_head (head_at bytes at) then Some (head_at bytes at)
    else None
