-- The head of a record's file (this project's own): 96 bytes, all numbers little endian.
-- No clause of `kexec` reaches what stands here: it serves laws, and contracts inside the crates.
use Rattle.kx_fields.specs.inner.Formats.{Fits}
use Rattle.load_record.specs.declared.head.Head.{Head}
use Rattle.load_record.specs.Head.{head_format}

-- the numbers fit their fields
abbrev pub IsInRange : Head → Type 0
IsInRange h = Fits head_format h
