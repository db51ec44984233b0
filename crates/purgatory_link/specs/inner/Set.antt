-- Symbols of a linked object, by their names, and bytes that are put in their place (this project's own).
-- No clause of `kexec` reaches what stands here: it serves laws, and contracts inside the crates.
use Rattle.std.specs.Prelude.{ℕ, ◌-◌, ◌==◌, not, List, length, Option, Some, None, Result, Ok, Err, if◌then◌else◌}
use Rattle.kx_fields.specs.Fields.{with_bytes}
use Rattle.purgatory_link.specs.declared.fault.LinkFault.{LinkFault}
use Rattle.purgatory_link.specs.declared.fault.LinkFault.TheVariants as faults
use Rattle.purgatory_link.specs.PurgatorySymbols.{symbol_called}
use Rattle.purgatory_link.specs.Sym.{Image}
use Rattle.purgatory_link.specs.Set.{symbol_of, is_inside}

-- the linked object with these bytes from the address on
abbrev pub with_symbol : Image → ℕ → List ℕ → Image
with_symbol l address bytes =
    record { base = l.base; bytes = with_bytes (address - l.base) bytes l.bytes; names = l.names }

-- the linked object with these bytes in place of the symbol of this name, which has this address and size
abbrev pub set_at : Image → List ℕ → List ℕ → Option (ℕ × ℕ) → Result Image LinkFault
set_at l name bytes None = Err (faults.NoSymbol (symbol_called name))
set_at l name bytes (Some s) =
    if not (length bytes == s.1) then Err (faults.WrongSize s.1)
    else if not (is_inside l s.0 s.1) then Err (faults.WrongSize s.1)
    else Ok (with_symbol l s.0 bytes)

-- with these bytes in place of the symbol of this name, or why it has none
unfoldable pub setting : Image → List ℕ → List ℕ → Result Image LinkFault
setting l name bytes = set_at l name bytes (symbol_of l.names name)
