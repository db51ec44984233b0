-- The purgatory: code that runs between the old kernel and the new one. It finds the registers of the new kernel, the
-- regions that it tests and their digest in three symbols, and starts at a fourth (names, sizes and the
-- order of the registers are those of Linux's own purgatory, arch/x86/purgatory).
use Rattle.std.specs.Prelude.{ℕ, ◌-◌, ◌==◌, not, List, [], ◌∷◌, codes, if◌then◌else◌, Option, Some, None, Result, Ok, Err}
use Rattle.kx_laws.specs.Results.{◌>>=◌}
use Rattle.kx_fields.specs.Fields.{zeros, with_bytes}
use Rattle.kx_fields.specs.Formats.{Format, written}
use Rattle.kx_pages.specs.declared.image.Start.{Start}
use Rattle.elf_image.specs.Object.{Relocatable, object_reading}
use Rattle.purgatory_link.specs.declared.fault.LinkFault.{LinkFault}
use Rattle.purgatory_link.specs.declared.fault.LinkFault.TheVariants as link
use Rattle.purgatory_link.specs.Layout.{linked_size}
use Rattle.purgatory_link.specs.Link.{linking}
use Rattle.purgatory_link.specs.PurgatorySymbols.{symbol_called}
use Rattle.purgatory_link.specs.Sym.{Image}
use Rattle.purgatory_link.specs.Set.{symbol_of, is_inside}
use Rattle.plan_faults.specs.declared.fault.Part.TheVariants as parts
use Rattle.plan_faults.specs.declared.fault.PlanFault.{PlanFault}
use Rattle.kexec_plan.specs.declared.places.Site.{Site}
use Rattle.kexec_plan.specs.declared.places.PlaceRule.{PlaceRule}
use Rattle.kexec_plan.specs.declared.symbols.Symbols.{Symbols}
use Rattle.plan_faults.specs.Faults.{told_by, of_object, of_link}
use Rattle.kexec_plan.specs.Table.{highest}

-- a purgatory that was read: the object, its file, and how many bytes it is linked to
pub record PurgatoryValue : Type 0 where
  pub object : Relocatable
  pub file : List ℕ
  pub size : ℕ

unfoldable pub read_purgatory : List ℕ → Result PurgatoryValue PlanFault
read_purgatory file = do
  object ← told_by of_object (object_reading file)
  size ← told_by of_link (linked_size object.sections)
  Ok (record { object = object; file = file; size = size })

unfoldable pub some_purgatory : Option (List ℕ) → Result (Option PurgatoryValue) PlanFault
some_purgatory None = Ok None
some_purgatory (Some file) = do
  p ← read_purgatory file
  Ok (Some p)

abbrev pub purgatory_rule : ℕ → PurgatoryValue → PlaceRule
purgatory_rule most p = highest parts.Purgatory p.size most

-- the address of the symbol of this name, which has n bytes that lie in the linked bytes
abbrev pub place_by : Image → List ℕ → ℕ → Option (ℕ × ℕ) → Result ℕ LinkFault
place_by l name n None = Err (link.NoSymbol (symbol_called name))
place_by l name n (Some s) =
    if not (n == s.1) then Err (link.WrongSize s.1)
    else if not (is_inside l s.0 s.1) then Err (link.WrongSize s.1)
    else Ok s.0

unfoldable pub symbol_place : Image → List ℕ → ℕ → Result ℕ LinkFault
symbol_place l name n = place_by l name n (symbol_of l.names name)

-- the address of the symbol of this name, of any size
abbrev pub address_by : List ℕ → Option (ℕ × ℕ) → Result ℕ LinkFault
address_by name None = Err (link.NoSymbol (symbol_called name))
address_by name (Some s) = Ok s.0

unfoldable pub symbol_address : Image → List ℕ → Result ℕ LinkFault
symbol_address l name = address_by name (symbol_of l.names name)

-- the symbols of a purgatory: the registers, the table of regions, the digest, and the start
unfoldable pub symbols_of : Image → Result Symbols LinkFault
symbols_of l = do
  regs ← symbol_place l (codes "entry64_regs") 136
  regions ← symbol_place l (codes "purgatory_sha_regions") 256
  digest ← symbol_place l (codes "purgatory_sha256_digest") 32
  start ← symbol_address l (codes "purgatory_start")
  Ok (record { regs = regs; regions = regions; digest = digest; start = start })

-- a linked purgatory
pub record Linkage : Type 0 where
  pub base : ℕ
  pub bytes : List ℕ
  pub symbols : Symbols

unfoldable pub linked_at : PurgatoryValue → Site → Result Linkage PlanFault
linked_at p s = do
  image ← told_by of_link (linking s.at p.object p.file)
  symbols ← told_by of_link (symbols_of image)
  Ok (record { base = image.base; bytes = image.bytes; symbols = symbols })

-- the registers of the new kernel: rax, rcx, rdx, rbx, rsp, rbp, rsi, rdi, r8 to r15 and rip, 8 bytes each
abbrev pub registers : Format Start
registers = record {
  layout = λ at. record { rax = at 0 8; rbx = at 24 8; rsi = at 48 8; entry = at 128 8 };
  numbers = λ s. s.rax ∷ s.rbx ∷ s.rsi ∷ s.entry ∷ [];
}

unfoldable pub registers_text : Start → List ℕ
registers_text s = written registers s (zeros 136)

-- the bytes with these registers, this table of regions and this digest in place of the symbols, in this order
unfoldable pub arm : Linkage → Start → List ℕ → List ℕ → List ℕ
arm l start table digest =
    with_bytes (l.symbols.digest - l.base) digest (
    with_bytes (l.symbols.regions - l.base) table (
    with_bytes (l.symbols.regs - l.base) (registers_text start) l.bytes))
