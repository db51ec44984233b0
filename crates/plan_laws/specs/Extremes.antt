-- Which address each part of a Linux or a Multiboot kernel takes, of those at which it fits: a Linux kernel itself the least,
-- and every other part the greatest (this project's own; the limits are those of the Linux/x86 boot protocol, "The Real-Mode
-- Kernel Header"). Places count bytes from the start of the kernel's file.
use Rattle.std.specs.Prelude.{◌≡◌, ℕ, ◌+◌, ◌-◌, ◌/◌, ◌%◌, ◌^◌, ◌≤◌, ◌++◌, Bool, false, true, if◌then◌else◌, List, [], ◌∷◌, map, max, Option, Some, None, Ok}
use Rattle.kx_fields.specs.Fields.{field}
use Rattle.kx_pages.specs.Spans.{Run, in_span}
use Rattle.memory_map.specs.Maps.{MapValue, is_ram, reserved_area}
use Rattle.segments.specs.Values.{SegmentValue}
use Rattle.bzimage.specs.Kernel.{has_bit}
use Rattle.kexec_plan.specs.Plan.{plan}
use Rattle.kexec_plan.specs.Requests.{Asked, Plan}
use Rattle.plan_laws.specs.Linux.{IsLinux}
use Rattle.plan_laws.specs.Multiboot.{IsLoadedMultiboot, IsMultiboot}
use Rattle.plan_laws.specs.Places.{IsIn, IsOne}

-- where a part may lie: at a multiple of align, not below low, its last byte not above high
pub record Limits : Type 0 where
  pub align : ℕ
  pub low : ℕ
  pub high : ℕ

-- page q is one that the new kernel may take: RAM of the map, of which a crash kernel has the reserved area alone
abbrev pub MayTake : (crash : Bool) → MapValue → ℕ → Type 0
MayTake false m q = is_ram m q ≡ true
MayTake true m q = (area : Run) × (reserved_area m ≡ Some area) × (in_span area q ≡ true)

-- page q has an address of one of these segments
abbrev pub IsMet : List SegmentValue → ℕ → Type 0
IsMet ss q = (s : SegmentValue) × (a : ℕ) × IsOne s ss × IsIn a s × (a / 4096 ≡ q)

-- n bytes fit at address a within the limits: each of their pages may be taken, and has no address of these segments
pub record FitsAt (crash : Bool) (m : MapValue) (before : List SegmentValue) (l : Limits) (n a : ℕ)
    : Type 0 where
  pub aligned : a % l.align ≡ 0
  pub above : l.low ≤ a
  pub below : a + n - 1 ≤ l.high
  pub may_take : (q : ℕ) → a / 4096 ≤ q → q ≤ (a + n - 1) / 4096 → MayTake crash m q
  pub apart : (q : ℕ) → a / 4096 ≤ q → q ≤ (a + n - 1) / 4096 → IsMet before q → ⊥

-- the segment lies at the least address at which it fits beside these
abbrev pub LiesLowest : (crash : Bool) → MapValue → (before : List SegmentValue) → Limits
    → SegmentValue → Type 0
LiesLowest crash m before l s =
    FitsAt crash m before l s.memsz s.mem
    × ((a : ℕ) → FitsAt crash m before l s.memsz a → s.mem ≤ a)

-- at the greatest one
abbrev pub LiesHighest : (crash : Bool) → MapValue → (before : List SegmentValue) → Limits
    → SegmentValue → Type 0
LiesHighest crash m before l s =
    FitsAt crash m before l s.memsz s.mem
    × ((a : ℕ) → FitsAt crash m before l s.memsz a → a ≤ s.mem)

-- each of these segments in turn lies at the greatest address at which it fits beside all before it
abbrev pub LieHighest : (crash : Bool) → MapValue → (before : List SegmentValue) → List Limits
    → List SegmentValue → Type 0
LieHighest crash m before [] [] = Unit {0}
LieHighest crash m before [] (s ∷ ss) = ⊥
LieHighest crash m before (l ∷ ls) [] = ⊥
LieHighest crash m before (l ∷ ls) (s ∷ ss) =
    LiesHighest crash m before l s × LieHighest crash m (before ++ s ∷ []) ls ss

-- whole pages, the last byte not above this address
abbrev pub up_to : ℕ → Limits
up_to high = record { align = 4096; low = 0; high = high }

-- the kernel may lie above 4 GiB: bit 1 of xloadflags, XLF_CAN_BE_LOADED_ABOVE_4G
abbrev pub may_lie_above_4g : List ℕ → Bool
may_lie_above_4g file = has_bit 1 (field 0x236 2 file)

-- the last address of its parts
abbrev pub last_of : List ℕ → ℕ
last_of file = if may_lie_above_4g file then 2 ^ 46 - 1 else 2 ^ 32 - 1

-- the kernel itself: kernel_alignment; pref_address, and 1 MiB
abbrev pub kernel_limits : List ℕ → Limits
kernel_limits file = record {
  align = field 0x230 4 file;
  low = max (field 0x258 8 file) 0x100000;
  high = last_of file;
}

-- its initrd, if there is one: initrd_addr_max, which counts for kernels below 4 GiB alone
abbrev pub initrd_limits : List ℕ → Option (List ℕ) → List Limits
initrd_limits file None = []
initrd_limits file (Some initrd) =
    up_to (if may_lie_above_4g file then 2 ^ 46 - 1 else field 0x22c 4 file) ∷ []

-- the headers of a crash kernel
abbrev pub headers_limits : (crash : Bool) → List ℕ → List Limits
headers_limits false file = []
headers_limits true file = up_to (last_of file) ∷ []

-- the purgatory, if there is one: below 2 GiB, and that of a crash kernel below 4 GiB, or where it may lie above them a page
-- below the limit of addresses
abbrev pub purgatory_limits : (crash : Bool) → List ℕ → Option (List ℕ) → List Limits
purgatory_limits crash file None = []
purgatory_limits false file (Some purgatory) = up_to (2 ^ 31 - 1) ∷ []
purgatory_limits true file (Some purgatory) =
    up_to (if may_lie_above_4g file then 2 ^ 46 - 4097 else 2 ^ 32 - 1) ∷ []

-- the parts beside the kernel itself, in their order: initrd, crash headers, boot parameters, purgatory
abbrev pub other_limits : Asked → List Limits
other_limits r =
    (initrd_limits r.kernel r.initrd
    ++ (headers_limits r.crash r.kernel ++ (up_to (last_of r.kernel) ∷ [])))
    ++ purgatory_limits r.crash r.kernel r.purgatory

-- The first segment, the kernel itself, lies at the least address at which it fits. Each of the others in turn, which are its
-- initrd, its crash headers, its boot parameters and its purgatory, lies at the greatest.
pub record LinuxLies (r : Asked) (m : MapValue) (p : Plan) : Type 0 where
  pub kernel : SegmentValue
  pub others : List SegmentValue
  pub segments : p.segments ≡ kernel ∷ others
  pub lowest : LiesLowest r.crash m [] (kernel_limits r.kernel) kernel
  pub highest : LieHighest r.crash m (kernel ∷ []) (other_limits r) others

-- A Linux kernel, a crash kernel too, is planned so.
abbrev pub LinuxLiesAtTheEnds : Type 0
LinuxLiesAtTheEnds =
    (r : Asked) (m : MapValue) (p : Plan) → IsLinux r → plan r (Some m) ≡ Ok p → LinuxLies r m p

-- the parts of a Multiboot kernel beside the kernel itself, in their order: its modules, the address behind whose last page
-- is below 4 GiB; its information, below 4 GiB; its purgatory
abbrev pub multiboot_limits : Asked → List Limits
multiboot_limits r =
    (map (λ module_. up_to (2 ^ 32 - 4097)) r.modules ++ (up_to (2 ^ 32 - 1) ∷ []))
    ++ purgatory_limits r.crash r.kernel r.purgatory

-- The first segments have the places that the file gives. Each of the others in turn, which are its modules, its information
-- and its purgatory, lies at the greatest address at which it fits.
pub record MultibootLies (r : Asked) (m : MapValue) (p : Plan) : Type 0 where
  pub entry : ℕ
  pub given : List SegmentValue
  pub others : List SegmentValue
  pub segments : p.segments ≡ given ++ others
  pub kernel : IsLoadedMultiboot r.kernel entry given
  pub highest : LieHighest r.crash m given (multiboot_limits r) others

-- A Multiboot kernel is planned so.
abbrev pub MultibootLiesAtTheEnds : Type 0
MultibootLiesAtTheEnds =
    (r : Asked) (m : MapValue) (p : Plan) → r.crash ≡ false → IsMultiboot r
    → plan r (Some m) ≡ Ok p → MultibootLies r m p
