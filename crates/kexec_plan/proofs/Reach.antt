-- The information of a Multiboot kernel lies below 4 GiB, with all addresses that it tells.
use Rattle.std.proofs.Common.{◌≡◌, ℕ, ◌+◌, ◌-◌, ◌^◌, ◌≤◌, List, [], ◌∷◌, length, arith, length-append}
use Rattle.std.specs.Prelude.{min}
use Rattle.memory_map.specs.declared.row.Row.{Row}
use Rattle.multiboot_image.specs.Modules.{PlacedModule, with_nul, texts, texts_size}
use Rattle.multiboot_image.specs.inner.Modules.{AreBelow}
use Rattle.multiboot_image.specs.Info.{info_size, name_place}
use Rattle.multiboot_image.specs.inner.Info.{IsInReach}
use Rattle.kexec_plan.specs.declared.places.Site.{Site}
use Rattle.kexec_plan.specs.Parts.{part_size}
use Rattle.kexec_plan.specs.inner.Places.{IsPlacedBy}
use Rattle.kexec_plan.specs.Table.{information_rule}
use Rattle.kexec_plan.specs.inner.Laying.{EndLow}

-- texts that end at 4 GiB or before it begin below
below : (text : ℕ) (ms : List PlacedModule) → EndLow ms → text + texts_size ms ≤ 2 ^ 32 → AreBelow text ms
below text [] low h = tt
below text (m ∷ ms) low h =
    let a = length-append (with_nul m.text) (texts ms) in
    let b = length-append m.text (0 ∷ []) in
    let first = low.0.low in
    (first, omega (arith, a, b, h), below (text + length m.text + 1) ms low.1 (omega (arith, a, b, h)))

-- a size that fits below 4 GiB is that of the information
whole : (n size at : ℕ) → size ≡ part_size (min (2 ^ 64 - 1) n) → at + size ≤ 2 ^ 32 → at + n ≤ 2 ^ 32
whole n size at e h = omega (arith, e, h)

pub in_reach : (rows : List Row) (command : List ℕ) (slots : List PlacedModule) (s : Site) → EndLow slots → IsPlacedBy (information_rule rows command slots) s → IsInReach s.at rows command slots
in_reach rows command slots s low place =
    let within = place.within in
    let w = whole (info_size (length rows) (length command) slots) s.size s.at place.size (omega (arith, within)) in
    record {
      name = omega (arith, w);
      table = below (name_place s.at (length rows) (length slots) (length command) + 6) slots low (omega (arith, w));
    }
