-- The parts of a plan, placed one after another (this project's own).
-- No clause of `kexec` reaches what stands here: it serves laws, and contracts inside the crates.
use Rattle.std.specs.Prelude.{◌+◌, ◌^◌, ◌<◌, ◌≤◌, List, length}
use Rattle.std.specs.List.{AllByRecursion}
use Rattle.kx_pages.specs.Spans.{in_spans}
use Rattle.multiboot_image.specs.Modules.{PlacedModule}
use Rattle.multiboot_image.specs.inner.Info.{IsInReach}
use Rattle.kexec_plan.specs.declared.places.PlaceRule.{PlaceRule}
use Rattle.kexec_plan.specs.declared.places.Site.{Site}
use Rattle.kexec_plan.specs.declared.laying.Laying.{Laying}
use Rattle.kexec_plan.specs.declared.parts.PlanPart.{PlanPart as Made}
use Rattle.kexec_plan.specs.declared.parts.PlanPart.TheVariants as made
use Rattle.kexec_plan.specs.Laying.{PlanPart, Image, Initrd, Headers, Parameters, Module, Information, Laid}

-- the program's as these values
abbrev pub part_of : Made → PlanPart
part_of (made.Image rule bytes) = Image rule bytes.items
part_of (made.Initrd rule bytes) = Initrd rule bytes.items
part_of (made.Headers rule map notes) = Headers rule map.now notes.items
part_of (made.Parameters image rows) = Parameters image rows.now
part_of (made.Module m) = Module m
part_of (made.Information rows) = Information rows.now

abbrev pub laid_of : Laying → Laid
laid_of l = record {
  taken = in_spans l.taken;
  list = l.list.items;
  fault = l.fault;
  command = l.command.items;
  initrd = l.initrd;
  slots = l.slots.items;
  start = l.start;
}

-- what is so of each part
pub record HasAlign (r : PlaceRule) : Type 0 where
  pub some : 0 < r.align
  pub most : r.align ≤ 2 ^ 45

abbrev pub IsPart : PlanPart → Type 0
IsPart (Image rule bytes) = HasAlign rule
IsPart (Initrd rule bytes) = HasAlign rule
IsPart (Headers rule map notes) = HasAlign rule
IsPart (Parameters k rows) = length k.header ≤ 159
IsPart (Module m) = Unit {0}
IsPart (Information rows) = Unit {0}

abbrev pub AreParts : List Made → Type 0
AreParts ps = AllByRecursion (λ p. IsPart (part_of p)) ps

-- the modules end below 4 GiB
pub record EndsLow (m : PlacedModule) : Type 0 where
  pub low : m.start + m.size < 2 ^ 32

abbrev pub EndLow : List PlacedModule → Type 0
EndLow ms = AllByRecursion EndsLow ms

-- the bytes of a part that lies here can be made
abbrev pub CanMake : PlanPart → Site → Laid → Type 0
CanMake (Image rule bytes) s l = Unit {0}
CanMake (Initrd rule bytes) s l = Unit {0}
CanMake (Headers rule map notes) s l = Unit {0}
CanMake (Parameters k rows) s l = (length k.header ≤ 159) × (s.at + 4096 < 2 ^ 46)
CanMake (Module m) s l = Unit {0}
CanMake (Information rows) s l = IsInReach s.at rows l.command l.slots
