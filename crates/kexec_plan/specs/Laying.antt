-- The parts of a plan, placed one after another (this project's own).
use Rattle.std.specs.Prelude.{ℕ, ◌+◌, ◌++◌, Bool, List, [], ◌∷◌, length, Option, Some, Result, Ok, Err}
use Rattle.std.specs.Option.{option_or}
use Rattle.kx_laws.specs.Results.{◌>>=◌}
use Rattle.kx_pages.specs.declared.image.Start.{Start}
use Rattle.segments.specs.Values.{SegmentValue}
use Rattle.memory_map.specs.declared.row.Row.{Row}
use Rattle.memory_map.specs.Maps.{MapValue, core_ranges}
use Rattle.bzimage.specs.Kernel.{Kernel}
use Rattle.boot_params.specs.Params.{params}
use Rattle.crash_headers.specs.declared.note.Note.{Note}
use Rattle.crash_headers.specs.Headers.{headers_or_fault}
use Rattle.multiboot_image.specs.Info.{info}
use Rattle.multiboot_image.specs.Modules.{PlacedModule}
use Rattle.plan_faults.specs.declared.fault.PlanFault.{PlanFault}
use Rattle.kexec_plan.specs.declared.places.PlaceRule.{PlaceRule}
use Rattle.kexec_plan.specs.declared.places.Site.{Site}
use Rattle.kexec_plan.specs.Modules.{AskedModule}
use Rattle.plan_faults.specs.Faults.{told_by, of_params, of_crash}
use Rattle.kexec_plan.specs.Command.{told_command}
use Rattle.kexec_plan.specs.Parts.{segment_at}
use Rattle.kexec_plan.specs.Places.{place, taking}
use Rattle.kexec_plan.specs.Table.{parameters_rule, module_rule, information_rule}

-- a part that needs a place: a bzImage's protected-mode part, its initrd, the crash headers, the boot parameters, a module of
-- a Multiboot kernel, its information
pub data PlanPart : Type 0 where
  Image : PlaceRule → List ℕ → PlanPart
  Initrd : PlaceRule → List ℕ → PlanPart
  Headers : PlaceRule → MapValue → List Note → PlanPart
  Parameters : Kernel → List Row → PlanPart
  Module : AskedModule → PlanPart
  Information : List Row → PlanPart

-- what is laid so far: the pages that are taken, the segments, why the bytes of a part cannot be made, and what the
-- parts behind and the kernel's start are told
pub record Laid : Type 0 where
  pub taken : ℕ → Bool
  pub list : List SegmentValue
  pub fault : Option PlanFault
  pub command : List ℕ
  pub initrd : Option (ℕ × ℕ)
  pub slots : List PlacedModule
  pub start : Start

-- the rule of a part's place
abbrev pub rule_of : PlanPart → Laid → PlaceRule
rule_of (Image rule bytes) l = rule
rule_of (Initrd rule bytes) l = rule
rule_of (Headers rule map notes) l = rule
rule_of (Parameters k rows) l = parameters_rule k rows l.command
rule_of (Module m) l = module_rule m
rule_of (Information rows) l = information_rule rows l.command l.slots

-- what is told of a part at its place. A bzImage is entered 0x200 bytes behind its start, with the address of the boot
-- parameters in rsi (Linux/x86 boot protocol, "64-bit Boot Protocol"); a Multiboot kernel finds 0x2badb002 in eax and the
-- address of the information in ebx (Multiboot Specification 0.6.96, 3.2).
abbrev pub tell : PlanPart → Site → Laid → Laid
tell (Image rule bytes) s l = record l { start = record l.start { entry = s.at + 0x200 } }
tell (Initrd rule bytes) s l = record l { initrd = Some (s.at, length bytes) }
tell (Headers rule map notes) s l = record l { command = told_command l.command s.at }
tell (Parameters k rows) s l = record l { start = record l.start { rsi = s.at } }
tell (Module m) s l = record l {
  slots = l.slots ++ record { start = s.at; size = length m.bytes; text = m.text } ∷ [];
}
tell (Information rows) s l = record l {
  start = record l.start { rax = 0x2badb002; rbx = s.at };
}

-- the bytes of a part at its place, or why they cannot be made
abbrev pub bytes_of : PlanPart → Site → Laid → Result (List ℕ) PlanFault
bytes_of (Image rule bytes) s l = Ok bytes
bytes_of (Initrd rule bytes) s l = Ok bytes
bytes_of (Headers rule map notes) s l = told_by of_crash (headers_or_fault notes (core_ranges map))
bytes_of (Parameters k rows) s l = told_by of_params (params k rows l.command s.at l.initrd)
bytes_of (Module m) s l = Ok m.bytes
bytes_of (Information rows) s l = Ok (info s.at rows l.command l.slots)

-- a segment more; or the first reason why there is none
abbrev pub push : Laid → Site → Result (List ℕ) PlanFault → Laid
push l s (Ok bytes) = record l { list = l.list ++ segment_at s bytes ∷ [] }
push l s (Err e) = record l { fault = option_or l.fault (Some e) }

-- one part more, in RAM that is not taken
unfoldable pub place_part : (ℕ → Bool) → Laid → PlanPart → Result Laid PlanFault
place_part ram l p = do
  s ← place ram l.taken (rule_of p l)
  let told = tell p s (record l { taken = taking l.taken s })
  Ok (push told s (bytes_of p s told))

-- and these parts, one after another
unfoldable pub place_parts : (ℕ → Bool) → Laid → List PlanPart → Result Laid PlanFault
place_parts ram l [] = Ok l
place_parts ram l (p ∷ ps) = do
  more ← place_part ram l p
  place_parts ram more ps
