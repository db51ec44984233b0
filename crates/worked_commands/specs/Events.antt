-- Events of two callers over a machine with 1 MiB of RAM, for `drill` (this project's own).
use Rattle.std.specs.Prelude.{ℕ, ◌++◌, List, [], ◌∷◌, Result, codes}
use Rattle.kx_pages.specs.Spans.{Run}
use Rattle.kx_pages.specs.declared.image.Wish.TheVariants as wishes
use Rattle.memory_map.specs.Maps.{MapValue}
use Rattle.segments.specs.Values.{SegmentValue}
use Rattle.image_slots.specs.declared.event.LoadKind.TheVariants as kinds
use Rattle.image_slots.specs.Events.{EventValue, Open, Add, Write, Install, Store, Exec}
use Rattle.file_commands.specs.Taking.{Refusal}
use Rattle.load_commands.specs.Drill.{DrillInputs, drill_entry}
use Rattle.command_parts.specs.Outputs.{Made}
use Rattle.command_parts.specs.declared.reason.Reason.{Reason}
use Rattle.worked_commands.specs.Names.{drill_events}
use Rattle.worked_commands.specs.Texts.{no_memory}

-- these bytes in the page at this address
abbrev pub page_at : (address : ℕ) → List ℕ → SegmentValue
page_at address bytes = record { bytes = bytes; mem = address; memsz = 0x1000 }

-- caller 1 loads, caller 2 comes too early, a store meets the list, and another one the destination
abbrev pub first_events : List EventValue
first_events =
    Open 1 (kinds.Normal wishes.Plain) ∷ Open 2 kinds.Crash ∷ Add 1 (page_at 0x2000 (codes "a"))
    ∷ Write 1 ∷ Store 0x12 (0xff ∷ [])
    ∷ Store 2 (0xff ∷ []) ∷ Install 1 ∷ Open 2 kinds.Crash ∷ Exec 1 ∷ Exec 1 ∷ []

-- 1 MiB of RAM, and the same with an area of two pages from page 11 on that is reserved
abbrev pub small_ram : MapValue
small_ram = record { rows = record { start = 0; size = 0x100000; kind = 1 } ∷ []; areas = [] }

abbrev pub reserved_ram : MapValue
reserved_ram = record small_ram { areas = record { start = 0x11000; size = 0x2000; kind = 0 } ∷ [] }

abbrev pub small_runs : List Run
small_runs = record { first = 0; count = 0x100 } ∷ []

-- what `drill` took, with this pool and map
abbrev pub drill_of : List ℕ → MapValue → List EventValue → DrillInputs
drill_of pool map events =
    record { memory = no_memory; pool = pool; map = map; events = events }

-- what drill m p o e --map t makes of it without events
abbrev pub drill_makes : List ℕ → MapValue → Result Made (Refusal Reason) → Type 0
drill_makes pool map = (drill_entry drill_events).command.makes (drill_of pool map [])

-- the reply to each of them
abbrev pub first_replies : List ℕ
first_replies =
    codes "1 done\n2 busy 1\n3 done\n4 done\n5 touched 12\n6 done\n7 done\n8 no-area\n"
    ++ codes "9 done\n10 gone\n"
