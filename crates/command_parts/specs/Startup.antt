-- How a new kernel starts: its entry and registers, and where its purgatory's region table and digest lie (this project's
-- own).
use Rattle.std.specs.Prelude.{ℕ, ◌==◌, ◌&&◌, Option, Some, None, if◌then◌else◌}
use Rattle.load_record.specs.File.{Record}
use Rattle.command_parts.specs.declared.startup.PurgatoryPlaces.{PurgatoryPlaces}
use Rattle.command_parts.specs.declared.startup.Startup.{Startup}

-- the places of these addresses, which both are 0 without a purgatory
abbrev pub purgatory_places : (regions digest : ℕ) → Option PurgatoryPlaces
purgatory_places regions digest =
    if (regions == 0) && (digest == 0) then None
    else Some (record { regions = regions; digest = digest })

-- as a load record says
abbrev pub recorded_startup : Record → Startup
recorded_startup r =
    record { start = r.start; purgatory = purgatory_places r.regions r.digest }
