-- How the kernel of a plan starts (this project's own).
use Rattle.kexec_plan.specs.Requests.{Plan}
use Rattle.command_parts.specs.declared.startup.Startup.{Startup}
use Rattle.command_parts.specs.Startup.{purgatory_places}

-- as a plan says
abbrev pub planned_startup : Plan → Startup
planned_startup p =
    record { start = p.start; purgatory = purgatory_places p.regions p.digest }
