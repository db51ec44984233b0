-- What is known of the memory that a kernel is loaded into (this project's own).
-- No clause of `kexec` reaches what stands here: it serves laws, and contracts inside the crates.
use Rattle.std.specs.Prelude.{ℕ, Bool, false}
use Rattle.kx_pages.specs.Spans.{in_span}
use Rattle.kexec_plan.specs.declared.ground.Known.{Known}
use Rattle.kexec_plan.specs.declared.ground.Known.TheVariants as known
use Rattle.kexec_plan.specs.Ground.{Ground, Machine, Reserved, Unknown}

-- the program's as this value
abbrev pub ground_of : Known → Ground
ground_of known.Unknown = Unknown
ground_of (known.Machine map) = Machine map.now
ground_of (known.Reserved map area) = Reserved map.now area

-- the pages that are reserved
abbrev pub reserved_pages : Ground → ℕ → Bool
reserved_pages Unknown q = false
reserved_pages (Machine map) q = false
reserved_pages (Reserved map area) q = in_span area q
