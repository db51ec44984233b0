-- Planning a request and loading its segments (this project's own).
use Rattle.std.specs.Prelude.{◌≡◌, ℕ, ◌≤◌, ◌<◌, List, length, Option, Ok, Err}
use Rattle.kx_pages.specs.declared.image.Wish.{Wish}
use Rattle.page_memory.specs.Contents.{at}
use Rattle.segments.specs.Values.{SegmentValue, need}
use Rattle.memory_map.specs.Maps.{MapValue}
use Rattle.load_states.specs.Fillings.{IsSealed}
use Rattle.load_states.specs.States.{Load}
use Rattle.kexec_plan.specs.Requests.{Asked, Plan}
use Rattle.kexec_plan.specs.Plan.{plan}
use Rattle.command_parts.specs.declared.reason.Reason.{Reason}
use Rattle.command_parts.specs.declared.reason.Reason.TheVariants as reasons
use Rattle.load_commands.specs.Inputs.{LoadInputs}

-- the request has no plan, for this reason
abbrev pub HasNoPlan : Asked → Option MapValue → Reason → Type 0
HasNoPlan request map (reasons.Plan fault) = plan request map ≡ Err fault
HasNoPlan request map other = ⊥

-- these usable pages of the pool are fewer than the load of the segments takes: both numbers are the reason
abbrev pub IsTooFew : List ℕ → Wish → List SegmentValue → Reason → Type 0
IsTooFew usable wish ss (reasons.NoPages left n) =
    (left ≡ length usable) × (n ≡ need wish ss) × (left < n)
IsTooFew usable wish ss other = ⊥

-- The request has this plan, the usable pages suffice, and this is the load that the rules of taking pages and laying a
-- list give.
pub record IsLoaded (wish : Wish) (i : LoadInputs) (p : Plan) (load : Load) : Type 0 where
  pub planned : plan i.request i.map ≡ Ok p
  pub enough : need wish p.segments ≤ length i.usable
  pub laid : IsSealed (at i.memory) i.usable wish p.segments load

-- a refusal of the plan, or of the load for its pages
abbrev pub RefusesLoad : Wish → LoadInputs → Reason → Type 0
RefusesLoad wish i (reasons.NoPages left n) =
    (p : Plan) × (plan i.request i.map ≡ Ok p)
    × IsTooFew i.usable wish p.segments (reasons.NoPages left n)
RefusesLoad wish i why = HasNoPlan i.request i.map why
