-- The usable pages of a pool; a pool with too few of them refuses a load.
use Rattle.std.proofs.Common.{◌≡◌, ◌∙◌, ℕ, List, [], Ok, ap}
use Rattle.std.specs.List.{filter}
use Rattle.page_pool.specs.Pages.{Pages, is_usable, usable_among, usable_of}
use Rattle.page_pool.proofs.Left.{usable_undrawn}
use Rattle.kx_pages.specs.declared.image.Wish.{Wish}
use Rattle.kexec_plan.specs.Plan.{plan}
use Rattle.kexec_plan.specs.Requests.{Plan}
use Rattle.command_parts.specs.declared.reason.Reason.{Reason}
use Rattle.command_parts.specs.declared.reason.Reason.TheVariants as reasons
use Rattle.load_commands.specs.Inputs.{LoadInputs}
use Rattle.load_commands.specs.Loading.{IsTooFew, RefusesLoad}

pub too_few_refuses : (wish : Wish) (i : LoadInputs) (p : Plan) → plan i.request i.map ≡ Ok p → (why : Reason) → IsTooFew i.usable wish p.segments why → RefusesLoad wish i why
too_few_refuses wish i p planned (reasons.NoPages left n) h = (p, planned, h)
too_few_refuses wish i p planned other h = absurd h

-- of a pool of which nothing is drawn, the pages below the limit are usable
pub usable_with : (v : Pages) (limit : ℕ) → v.drawn ≡ [] → v.limit ≡ limit → usable_of v ≡ filter (is_usable limit) v.made
usable_with v limit drawn same =
    ap (λ (ds : List ℕ). usable_among v.limit v.made ds) drawn ∙ usable_undrawn v.limit v.made ∙ ap (λ l. filter (is_usable l) v.made) same

-- so are they where a limit was set
pub usable_limited : (v w : Pages) (limit : ℕ) → v.drawn ≡ [] → w ≡ record v { limit = limit } → usable_of w ≡ filter (is_usable limit) v.made
usable_limited v w limit drawn e = ap usable_of e ∙ ap (λ (ds : List ℕ). usable_among limit v.made ds) drawn ∙ usable_undrawn limit v.made
