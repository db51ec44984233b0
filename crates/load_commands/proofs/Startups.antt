-- What a plan says of the start is what the record tells.
use Rattle.std.proofs.Common.{◌≡◌, ◌∙◌, ℕ, Bool, true, false, length, ap, arith, refl}
use Rattle.std.specs.Prelude.{◌==◌, ◌&&◌, Option, Some, None, if◌then◌else◌}
use Rattle.std.proofs.lemmas.Bool.Decides.{nat_tests}
use Rattle.kx_laws.proofs.Booleans.{and_parts}
use Rattle.kx_pages.specs.declared.image.Mode.TheVariants.{Plain}
use Rattle.segments.specs.Values.{pages}
use Rattle.kexec_plan.specs.Requests.{Plan}
use Rattle.load_commands.specs.declared.crash_loading.CrashKernel.{CrashKernel}
use Rattle.load_commands.specs.declared.loading.LoadedKernel.{LoadedKernel}
use Rattle.command_parts.specs.declared.startup.PurgatoryPlaces.{PurgatoryPlaces}
use Rattle.command_parts.specs.declared.startup.Startup.{Startup}
use Rattle.command_parts.specs.inner.Startups.{place_addresses, record_with}
use Rattle.load_commands.specs.inner.Views.{crash_record, kernel_record}
use Rattle.load_commands.specs.CrashInputs.{CrashInputs}
use Rattle.load_commands.specs.CrashLoading.{IsCrashLoaded}
use Rattle.load_commands.specs.Load.{record_of_load}
use Rattle.load_commands.specs.LoadPanic.{panic_text, record_of_crash}
use Rattle.load_commands.specs.Startup.{planned_startup}
use Rattle.command_parts.specs.Startup.{purgatory_places}
use Rattle.command_parts.specs.Texts.{crash_lines}

abbrev places_if : Bool → (regions digest : ℕ) → Option PurgatoryPlaces
places_if none regions digest = if none then None else Some (record { regions = regions; digest = digest })

zero_of : (n : ℕ) → (n == 0) ≡ true → 0 ≡ n
zero_of n e = grind (arith, nat_tests, e)

-- the addresses of the places at two addresses are these
back_if : (none : Bool) (regions digest : ℕ) → ((regions == 0) && (digest == 0)) ≡ none → place_addresses (places_if none regions digest) ≡ (regions, digest)
back_if true regions digest e =
    let both = and_parts (regions == 0) (digest == 0) e in
    let table : 0 ≡ regions = zero_of regions both.0 in
    let sum : 0 ≡ digest = zero_of digest both.1 in
    λ i. (table i, sum i)
back_if false regions digest e = refl

addresses_back : (regions digest : ℕ) → place_addresses (purgatory_places regions digest) ≡ (regions, digest)
addresses_back regions digest = back_if ((regions == 0) && (digest == 0)) regions digest refl

pub kernel_recorded : (k : LoadedKernel) (p : Plan) → k.startup ≡ planned_startup p → kernel_record k ≡ record_of_load k.loaded p
kernel_recorded k p e =
    ap (λ s. record_with s false k.loaded.image k.loaded.segments) e
    ∙ ap (λ (a : ℕ × ℕ). record { crash = false; image = k.loaded.image; start = p.start; regions = a.0; digest = a.1; segments = k.loaded.segments }) (addresses_back p.regions p.digest)

pub crash_recorded : (k : CrashKernel) (p : Plan) → k.startup ≡ planned_startup p → crash_record k ≡ record_of_crash k.loaded p
crash_recorded k p e =
    ap (λ s. record_with s true (record { head = k.loaded.head; mode = Plain; control = 0 }) k.loaded.segments) e
    ∙ ap (λ (a : ℕ × ℕ). record { crash = true; image = record { head = k.loaded.head; mode = Plain; control = 0 }; start = p.start; regions = a.0; digest = a.1; segments = k.loaded.segments }) (addresses_back p.regions p.digest)

-- what is said of a crash kernel is what its plan says
pub panic_said : (i : CrashInputs) (k : CrashKernel) (p : Plan) → k.startup ≡ planned_startup p → IsCrashLoaded i p k.loaded → crash_lines (length (pages k.loaded.segments)) k.startup.start ≡ panic_text p
panic_said i k p e l =
    ap (λ (s : Startup). crash_lines (length (pages k.loaded.segments)) s.start) e
    ∙ ap (λ ss. crash_lines (length (pages ss)) p.start) l.segments
