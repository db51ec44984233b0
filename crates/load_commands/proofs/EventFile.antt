-- Stores of a file of events have at most a page.
use Rattle.std.proofs.Common.{◌≡◌, List, [], ◌∷◌, true, refl, arith}
use Rattle.std.specs.List.{AllByRecursion}
use Rattle.std.proofs.lemmas.Bool.Decides.{nat_tests}
use Rattle.kx_laws.proofs.Booleans.{and_parts}
use Rattle.image_slots.specs.declared.event.Event.{Event}
use Rattle.image_slots.specs.Events.{EventValue, Open, Add, Write, Install, Cancel, Unload, Store, Exec, Panic}
use Rattle.image_slots.specs.inner.Events.{HasFewBytes, event_of}
use Rattle.load_commands.specs.inner.ShortStores.{are_short, is_short}

short_one : (e : EventValue) → HasFewBytes e → is_short e ≡ true
short_one (Open caller kind) h = refl
short_one (Add caller segment) h = refl
short_one (Write caller) h = refl
short_one (Install caller) h = refl
short_one (Cancel caller) h = refl
short_one (Unload caller crash) h = refl
short_one (Store page bytes) h = grind (arith, nat_tests)
short_one (Exec caller) h = refl
short_one Panic h = refl

few_one : (e : EventValue) → is_short e ≡ true → HasFewBytes e
few_one (Open caller kind) t = tt
few_one (Add caller segment) t = tt
few_one (Write caller) t = tt
few_one (Install caller) t = tt
few_one (Cancel caller) t = tt
few_one (Unload caller crash) t = tt
few_one (Store page bytes) t = grind (arith, nat_tests)
few_one (Exec caller) t = tt
few_one Panic t = tt

pub all_short : (es : List Event) → AllByRecursion (λ e. HasFewBytes (event_of e)) es → are_short es ≡ true
all_short [] h = refl
all_short (e ∷ es) h = rw (short_one (event_of e) h.0) (all_short es h.1)

pub all_few : (es : List Event) → are_short es ≡ true → AllByRecursion (λ e. HasFewBytes (event_of e)) es
all_few [] t = tt
all_few (e ∷ es) t =
    let both = and_parts (is_short (event_of e)) (are_short es) t in
    (few_one (event_of e) both.0, all_few es both.1)
