-- Which crash lists are accepted, and their first fault, which is at the head (this project's own).
use Rattle.std.specs.Prelude.{◌≡◌, ℕ, ◌%◌, ◌^◌, true, Bool, not, leb, List, [], ◌∷◌, map, Option, Some, None}
use Rattle.kx_pages.specs.declared.item.Item.{Item}
use Rattle.kx_pages.specs.declared.item.Item.TheVariants.{Link, Destination, Source, Done}
use Rattle.kx_pages.specs.Bytes.{Mem, Wants}
use Rattle.list_checker.specs.declared.fault.Why.{Why}
use Rattle.list_checker.specs.declared.fault.Why.TheVariants.{Flags, HeadKind, Missing, PastLimit}
use Rattle.list_checker.specs.Faults.{first_of, are_wanted}

-- the head has the done flag alone, and each wanted page has its bytes already
pub record AcceptedCrash (M : Mem) (W : Wants) (head : ℕ) : Type 0 where
  pub done : head % 4096 ≡ 4
  pub there : (p : ℕ) (bytes : List ℕ) → W p ≡ Some bytes → M p ≡ bytes

-- page d does not hold what it is to have
abbrev pub lacks : Mem → Wants → ℕ → Bool
lacks M W d = not (are_wanted (W d) (M d))

abbrev pub crash_reasons : Mem → Wants → List ℕ → Item → List (Bool × Why)
crash_reasons M W all (Done p) = map (λ d. (lacks M W d, Missing d)) all
crash_reasons M W all (Link p) = (leb (2 ^ 34) p, PastLimit) ∷ (true, HeadKind) ∷ []
crash_reasons M W all (Destination p) = (leb (2 ^ 34) p, PastLimit) ∷ (true, HeadKind) ∷ []
crash_reasons M W all (Source p) = (leb (2 ^ 34) p, PastLimit) ∷ (true, HeadKind) ∷ []

-- all is the list of the wanted pages in their order
abbrev pub crash_reason : Mem → Wants → List ℕ → Option Item → Option Why
crash_reason M W all None = Some Flags
crash_reason M W all (Some i) = first_of (crash_reasons M W all i)
