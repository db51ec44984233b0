-- What is read of a file that was taken.
use Rattle.std.proofs.Common.{◌≡◌, ◌∙◌, Bool, true, false, Result, Ok, Err, if◌then◌else◌, ap, refl, sym, subst, inl, inr}
use Rattle.std.specs.Prelude.{◌⊎◌, IsErrAnd, MatchResult}
use Rattle.kx_laws.specs.inner.Results.{Gives}
use Rattle.kx_edge.specs.declared.edge.Shelf.{Ghosts as Shelf}
use Rattle.file_commands.specs.declared.stop.TakeFault.{TakeFault}
use Rattle.file_commands.specs.declared.stop.TakeFault.TheVariants as takes
use Rattle.file_commands.specs.Files.{from_reader}
use Rattle.file_commands.specs.Taking.{Take, Took, by}
use Rattle.file_commands.specs.inner.Calls.{Takes, TakesNot}
use Rattle.file_commands.proofs.Steps.{Left, finished, wanting}
use Rattle.command_parts.specs.declared.reason.InputFault.{InputFault}
use Rattle.command_parts.specs.declared.reason.Reason.{Reason}
use Rattle.command_parts.specs.declared.reason.Reason.TheVariants.{Input}
use Rattle.command_parts.specs.inner.Readers.{stop_by, wants_memory}

-- a reader's answer as a take's: its value, or what its fault is to a take
abbrev pub IsToldAs : {T F : Type 0} → (F → InputFault) → Result T F → Result T (TakeFault Reason) → Type 0
IsToldAs kind read result = MatchResult read (λ v. result ≡ Ok v) (λ e. IsErrAnd result (λ w. w ≡ stop_by (kind e)))

module _ {S X T F : Type 0} (D : Shelf S) {t : Take Reason X} {s mid : S} (kind : F → InputFault) (memory : F) (told : wants_memory (kind memory) ≡ true) (view : T → X) (reading : Result X F) where
  -- a reader's fault is its want of memory, or the one that is defined
  stopped_as : (e : F) (w : TakeFault Reason) (b : Bool) → wants_memory (kind e) ≡ b → w ≡ (if b then takes.Memory else takes.Refused (Input (kind e)))
      → (reading ≡ Err e) ⊎ (e ≡ memory) → Left D t s (from_reader (λ f. Input (kind f)) reading) mid → Takes D t view s (Err w) mid
  unfolding TakesNot Took
  stopped_as e w true wants is h l = wanting D view (Err w) (ap Err is) l
  stopped_as e w false wants is (inl h) l =
      subst (λ w. Takes D t view s (Err w) mid) (sym is)
      (l.took (Err (by (Input (kind e)))) mid (subst (λ r. Took D (from_reader (λ f. Input (kind f)) r) mid (Err (by (Input (kind e)))) mid) (sym h) (refl, refl)))
  stopped_as e w false wants is (inr h) l = let k : true ≡ false = sym told ∙ ap (λ f. wants_memory (kind f)) (sym h) ∙ wants in cc

  -- what a reader answers is what is defined for the bytes that were taken
  pub read_as : (read : Result T F) (result : Result T (TakeFault Reason)) → Left D t s (from_reader (λ f. Input (kind f)) reading) mid
      → Gives memory view read reading → IsToldAs kind read result → Takes D t view s result mid
  read_as (Ok v) result l h is = subst (λ r. Takes D t view s r mid) (sym is) (finished D (subst (λ r. Left D t s (from_reader (λ f. Input (kind f)) r) mid) h l))
  read_as (Err e) (Ok v) l h is = absurd is
  read_as (Err e) (Err w) l h is = stopped_as e w (wants_memory (kind e)) refl is h l
