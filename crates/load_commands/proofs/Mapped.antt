-- A memory map is named where the plan needs one.
use Rattle.std.proofs.Common.{◌≡◌, ◌∙◌, false, Option, Some, None, ap, refl, sym}
use Rattle.std.specs.Prelude.{is_some, option_map, ◌||◌}
use Rattle.kx_pages.specs.declared.image.ImageType.{ImageType}
use Rattle.memory_map.specs.Maps.{MapValue}
use Rattle.kexec_words.specs.inner.Limits.{HasParts}
use Rattle.kx_pages.specs.Types.{needs_map}
use Rattle.kexec_words.specs.Values.{InputsValue}
use Rattle.kexec_plan.specs.Requests.{Asked}
use Rattle.kexec_plan.specs.inner.Requests.{IsMapped}

pub is_some_map : {A B : Type 0} (f : A → B) (o : Option A) → is_some (option_map f o) ≡ is_some o
is_some_map f None = refl
is_some_map f (Some x) = refl

-- a memory map is named where the plan needs one
pub request_mapped : (r : Asked) (image : ImageType) (i : InputsValue) (map : Option MapValue) → r.crash ≡ false → r.image ≡ image → is_some r.purgatory ≡ is_some i.purgatory → is_some map ≡ is_some i.map → HasParts i image → IsMapped r map
request_mapped r image i map crash type same there parts h =
    there ∙ parts.1
    (sym (ap (needs_map image) same) ∙ sym (ap (λ t. needs_map t (is_some r.purgatory)) type)
    ∙ sym (ap (λ b. b || needs_map r.image (is_some r.purgatory)) crash) ∙ h)
