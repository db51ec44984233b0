-- Requests of the examples (this project's own).
use Rattle.std.specs.Prelude.{ℕ, true, false, List, [], ◌∷◌, Some, None, codes}
use Rattle.kx_pages.specs.declared.image.ImageType.{ImageType}
use Rattle.kx_pages.specs.declared.image.ImageType.TheVariants as types
use Rattle.kexec_plan.specs.Requests.{Asked}
use Rattle.worked_plans.specs.Multiboots.{a_module}

-- a kernel of this type, and nothing else
abbrev pub asked : ImageType → List ℕ → Asked
asked image kernel = record {
  crash = false;
  image = image;
  kernel = kernel;
  initrd = None;
  command = None;
  modules = [];
  purgatory = None;
  notes = [];
}

-- a crash kernel, without a byte
abbrev pub asked_crash : Asked
asked_crash = record (asked types.Bzimage []) { crash = true }

-- an initrd, a module and a command
abbrev pub asked_with_parts : Asked
asked_with_parts = record (asked types.Auto []) {
  initrd = Some (codes "initrd");
  command = Some (codes "quiet");
  modules = a_module ∷ [];
}
