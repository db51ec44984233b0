-- A module's text is its file's name, and the other way round.
use Rattle.std.proofs.Common.{◌≡◌, List, [], ◌∷◌, map, ap, refl}
use Rattle.kexec_plan.specs.Modules.{AskedModule}
use Rattle.load_commands.specs.Inputs.{module_of}
use Rattle.load_commands.specs.inner.Views.{file_in}

pub modules_of_files : (ms : List AskedModule) → map module_of (map file_in ms) ≡ ms
modules_of_files [] = refl
modules_of_files (m ∷ ms) = ap (λ r. m ∷ r) (modules_of_files ms)
