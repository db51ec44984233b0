use Rattle.std.proofs.Common.{rules}
use Rattle.std.proofs.lemmas.Fn.{filter_same}
use Rattle.elf_image.specs.Loads.{has_memory}
use Rattle.elf_image.proofs.loads.with_memory.Goals as goal

pub returns : goal.returns
returns c = filter_same _ has_memory _ (λ x b f k. search rules) _ _ c.retain.ensures.filtered
