-- By what is known of the sample.
use Rattle.std.proofs.Common.{◌++◌, ℕ, List, refl}
use Rattle.std.specs.Prelude.{codes}
use Rattle.std.specs.Fmt.{digits}
use Rattle.hex.specs.Hex.{encode_lower, encode_with}
use Rattle.command_parts.specs.Runs.{list_text}
use Rattle.load_commands.specs.Sample.{memory_line}
use Rattle.command_parts.specs.Texts.{ran_line}
use Rattle.worked_commands.specs.Texts.{kept_checked}
use Rattle.kx_pages.specs.declared.image.Start.{Start}
use Rattle.worked_commands.proofs.residents.sample_is_said.Goals as goal

abbrev say : Start → List ℕ → List ℕ
say start digest = (list_text kept_checked start ++ ran_line 7) ++ (codes "memory " ++ (encode_lower digest ++ codes "\n"))

pub returns-clause-text : goal.returns-clause-text
unfolding memory_line encode_with digits
returns-clause-text c = λ number start digest. λ i. say (start i) (digest i)

pub returns-clause-made : goal.returns-clause-made
returns-clause-made c = λ number c h. (c, h, refl, refl, refl)

pub returns-clause-no_output : goal.returns-clause-no_output
returns-clause-no_output c = λ number goods h. h.2

pub returns-clause-no_fault : goal.returns-clause-no_fault
returns-clause-no_fault c = λ number goods h. h.4

pub returns-clause-not_refused : goal.returns-clause-not_refused
returns-clause-not_refused c = λ number why h. h
