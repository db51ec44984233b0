-- By the condition that is broken.
use Rattle.std.proofs.Common.{refl, arith}
use Rattle.worked_examples.proofs.conditions.conditions_of_kept_lists.Goals as goal

pub returns-clause-plain : goal.returns-clause-plain
returns-clause-plain c = λ M W a. omega (arith, a.plain.walk.0)

pub returns-clause-apart : goal.returns-clause-apart
returns-clause-apart c = λ M W a. a.apart.0.0.2 refl

pub returns-clause-links_no_sources : goal.returns-clause-links_no_sources
returns-clause-links_no_sources c = λ M W a. a.links_no_sources.0.0 refl

pub returns-clause-swap_is_control : goal.returns-clause-swap_is_control
returns-clause-swap_is_control c = λ M W a. a.swap_apart.0 refl

pub returns-clause-swap_is_link : goal.returns-clause-swap_is_link
returns-clause-swap_is_link c = λ M W a. a.swap_apart.1.0 refl

pub returns-clause-swap_is_destination : goal.returns-clause-swap_is_destination
returns-clause-swap_is_destination c = λ M W a. a.swap_apart.2.0.0 refl

pub returns-clause-swap_is_source : goal.returns-clause-swap_is_source
returns-clause-swap_is_source c = λ M W a. a.swap_apart.2.0.1 refl
