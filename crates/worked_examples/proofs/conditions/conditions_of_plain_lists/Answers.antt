-- By the condition that is broken.
use Rattle.std.proofs.Common.{◌≡◌, ℕ, List, None, Some, refl, inl, inr, arith}
use Rattle.std.specs.Prelude.{◌⊎◌}
use Rattle.worked_examples.proofs.conditions.conditions_of_plain_lists.Goals as goal

-- a page is not written that is wanted
not_there : ◌≡◌ {A = ℕ} 2 3 ⊎ ⊥ → ⊥
not_there (inl e) = omega (arith, e)
not_there (inr e) = e

not_wanted : (bytes : List ℕ) → None ≡ Some bytes → ⊥
not_wanted bytes e = cc

pub returns-clause-walk : goal.returns-clause-walk
returns-clause-walk c = λ M W a. omega (arith, a.walk.0)

pub returns-clause-once : goal.returns-clause-once
returns-clause-once c = λ M W a. a.once.0.0 refl

pub returns-clause-destination_first : goal.returns-clause-destination_first
returns-clause-destination_first c = λ M W a. a.destination_first

pub returns-clause-written_once : goal.returns-clause-written_once
returns-clause-written_once c = λ M W a. a.in_order.0.0.0 refl

pub returns-clause-in_order : goal.returns-clause-in_order
returns-clause-in_order c = λ M W a. a.in_order.0.0.1 refl

pub returns-clause-whole : goal.returns-clause-whole
returns-clause-whole c = λ M a. not_there (a.whole 3 _ refl)

pub returns-clause-only : goal.returns-clause-only
returns-clause-only c = λ M a. not_wanted (M 0x12) a.right_bytes.0

pub returns-clause-links_unwritten : goal.returns-clause-links_unwritten
returns-clause-links_unwritten c = λ M W a. a.links_unwritten.0.0 refl

pub returns-clause-control_is_link : goal.returns-clause-control_is_link
returns-clause-control_is_link c = λ M W a. a.control_apart.0.0 refl

pub returns-clause-control_is_destination : goal.returns-clause-control_is_destination
returns-clause-control_is_destination c = λ M W a. a.control_apart.1.0.0 refl

pub returns-clause-control_is_source : goal.returns-clause-control_is_source
returns-clause-control_is_source c = λ M W a. a.control_apart.1.0.1 refl
