-- By computing.
use Rattle.std.specs.Prelude.{refl}
use Rattle.worked_commands.proofs.runs.runs_that_are_asked.Goals as goal

pub returns-clause-plain : goal.returns-clause-plain
returns-clause-plain c = refl

pub returns-clause-once : goal.returns-clause-once
returns-clause-once c = refl

pub returns-clause-twice : goal.returns-clause-twice
returns-clause-twice c = refl

pub returns-clause-plain_list : goal.returns-clause-plain_list
returns-clause-plain_list c = refl

pub returns-clause-kept_list : goal.returns-clause-kept_list
returns-clause-kept_list c = refl

pub returns-clause-kept_list_twice : goal.returns-clause-kept_list_twice
returns-clause-kept_list_twice c = refl

pub returns-clause-lacks_a_swap_page : goal.returns-clause-lacks_a_swap_page
returns-clause-lacks_a_swap_page c = refl

pub returns-clause-needs_none : goal.returns-clause-needs_none
returns-clause-needs_none c = refl

pub returns-clause-has_one : goal.returns-clause-has_one
returns-clause-has_one c = refl

pub returns-clause-of_files : goal.returns-clause-of_files
returns-clause-of_files c = refl

pub returns-clause-of_plain_files : goal.returns-clause-of_plain_files
returns-clause-of_plain_files c = refl

pub returns-clause-not_of_kept_files : goal.returns-clause-not_of_kept_files
returns-clause-not_of_kept_files c = refl

pub returns-clause-none_is_once : goal.returns-clause-none_is_once
returns-clause-none_is_once c = tt

pub returns-clause-once_is_once : goal.returns-clause-once_is_once
returns-clause-once_is_once c = tt

pub returns-clause-twice_is_not_once : goal.returns-clause-twice_is_not_once
returns-clause-twice_is_not_once c = λ h. h
