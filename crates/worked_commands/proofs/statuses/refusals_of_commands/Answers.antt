-- By computing.
use Rattle.std.specs.Prelude.{refl}
use Rattle.worked_commands.proofs.statuses.refusals_of_commands.Goals as goal

pub returns-clause-words : goal.returns-clause-words
returns-clause-words c = refl

pub returns-clause-words_code : goal.returns-clause-words_code
returns-clause-words_code c = refl

pub returns-clause-input : goal.returns-clause-input
returns-clause-input c = refl

pub returns-clause-input_code : goal.returns-clause-input_code
returns-clause-input_code c = refl

pub returns-clause-plan : goal.returns-clause-plan
returns-clause-plan c = refl

pub returns-clause-plan_code : goal.returns-clause-plan_code
returns-clause-plan_code c = refl

pub returns-clause-pages : goal.returns-clause-pages
returns-clause-pages c = refl

pub returns-clause-pages_code : goal.returns-clause-pages_code
returns-clause-pages_code c = refl

pub returns-clause-heavy : goal.returns-clause-heavy
returns-clause-heavy c = refl

pub returns-clause-heavy_code : goal.returns-clause-heavy_code
returns-clause-heavy_code c = refl

pub returns-clause-not_kept : goal.returns-clause-not_kept
returns-clause-not_kept c = refl

pub returns-clause-not_kept_code : goal.returns-clause-not_kept_code
returns-clause-not_kept_code c = refl

pub returns-clause-resident : goal.returns-clause-resident
returns-clause-resident c = refl

pub returns-clause-resident_code : goal.returns-clause-resident_code
returns-clause-resident_code c = refl

pub returns-clause-slots : goal.returns-clause-slots
returns-clause-slots c = refl

pub returns-clause-slots_code : goal.returns-clause-slots_code
returns-clause-slots_code c = refl

pub returns-clause-core : goal.returns-clause-core
returns-clause-core c = refl

pub returns-clause-core_code : goal.returns-clause-core_code
returns-clause-core_code c = refl
