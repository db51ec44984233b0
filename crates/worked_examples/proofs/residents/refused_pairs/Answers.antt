-- By computing.
use Rattle.std.specs.Prelude.{refl}
use Rattle.kx_pages.specs.Bytes.{page_of}
use Rattle.resident_planner.specs.Refusals.{pairs_refusal}
use Rattle.worked_examples.proofs.residents.refused_pairs.Goals as goal

pub returns-clause-stale : goal.returns-clause-stale
unfolding pairs_refusal page_of
returns-clause-stale c = refl

pub returns-clause-repeats : goal.returns-clause-repeats
unfolding pairs_refusal page_of
returns-clause-repeats c = refl

pub returns-clause-unwanted : goal.returns-clause-unwanted
unfolding pairs_refusal page_of
returns-clause-unwanted c = refl

pub returns-clause-fine : goal.returns-clause-fine
unfolding pairs_refusal page_of
returns-clause-fine c = refl
