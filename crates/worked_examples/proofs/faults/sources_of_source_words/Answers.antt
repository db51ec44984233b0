-- By computing.
use Rattle.std.specs.Prelude.{refl}
use Rattle.kx_pages.specs.Bytes.{page_of}
use Rattle.worked_examples.proofs.faults.sources_of_source_words.Goals as goal

pub returns-clause-spoiled : goal.returns-clause-spoiled
unfolding page_of
returns-clause-spoiled c = λ M. refl

pub returns-clause-control : goal.returns-clause-control
unfolding page_of
returns-clause-control c = λ M. refl

pub returns-clause-link_page_kept : goal.returns-clause-link_page_kept
unfolding page_of
returns-clause-link_page_kept c = λ M. refl

pub returns-clause-earlier_source_kept : goal.returns-clause-earlier_source_kept
unfolding page_of
returns-clause-earlier_source_kept c = λ M. refl

pub returns-clause-swap : goal.returns-clause-swap
unfolding page_of
returns-clause-swap c = λ M. refl

pub returns-clause-wrong_bytes : goal.returns-clause-wrong_bytes
unfolding page_of
returns-clause-wrong_bytes c = refl

pub returns-clause-right_bytes : goal.returns-clause-right_bytes
unfolding page_of
returns-clause-right_bytes c = refl

pub returns-clause-own_source : goal.returns-clause-own_source
unfolding page_of
returns-clause-own_source c = refl

pub returns-clause-own_source_kept : goal.returns-clause-own_source_kept
unfolding page_of
returns-clause-own_source_kept c = refl

pub returns-clause-link_page : goal.returns-clause-link_page
unfolding page_of
returns-clause-link_page c = refl

pub returns-clause-earlier_source : goal.returns-clause-earlier_source
unfolding page_of
returns-clause-earlier_source c = refl

pub returns-clause-past_the_limit : goal.returns-clause-past_the_limit
unfolding page_of
returns-clause-past_the_limit c = λ M. refl
