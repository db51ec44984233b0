use Rattle.worked_commands.proofs.WrongPanics.{without_arrives, without_head, without_only_its_pages, without_planned, without_segments}
use Rattle.worked_commands.proofs.wrong_panics.fields_that_a_crash_load_needs.Goals as goal

pub returns-clause-planned : goal.returns-clause-planned
returns-clause-planned c = λ i memory planned reserved. without_planned i memory planned reserved

pub returns-clause-arrives : goal.returns-clause-arrives
returns-clause-arrives c = λ i a. without_arrives i a

pub returns-clause-only_its_pages : goal.returns-clause-only_its_pages
returns-clause-only_its_pages c = λ i a. without_only_its_pages i a

pub returns-clause-head : goal.returns-clause-head
returns-clause-head c = λ i a. without_head i a

pub returns-clause-segments : goal.returns-clause-segments
returns-clause-segments c = λ i a. without_segments i a
