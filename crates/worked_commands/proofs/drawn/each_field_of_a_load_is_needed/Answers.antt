-- By the loads of the kernel `abc`.
use Rattle.worked_commands.proofs.DrawnLoads.{no_such_plan, other_segments, other_mode, other_page_written, other_list, other_control, other_link, other_source}
use Rattle.worked_commands.proofs.DrawnZeros.{too_few}
use Rattle.worked_commands.proofs.drawn.each_field_of_a_load_is_needed.Goals as goal

pub returns-clause-planned : goal.returns-clause-planned
returns-clause-planned c = no_such_plan

pub returns-clause-segments : goal.returns-clause-segments
returns-clause-segments c = other_segments

pub returns-clause-mode : goal.returns-clause-mode
returns-clause-mode c = other_mode

pub returns-clause-only_pool_pages : goal.returns-clause-only_pool_pages
returns-clause-only_pool_pages c = other_page_written

pub returns-clause-accepted : goal.returns-clause-accepted
returns-clause-accepted c = other_list

pub returns-clause-control_is_drawn : goal.returns-clause-control_is_drawn
returns-clause-control_is_drawn c = other_control

pub returns-clause-list_is_drawn : goal.returns-clause-list_is_drawn
returns-clause-list_is_drawn c = other_link

pub returns-clause-sources_are_drawn : goal.returns-clause-sources_are_drawn
returns-clause-sources_are_drawn c = other_source

pub returns-clause-enough : goal.returns-clause-enough
returns-clause-enough c = too_few
