-- By computing.
use Rattle.std.proofs.Common.{refl, ap, ◌++◌}
use Rattle.command_parts.specs.Texts.{crash_lines, ran_line, regions_line}
use Rattle.worked_commands.specs.Texts.{registers}
use Rattle.std.specs.Fmt.{digits}
use Rattle.worked_commands.proofs.texts.lines_of_a_crash_kernel.Goals as goal

pub returns-clause-pages : goal.returns-clause-pages
unfolding digits
returns-clause-pages c = refl

pub returns-clause-load : goal.returns-clause-load
unfolding digits
returns-clause-load c = refl

pub returns-clause-run : goal.returns-clause-run
unfolding digits
returns-clause-run c = λ N. refl

pub returns-clause-run_with_a_purgatory : goal.returns-clause-run_with_a_purgatory
unfolding digits
returns-clause-run_with_a_purgatory c = λ N e. ap (λ t. (crash_lines 16 registers ++ ran_line 3) ++ regions_line t) e
