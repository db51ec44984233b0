use Rattle.kexec_main.proofs.OwnPages.{no_load_over_fewer, uses_each_page_once}
use Rattle.kexec_main.proofs.laws.a_load_takes_as_many_pages_as_it_uses.Goals as goal

pub returns-clause-own_pages : goal.returns-clause-own_pages
returns-clause-own_pages c = uses_each_page_once

pub returns-clause-no_fewer : goal.returns-clause-no_fewer
returns-clause-no_fewer c = no_load_over_fewer
