use Rattle.kexec_main.proofs.TooFew.{boot_refuses_for_pages, load_refuses_for_pages}
use Rattle.kexec_main.proofs.laws.pages_are_refused_exactly_where_they_are_too_few.Goals as goal

pub returns-clause-boot : goal.returns-clause-boot
returns-clause-boot c = boot_refuses_for_pages

pub returns-clause-load : goal.returns-clause-load
returns-clause-load c = load_refuses_for_pages
