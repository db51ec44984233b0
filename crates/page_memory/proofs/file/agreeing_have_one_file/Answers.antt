use Rattle.page_memory.proofs.OneFile.{stored-agree, file-agree}
use Rattle.page_memory.proofs.file.agreeing_have_one_file.Goals as goal

pub returns-clause-stored : goal.returns-clause-stored
returns-clause-stored c = stored-agree

pub returns-clause-file : goal.returns-clause-file
returns-clause-file c = file-agree
