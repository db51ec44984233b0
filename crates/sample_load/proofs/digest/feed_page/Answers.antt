use Rattle.std.proofs.Common.{◌++◌, ap, ◌∙◌, subst}
use Rattle.sha2.specs.Hashers.{Holds256}
use Rattle.page_memory.specs.Contents.{at}
use Rattle.sample_load.proofs.digest.feed_page.Goals as goal

pub returns : goal.returns
returns c = λ m h.
    subst (Holds256 c.update.new.self) (ap (λ xs. m ++ xs) (c.bytes.ensures.value ∙ ap (at c.args.memory.now) c.from_number.ensures)) (c.update.ensures m h)
