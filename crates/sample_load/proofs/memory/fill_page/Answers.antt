use Rattle.std.proofs.Common.{◌≡◌, ◌∙◌, ◌+◌, ◌%◌, ap}
use Rattle.std.specs.Prelude.{replicate}
use Rattle.kx_pages.specs.Bytes.{page_of}
use Rattle.page_memory.specs.Contents.{at}
use Rattle.page_memory.specs.inner.Contents.{after_set}
use Rattle.page_memory.specs.Memory.{put}
use Rattle.page_memory.proofs.Laws.{at-after_set}
use Rattle.sample_load.proofs.Filled.{page_of-full}
use Rattle.sample_load.proofs.memory.fill_page.Goals as goal

pub returns-clause-value : goal.returns-clause-value
returns-clause-value c = λ q.
    let m = c.args.memory.now in
    let k = c.args.number in
    let full = replicate 4096 (1 + k % 251) in
    let is : c.set.new.self ≡ after_set m c.from_number.result (page_of full) = c.set.ensures.value in
    let here : c.set.new.self ≡ after_set m k (page_of full) = is ∙ ap (λ p. after_set m p (page_of full)) c.from_number.ensures in
    ap (λ n. at n q) here ∙ ap (λ M. M q) (at-after_set m k (page_of full)) ∙ ap (λ bytes. put (at m) k bytes q) (page_of-full (1 + k % 251))
