use Rattle.std.proofs.Common.{ap, ◌∙◌, arith}
use Rattle.kimage_list.proofs.open_list.OpenList.take_first.Goals as goal
use Rattle.kimage_list.proofs.Opening.{first_given}
use Rattle.kx_pages.specs.Lists.{count, sources}

pub returns-clause-given : goal.returns-clause-given
returns-clause-given c = λ d t w can none empty.
    let k = c.take.ensures.given d t w can in
    let s = c.take.new.self in
    (k.0, first_given d t s.memory s.pool s.table s.next s.entries k.1 none (λ y. ap (λ N. N y) (k.5 empty) ∙ w.others y (omega (arith, ap (count y) none, ap (λ ps. count y (sources ps)) empty))))
