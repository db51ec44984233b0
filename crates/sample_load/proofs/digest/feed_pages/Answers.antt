use Rattle.std.proofs.Common.{◌≡◌, ◌-◌, ◌≤◌, ◌++◌, ap, refl, subst, arith}
use Rattle.sha2.specs.Hashers.{Holds256}
use Rattle.page_memory.specs.Contents.{at}
use Rattle.sample_load.specs.Samples.{pages_of}
use Rattle.sample_load.proofs.Filled.{digest_none, digest_more}
use Rattle.sample_load.proofs.digest.feed_pages.Goals as goal

pub loop-number-init : goal.loop-number-init
loop-number-init c = λ m h. subst (Holds256 c.args.hasher.now) (digest_none (at c.args.memory.now) m c.args.first c.args.first refl) h

pub loop-number-preserved : goal.loop-number-preserved
loop-number-preserved c = λ m h.
    let M = at c.args.memory.now in
    let k = c.loop-number.number in
    let first = c.args.first in
    let low : first ≤ k = omega arith in
    subst (Holds256 c.feed_page.new.hasher) (digest_more M m first k low) (c.feed_page.ensures (m ++ pages_of M first (k - first)) (c.loop-number.invariant m h))

pub returns : goal.returns
returns c = λ m h.
    let count : c.loop-number.number - c.args.first ≡ c.args.count = omega arith in
    subst (Holds256 c.loop-number.hasher) (ap (λ n. m ++ pages_of (at c.args.memory.now) c.args.first n) count) (c.loop-number.invariant m h)
