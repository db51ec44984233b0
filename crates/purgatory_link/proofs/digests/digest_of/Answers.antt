use Rattle.std.proofs.Common.{◌+◌, ◌-◌, ◌++◌, [], take, drop, sym, ap, ◌∙◌}
use Rattle.sha2.specs.Sha256.{sha256}
use Rattle.segments.specs.Values.{want, pages}
use Rattle.purgatory_link.specs.Regions.{wanted_bytes, digest}
use Rattle.purgatory_link.proofs.Digesting.{both_parts, fed_more}
use Rattle.purgatory_link.proofs.digests.digest_of.Goals as goal
use Rattle.segments.proofs.Laws.{pages-append}

pub returns : goal.returns
unfolding digest
returns c =
    let all = c.args.segments.now in
    let g = c.args.purgatory in
    let W = want all in
    let front = take (g - 0) (drop 0 all) in
    let rest = take (c.count-count.result - (g + 1)) (drop (g + 1) all) in
    let m = wanted_bytes W (pages front) in
    c.digest_block.ensures (m ++ wanted_bytes W (pages rest)) (c.feed_segments-2.ensures m (c.feed_segments.ensures [] c.new-hasher.ensures))
    ∙ ap sha256 (fed_more W [] (pages front) (pages rest) _ (sym (pages-append front rest) ∙ ap pages (both_parts all g c.count-count.result c.count-count.ensures.value)))
