use Rattle.std.proofs.Common.{◌≡◌, ◌+◌, ◌-◌, ◌/◌, ◌<◌, ◌≤◌, ◌++◌, length, take, drop, refl, sym, ap, ◌∙◌, subst, arith}
use Rattle.std.proofs.lemmas.List.{append-nil}
use Rattle.sha2.specs.Hashers.{Holds256}
use Rattle.segments.specs.Values.{SegmentValue, want, pages, pages_of_segment}
use Rattle.purgatory_link.specs.Regions.{wanted_bytes}
use Rattle.purgatory_link.proofs.Digesting.{wanted_none, pages_step, pages_inside, fed_more}
use Rattle.purgatory_link.proofs.digests.feed_segments.Goals as goal

pub loop-i-init : goal.loop-i-init
loop-i-init c = λ m h.
    let none : 0 ≡ c.args.from - c.args.from = omega arith in
    let W = want c.args.segments.now in
    subst (Holds256 c.args.hasher.now) (sym (append-nil m) ∙ ap (λ xs. m ++ xs) (sym (wanted_none W) ∙ ap (λ n. wanted_bytes W (pages (take n (drop c.args.from c.args.segments.now)))) none)) h

pub feed_pages-requires : goal.feed_pages-requires
feed_pages-requires c =
    let k = pages_inside c.args.segments.now c.loop-i.i c.segment-segment.result.now c.requires.valid c.segment-segment.ensures in
    let e : c.segment.inside.mem / 4096 + c.segment.inside.memsz / 4096 ≡ c.segment-segment.result.now.mem / 4096 + c.segment-segment.result.now.memsz / 4096 =
    ap (λ (p : SegmentValue). p.mem / 4096 + p.memsz / 4096) c.segment.view_is in
    omega (arith, k, e)

pub loop-i-preserved : goal.loop-i-preserved
loop-i-preserved c = λ m h.
    let all = c.args.segments.now in
    let W = want all in
    let i = c.loop-i.i in
    let low : c.args.from ≤ i = omega arith in
    let here : i < length all = omega arith in
    let ps = pages (take (i - c.args.from) (drop c.args.from all)) in
    let qs = pages (take (i + 1 - c.args.from) (drop c.args.from all)) in
    let s = c.segment-segment.result.now in
    let same = ap (λ (p : SegmentValue). (m ++ wanted_bytes W ps) ++ wanted_bytes W (pages_of_segment p)) c.segment.view_is in
    subst (Holds256 c.feed_pages.new.hasher) (same ∙ fed_more W m ps (pages_of_segment s) qs (pages_step all c.args.from i (i + 1) s low here refl c.segment-segment.ensures))
    (c.feed_pages.ensures (m ++ wanted_bytes W ps) (c.loop-i.invariant m h))
