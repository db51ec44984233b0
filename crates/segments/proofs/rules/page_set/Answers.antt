use Rattle.std.proofs.Common.{◌≡◌, false, arith}
use Rattle.kx_pages.specs.Spans.{in_span, in_spans}
use Rattle.segments.specs.Values.{is_destination}
use Rattle.segments.specs.Rules.{is_bad_address}
use Rattle.segments.proofs.Steps.{each_here, pages_more, pages_all}
use Rattle.segments.proofs.rules.page_set.Goals as goal

pub span-requires : goal.span-requires
span-requires c = (each_here (λ s. is_bad_address s ≡ false) c.args.list.now c.loop-s.s-index c.s-item.result c.loop-s-test.true c.s-item.is c.loop-s.invariant.good).0

pub loop-s-preserved : goal.loop-s-preserved
loop-s-preserved c = record {
  good = (each_here (λ s. is_bad_address s ≡ false) c.args.list.now c.loop-s.s-index c.s-item.result c.loop-s-test.true c.s-item.is c.loop-s.invariant.good).1;
  pages = pages_more (in_spans c.loop-s.set) (in_spans c.add.new.self) (is_destination c.args.list.now) (in_span c.span.result) c.args.list.now c.loop-s.s-index c.s-item.result c.loop-s-test.true c.s-item.is c.span.ensures.pages c.in_ok-add.ensures.pages c.loop-s.invariant.pages;
}

pub returns : goal.returns
returns c = pages_all (in_spans c.loop-s.set) (is_destination c.args.list.now) c.args.list.now c.loop-s.s-index (omega arith) c.loop-s.invariant.pages
