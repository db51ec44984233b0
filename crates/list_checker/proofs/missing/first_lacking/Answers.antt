use Rattle.std.proofs.Common.{◌≡◌, ℕ, Bool, Some, None, sym, ap, ◌∙◌}
use Rattle.std.specs.List.{find, range_with_len}
use Rattle.kx_pages.specs.Spans.{Run}
use Rattle.segments.specs.Values.{pages_of_segment}
use Rattle.page_memory.specs.Contents.{at}
use Rattle.segments.specs.Values.{want}
use Rattle.list_checker.specs.Crash.{lacks}
use Rattle.list_checker.proofs.Pages.{within, got, found_in_segment, found_past_segment}
use Rattle.segments.proofs.Spans.{segment_with_span}
use Rattle.list_checker.proofs.missing.first_lacking.Goals as goal

pub returns-in-Some : goal.returns-in-Some
returns-in-Some c =
    let S = c.args.segments.now in
    let w = segment_with_span S c.loop-i.i c.span.result c.span.ensures in
    let test : ℕ → Bool = lacks (at c.args.memory.now) (want c.args.segments.now) in
    let run : find test (pages_of_segment w.0) ≡ Some c.in-Some.page = ap (λ (r : Run). find test (range_with_len r.first r.count)) w.2 ∙ sym c.lacking_in_run.ensures ∙ c.in-Some.is in
    sym (found_in_segment test S c.loop-i.i w.0 c.in-Some.page (within S c.loop-i.i w.0 w.1) (got S c.loop-i.i w.0 w.1) run) ∙ c.loop-i.invariant

pub loop-i-preserved : goal.loop-i-preserved
loop-i-preserved c =
    let S = c.args.segments.now in
    let w = segment_with_span S c.loop-i.i c.span.result c.span.ensures in
    let test : ℕ → Bool = lacks (at c.args.memory.now) (want c.args.segments.now) in
    let run : find test (pages_of_segment w.0) ≡ None = ap (λ (r : Run). find test (range_with_len r.first r.count)) w.2 ∙ sym c.lacking_in_run.ensures ∙ c.in_default.is in
    found_past_segment test S c.loop-i.i w.0 (within S c.loop-i.i w.0 w.1) (got S c.loop-i.i w.0 w.1) run ∙ c.loop-i.invariant
