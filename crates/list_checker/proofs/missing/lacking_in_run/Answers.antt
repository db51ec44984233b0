use Rattle.std.specs.List.{find, range_with_len}
use Rattle.std.proofs.Common.{◌≡◌, ◌-◌, ◌+◌, true, false, Some, arith, sym, ap, ◌∙◌}
use Rattle.std.specs.Prelude.{not}
use Rattle.page_memory.specs.Contents.{at}
use Rattle.segments.specs.Values.{want}
use Rattle.list_checker.proofs.Pages.{found_here, found_later}
use Rattle.list_checker.specs.Crash.{lacks}
use Rattle.list_checker.proofs.missing.lacking_in_run.Goals as goal

pub returns-then-not-has_its_bytes : goal.returns-then-not-has_its_bytes
returns-then-not-has_its_bytes c =
    let n = c.loop-n.n in
    let same : c.from_number-page.result ≡ n = c.from_number-page.ensures in
    let t : lacks (at c.args.memory.now) (want c.args.segments.now) n ≡ true =
    ap (lacks (at c.args.memory.now) (want c.args.segments.now)) (sym same) ∙ ap not (sym c.has_its_bytes.ensures ∙ c.if-not-has_its_bytes.true) in
    ap Some same ∙ sym (found_here (lacks (at c.args.memory.now) (want c.args.segments.now)) n (c.first-first.result + c.count-count.result) c.loop-n-test.true t) ∙ c.loop-n.invariant

pub loop-n-preserved : goal.loop-n-preserved
loop-n-preserved c =
    let n = c.loop-n.n in
    let same : c.from_number-page.result ≡ n = c.from_number-page.ensures in
    let t : lacks (at c.args.memory.now) (want c.args.segments.now) n ≡ false =
    ap (lacks (at c.args.memory.now) (want c.args.segments.now)) (sym same) ∙ ap not (sym c.has_its_bytes.ensures ∙ c.if-not-has_its_bytes.false) in
    found_later (lacks (at c.args.memory.now) (want c.args.segments.now)) n (c.first-first.result + c.count-count.result) c.loop-n-test.true t ∙ c.loop-n.invariant

pub loop-n-init : goal.loop-n-init
loop-n-init c =
    let size : c.first-first.result + c.count-count.result - c.first-first.result ≡ c.args.run.count = omega (arith, c.first-first.ensures.value, c.count-count.ensures.value) in
    ap (λ n. find (lacks (at c.args.memory.now) (want c.args.segments.now)) (range_with_len c.first-first.result n)) size ∙ ap (λ k. find (lacks (at c.args.memory.now) (want c.args.segments.now)) (range_with_len k c.args.run.count)) c.first-first.ensures.value
