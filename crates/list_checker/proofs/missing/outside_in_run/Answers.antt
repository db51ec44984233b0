use Rattle.std.specs.List.{find, range_with_len}
use Rattle.std.proofs.Common.{◌≡◌, ◌-◌, ◌+◌, true, false, Some, arith, sym, ap, ◌∙◌}
use Rattle.std.specs.Prelude.{not}
use Rattle.std.specs.Ordering.{nat_cmp}
use Rattle.std.specs.BTreeSet.{contains}
use Rattle.list_checker.proofs.Pages.{found_here, found_later}
use Rattle.list_checker.proofs.missing.outside_in_run.Goals as goal

pub returns-then-not-contains : goal.returns-then-not-contains
returns-then-not-contains c =
    let n = c.loop-n.n in
    let same : c.from_number-page.result ≡ n = c.from_number-page.ensures in
    let t : not (contains nat_cmp c.args.set.now n) ≡ true = ap (λ p. not (contains nat_cmp c.args.set.now p)) (sym same) ∙ ap not (sym c.contains.ensures ∙ c.if-not-contains.true) in
    ap Some same ∙ sym (found_here (λ p. not (contains nat_cmp c.args.set.now p)) n (c.first-first.result + c.count-count.result) c.loop-n-test.true t) ∙ c.loop-n.invariant

pub loop-n-preserved : goal.loop-n-preserved
loop-n-preserved c =
    let n = c.loop-n.n in
    let same : c.from_number-page.result ≡ n = c.from_number-page.ensures in
    let t : not (contains nat_cmp c.args.set.now n) ≡ false = ap (λ p. not (contains nat_cmp c.args.set.now p)) (sym same) ∙ ap not (sym c.contains.ensures ∙ c.if-not-contains.false) in
    found_later (λ p. not (contains nat_cmp c.args.set.now p)) n (c.first-first.result + c.count-count.result) c.loop-n-test.true t ∙ c.loop-n.invariant

pub loop-n-init : goal.loop-n-init
loop-n-init c =
    let size : c.first-first.result + c.count-count.result - c.first-first.result ≡ c.args.run.count = omega (arith, c.first-first.ensures.value, c.count-count.ensures.value) in
    ap (λ n. find (λ p. not (contains nat_cmp c.args.set.now p)) (range_with_len c.first-first.result n)) size ∙ ap (λ k. find (λ p. not (contains nat_cmp c.args.set.now p)) (range_with_len k c.args.run.count)) c.first-first.ensures.value
