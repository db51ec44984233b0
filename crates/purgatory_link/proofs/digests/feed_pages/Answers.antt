use Rattle.std.proofs.Common.{◌≡◌, ◌+◌, ◌-◌, ◌≤◌, ◌++◌, [], ◌∷◌, refl, sym, ap, ◌∙◌, subst, arith}
use Rattle.std.specs.List.{range_with_len}
use Rattle.std.proofs.lemmas.List.{append-nil}
use Rattle.sha2.specs.Hashers.{Holds256}
use Rattle.segments.specs.Values.{want}
use Rattle.purgatory_link.specs.Regions.{wanted_bytes}
use Rattle.purgatory_link.proofs.Digesting.{wanted_none, range_step, fed_more}
use Rattle.purgatory_link.proofs.digests.feed_pages.Goals as goal

pub loop-number-init : goal.loop-number-init
loop-number-init c = λ m h.
    let none : 0 ≡ c.args.first - c.args.first = omega arith in
    let W = want c.args.segments.now in
    subst (Holds256 c.args.hasher.now) (sym (append-nil m) ∙ ap (λ xs. m ++ xs) (sym (wanted_none W) ∙ ap (λ n. wanted_bytes W (range_with_len c.args.first n)) none)) h

pub loop-number-preserved : goal.loop-number-preserved
loop-number-preserved c = λ m h.
    let W = want c.args.segments.now in
    let n = c.loop-number.number in
    let low : c.args.first ≤ n = omega arith in
    let ps = range_with_len c.args.first (n - c.args.first) in
    let qs = range_with_len c.args.first (n + 1 - c.args.first) in
    subst (Holds256 c.feed_wanted.new.hasher) (fed_more W m ps (n ∷ []) qs (range_step c.args.first n (n + 1) low refl))
    (c.feed_wanted.ensures (m ++ wanted_bytes W ps) (c.loop-number.invariant m h))

pub returns : goal.returns
returns c = λ m h.
    let count : c.loop-number.number - c.args.first ≡ c.args.count = omega arith in
    subst (Holds256 c.loop-number.hasher) (ap (λ n. m ++ wanted_bytes (want c.args.segments.now) (range_with_len c.args.first n)) count) (c.loop-number.invariant m h)
