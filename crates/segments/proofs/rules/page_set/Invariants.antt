use Rattle.std.proofs.Common.{◌≡◌, ℕ, ◌||◌, false, drop}
use Rattle.std.specs.List.{AllByRecursion}
use Rattle.kx_pages.specs.Spans.{in_spans}
use Rattle.segments.specs.Values.{is_destination}
use Rattle.segments.specs.Rules.{is_bad_address}
use Rattle.segments.proofs.rules.page_set.Given as goal

abbrev pub invariant-loop-s : goal.invariant-loop-s
invariant-loop-s l = record {
  good : AllByRecursion (λ s. is_bad_address s ≡ false) (drop l.s-index l.list);
  pages : (q : ℕ) → (in_spans l.set q || is_destination (drop l.s-index l.list) q) ≡ is_destination l.list q;
}
