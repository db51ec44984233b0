use Rattle.std.proofs.Common.{◌≡◌, ◌||◌, ℕ, take}
use Rattle.kx_pages.specs.Spans.{in_span, in_spans}
use Rattle.kx_pages.proofs.page_set.gather.Given as goal

abbrev pub invariant-loop-s : goal.invariant-loop-s
invariant-loop-s l = (q : ℕ) → (in_spans l.set q || in_span l.last q) ≡ in_spans (take l.s-index l.spans) q
