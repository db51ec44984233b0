use Rattle.std.proofs.Common.{◌≡◌, true, refl, sym, ◌∙◌}
use Rattle.std.specs.Cmp.Lexicographic.{same_text, other_text}
use Rattle.kx_laws.proofs.Booleans.{true_false}
use Rattle.page_memory.proofs.Changes.{is_page_when, no_page_when}
use Rattle.page_memory.proofs.memory.is_page_of.Goals as goal

pub returns-then-eq : goal.returns-then-eq
returns-then-eq c = is_page_when c.args.page.now c.args.bytes.now c.split_at.result.0.now c.split_at.result.1.now _ c.is_zero.result c.requires.whole refl c.requires.fits c.split_at.ensures.front c.split_at.ensures.back (same_text _ _ c.if-eq.ensures) c.is_zero.ensures

pub returns-else-eq : goal.returns-else-eq
returns-else-eq c = (λ (yes : c.eq.result ≡ true). absurd (true_false (sym yes ∙ c.if-eq.false)), λ is. absurd (no_page_when c.args.page.now c.args.bytes.now c.split_at.result.0.now _ refl c.requires.fits c.split_at.ensures.front (other_text _ _ c.if-eq.ensures) is))
