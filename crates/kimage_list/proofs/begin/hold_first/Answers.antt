use Rattle.std.proofs.Common.{sym, subst, take, ⊎_elim, inl, inr}
use Rattle.std.specs.List.Sorted.{IsPermutation}
use Rattle.page_pool.specs.Pages.{usable_of}
use Rattle.kx_pages.specs.Lists.{Has}
use Rattle.kimage_list.proofs.Held.{has_in_order}
use Rattle.kimage_list.proofs.Opening.{held_in_order}
use Rattle.kimage_list.proofs.begin.hold_first.Goals as goal

pub returns-clause-held : goal.returns-clause-held
returns-clause-held c =
    held_in_order c.hold_all.result c.args.n (usable_of c.args.pool.now) c.deref.result.now c.hold_all.new.self c.requires
    (subst (λ pages. IsPermutation (take c.args.n (usable_of c.args.pool.now)) pages) (sym c.deref.ensures.value) c.in_ok-pages.ensures) c.hold_all.ensures.pages c.hold_all.ensures.held

pub returns-clause-only : goal.returns-clause-only
returns-clause-only c = λ q h.
    ⊎_elim (λ old. inl old)
    (λ has. inr (has_in_order (take c.args.n (usable_of c.args.pool.now)) c.in_ok-pages.pages.items q c.in_ok-pages.ensures (subst (Has q) c.deref.ensures.value has)))
    (c.hold_all.ensures.only q h)
