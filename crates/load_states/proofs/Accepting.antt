-- Accepted lists, as `accept` answers them.
use Rattle.std.proofs.Common.{◌≡◌, ℕ, sym, ap, ◌∙◌, subst, inl, inr, ⊎_elim}
use Rattle.std.specs.List.{AllByRecursion}
use Rattle.std.specs.Prelude.{◌⊎◌, IsSome, map}
use Rattle.kx_pages.specs.Lists.{Has}
use Rattle.kx_pages.proofs.Lists.{Each-at}
use Rattle.kx_pages.specs.Modes.{swap_page}
use Rattle.page_memory.specs.inner.Contents.{IsHeld}
use Rattle.list_checker.specs.declared.earlier.Accept.{Accept}
use Rattle.list_checker.specs.Checked.{as_pair}
use Rattle.list_checker.specs.inner.Checked.{IsAccept}
use Rattle.load_states.specs.declared.accepted.Accepted.{Accepted}
use Rattle.load_states.specs.declared.accepted.Accepted.TheVariants as variants
use Rattle.load_states.specs.States.{Checked, Load}
use Rattle.load_states.specs.inner.States.{IsLeftAs, checked_of}
use Rattle.load_states.specs.Ready.{Told}
use Rattle.load_states.specs.inner.Ready.{written_pages}
use Rattle.load_states.specs.inner.Answers.{HoldsForRun, HoldsNoOther, IsAcceptedAs, IsMadeOf}
use Rattle.load_states.specs.inner.Runs.{checked_in}
use Rattle.load_states.proofs.Alike.{told_left}
use Rattle.load_states.proofs.Ready.{told_of}

-- a list is accepted where nothing has changed but which pages are held
pub accept_left : (s n : Load) (a : Accept) → IsLeftAs s n → IsAccept s.memory s.segments s.image a → IsAccept n.memory n.segments n.image a
accept_left s n a left h =
    let t = told_left s n a.words a.links (map as_pair a.pairs.items) left (told_of s a h) in
    (t.items, t.accepted, t.count, t.link_pages, t.same_pairs)

-- the state that was made of it
pub made_checked : (n : Load) (a : Accept) (r : Accepted) → IsMadeOf n a r → checked_in r ≡ checked_of n a
made_checked n a (variants.Plain c) h = h.1
made_checked n a (variants.Kept c) h = h.1

pub made_accepted : (s n : Load) (a : Accept) (r : Accepted) → IsLeftAs s n → IsAccept s.memory s.segments s.image a → IsMadeOf n a r → IsAcceptedAs s r
made_accepted s n a (variants.Plain c) left h made =
    let e = sym made.1 in (
      ap (λ i. i.mode) (sym left.image) ∙ made.0,
      subst (λ (c : Checked). Told s c.words c.links c.pairs) e (told_of s a h),
      subst (λ (c : Checked). IsLeftAs s c.load) e left,
    )
made_accepted s n a (variants.Kept c) left h made =
    let e = sym made.1 in (
      subst (λ i. IsSome (swap_page i.mode)) left.image made.0,
      subst (λ (c : Checked). Told s c.words c.links c.pairs) e (told_of s a h),
      subst (λ (c : Checked). IsLeftAs s c.load) e left,
    )

-- which pages are held then
pub made_held : (s n : Load) (a : Accept) (r : Accepted) → IsLeftAs s n → IsMadeOf n a r
    → AllByRecursion (λ q. IsHeld n.memory q) (written_pages s.image.mode (map as_pair a.pairs.items))
    → ((q : ℕ) → IsHeld n.memory q → IsHeld s.memory q ⊎ Has q (written_pages s.image.mode (map as_pair a.pairs.items)))
    → HoldsForRun s (checked_in r)
made_held s n a r left made written only =
    subst (HoldsForRun s) (sym (made_checked n a r made))
    (λ q. (only q, λ h. ⊎_elim (left.held q) (Each-at (λ q. IsHeld n.memory q) _ q written) h))

-- and where memory was wanted
pub holds_no_other : (s n : Load) (a : Accept) → IsAccept s.memory s.segments s.image a
    → ((q : ℕ) → IsHeld n.memory q → IsHeld s.memory q ⊎ Has q (written_pages s.image.mode (map as_pair a.pairs.items)))
    → HoldsNoOther s n
holds_no_other s n a h only q held =
    ⊎_elim (λ x. inl x) (λ x. inr (a.words, a.links, map as_pair a.pairs.items, told_of s a h, x)) (only q held)
