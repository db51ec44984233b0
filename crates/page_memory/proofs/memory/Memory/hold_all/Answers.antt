use Rattle.std.proofs.Common.{◌≡◌, ℕ, ◌+◌, ◌<◌, ◌⊎◌, inl, inr, refl, List, [], ◌∷◌, zero, suc, length, sym, ap, subst, ◌∙◌, arith}
use Rattle.std.specs.Prelude.{slice_index_or}
use Rattle.std.proofs.Math.Logic.{⊎_elim}
use Rattle.std.proofs.lemmas.Bool.{cases_lt}
use Rattle.kx_pages.specs.Lists.{Has}
use Rattle.page_memory.specs.Contents.{Contents, at}
use Rattle.page_memory.specs.inner.Contents.{IsHeld}
use Rattle.page_memory.proofs.memory.Memory.hold_all.Invariants.{Held}
use Rattle.page_memory.proofs.memory.Memory.hold_all.Goals as goal

-- an item stands in its list
has_item : (xs : List ℕ) (i d : ℕ) → i < length xs → Has (slice_index_or xs i d) xs
has_item [] i d h = absurd (omega (arith, h))
has_item (x ∷ xs) zero d h = inl refl
has_item (x ∷ xs) (suc i) d h = inr (has_item xs i d (omega (arith, h)))

any_default : (xs : List ℕ) (i c d : ℕ) → i < length xs → slice_index_or xs i c ≡ slice_index_or xs i d
any_default [] i c d h = absurd (omega (arith, h))
any_default (x ∷ xs) zero c d h = refl
any_default (x ∷ xs) (suc i) c d h = any_default xs i c d (omega (arith, h))

-- one page more that may be held
still_only : (old mid new : Contents) (xs : List ℕ) (i p : ℕ) → i < length xs → p ≡ slice_index_or xs i p → ((q : ℕ) → IsHeld mid q → IsHeld old q ⊎ Has q xs) → ((q : ℕ) → IsHeld new q → IsHeld mid q ⊎ (q ≡ p)) → (q : ℕ) → IsHeld new q → IsHeld old q ⊎ Has q xs
still_only old mid new xs i p inside is before step q h = ⊎_elim (before q) (λ same. inr (subst (λ k. Has k xs) (sym (same ∙ is)) (has_item xs i p inside))) (step q h)

-- the pages up to one more
held_before : (new : Contents) (xs : List ℕ) (i p k d : ℕ) → i < length xs → p ≡ slice_index_or xs i p → k ≡ i → IsHeld new p → IsHeld new (slice_index_or xs k d)
held_before new xs i p k d inside is same h = subst (IsHeld new) (is ∙ any_default xs i p d inside ∙ ap (λ n. slice_index_or xs n d) (sym same)) h

one_more : (old mid new : Contents) (xs : List ℕ) (i p : ℕ) → i < length xs → p ≡ slice_index_or xs i p → Held old mid xs i → ((q : ℕ) → at new q ≡ at mid q) → new.sets ≡ mid.sets → ((q : ℕ) → IsHeld mid q → IsHeld new q) → ((q : ℕ) → IsHeld new q → IsHeld mid q ⊎ (q ≡ p)) → IsHeld new p → Held old new xs (i + 1)
one_more old mid new xs i p inside is before same sets stay only here = record {
  held = λ k d below. ⊎_elim (λ less. stay (slice_index_or xs k d) (before.held k d less)) (λ up. held_before new xs i p k d inside is (omega (arith, up, below)) here) (cases_lt k i);
  same = λ q. same q ∙ before.same q;
  sets = sets ∙ before.sets;
  stay = λ q h. stay q (before.stay q h);
  only = still_only old mid new xs i p inside is before.only only;
}

pub returns-in_err-hold-clause-only : goal.returns-in_err-hold-clause-only
returns-in_err-hold-clause-only c = still_only c.args.self.now c.loop-page.self c.hold.new.self c.args.pages.now c.loop-page.page-index c.page-item.result c.loop-page-test.true c.page-item.is c.loop-page.invariant.only c.hold.ensures.only

pub loop-page-preserved : goal.loop-page-preserved
loop-page-preserved c =
    one_more c.args.self.now c.loop-page.self c.hold.new.self c.args.pages.now c.loop-page.page-index c.page-item.result c.loop-page-test.true c.page-item.is c.loop-page.invariant c.hold.ensures.same c.hold.ensures.sets
    c.hold.ensures.stay c.hold.ensures.only c.in_ok-hold.ensures.held
