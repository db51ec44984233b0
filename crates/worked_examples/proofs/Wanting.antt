-- Pages that are not wanted are left alone.
use Rattle.std.proofs.Common.{◌≡◌, ℕ, List, Option, Some, None, refl, ap}
use Rattle.std.specs.Prelude.{unwrap_or}
use Rattle.kx_pages.specs.Lists.{Has}
use Rattle.kx_pages.specs.Bytes.{Mem, Wants}
use Rattle.segments.specs.Values.{overlay}
use Rattle.list_checker.specs.inner.Laws.{ListsWanted}

pub left_alone : (M : Mem) (W : Wants) (all : List ℕ) (p : ℕ) → ListsWanted W all → (Has p all → ⊥) → overlay M W p ≡ M p
left_alone M W all p listed out = go (W p) refl
  where
    go : (o : Option (List ℕ)) → W p ≡ o → unwrap_or (W p) (M p) ≡ M p
    go None e = ap (λ o. unwrap_or o (M p)) e
    go (Some bytes) e = absurd (out (listed.whole p bytes e))
