-- The moves of a list's pairs, one after another, on memory as a function.
use Rattle.std.proofs.Common.{◌≡◌, ℕ, List, [], ◌∷◌, Option, Some, None, refl, sym, ap, ◌∙◌, subst, inl, inr, arith}
use Rattle.std.specs.List.{AllByRecursion}
use Rattle.std.specs.Prelude.{◌≢◌, cond, eqb, unwrap_or}
use Rattle.kx_pages.specs.declared.image.Mode.{Mode}
use Rattle.kx_pages.specs.declared.image.Mode.TheVariants.{Plain, Kept}
use Rattle.kx_pages.specs.Bytes.{Mem, Wants}
use Rattle.page_memory.specs.Memory.{put}
use Rattle.page_memory.specs.inner.Memory.{copied_page}
use Rattle.kx_pages.specs.Lists.{Has, destinations}
use Rattle.list_checker.specs.Walk.{InOrder}
use Rattle.segments.specs.Values.{overlay}
use Rattle.std.proofs.lemmas.Option.{none-some}
use Rattle.kx_pages.proofs.Lists.{Each-map, Each-both}

put-apart : (M : Mem) (p q : ℕ) (b : (List ℕ)) → p ≢ q → put M p b q ≡ M q
put-apart M p q b apart = grind arith

put-same : (M : Mem) (p : ℕ) (b : (List ℕ)) → put M p b p ≡ b
put-same M p b = grind arith

-- one page's move
abbrev pub moved_in : Mode → Mem → ℕ → ℕ → Mem
moved_in Plain M source to = copied_page M source to
moved_in (Kept swap) M source to = copied_page (copied_page (copied_page M source swap) to source) swap to

-- the moves of these pairs, one after another
abbrev pub moves : Mode → Mem → List (ℕ × ℕ) → Mem
moves mode M [] = M
moves mode M (q ∷ qs) = moves mode (moved_in mode M q.1 q.0) qs

-- no page of this move is p
abbrev pub Spares : Mode → ℕ × ℕ → ℕ → Type 0
Spares Plain q p = q.0 ≢ p
Spares (Kept swap) q p = (q.0 ≢ p) × (q.1 ≢ p) × (swap ≢ p)

pub moved-apart : (mode : Mode) (M : Mem) (q : ℕ × ℕ) (p : ℕ) → Spares mode q p → moved_in mode M q.1 q.0 p ≡ M p
moved-apart Plain M q p h = put-apart M q.0 p (M q.1) h
moved-apart (Kept swap) M q p h =
    let M1 = copied_page M q.1 swap in
    let M2 = copied_page M1 q.0 q.1 in
    put-apart M2 q.0 p (M2 swap) h.0 ∙ put-apart M1 q.1 p (M1 q.0) h.1 ∙ put-apart M swap p (M q.1) h.2

pub copied_alike : (M N : Mem) (s d : ℕ) → ((p : ℕ) → M p ≡ N p) → (p : ℕ) → copied_page M s d p ≡ copied_page N s d p
copied_alike M N s d h p = ap (λ x. cond (eqb p d) x (M p)) (h s) ∙ ap (cond (eqb p d) (N s)) (h p)

moved_alike : (mode : Mode) (M N : Mem) (s d : ℕ) → ((p : ℕ) → M p ≡ N p) → (p : ℕ) → moved_in mode M s d p ≡ moved_in mode N s d p
moved_alike Plain M N s d h = copied_alike M N s d h
moved_alike (Kept w) M N s d h = copied_alike _ _ w d (copied_alike (copied_page M s w) (copied_page N s w) d s (copied_alike M N s w h))

pub moves_alike : (mode : Mode) (M N : Mem) (qs : List (ℕ × ℕ)) → ((p : ℕ) → M p ≡ N p) → (p : ℕ) → moves mode M qs p ≡ moves mode N qs p
moves_alike mode M N [] h p = h p
moves_alike mode M N (q ∷ qs) h p = moves_alike mode (moved_in mode M q.1 q.0) (moved_in mode N q.1 q.0) qs (moved_alike mode M N q.1 q.0 h) p

-- the moves of a plain list
others : (qs : List (ℕ × ℕ)) (M : Mem) (p : ℕ) → AllByRecursion (λ q. q.0 ≢ p) qs → moves Plain M qs p ≡ M p
others [] M p h = refl
others (q ∷ qs) M p h = others qs (copied_page M q.1 q.0) p h.1 ∙ put-apart M q.0 p (M q.1) h.0

settles : (W : Wants) (qs : List (ℕ × ℕ)) (M : Mem) → InOrder qs → AllByRecursion (λ q. W q.0 ≡ Some (M q.1)) qs → (p : ℕ) → Has p (destinations qs) → W p ≡ Some (moves Plain M qs p)
settles W [] M u b p h = absurd h
settles W (q ∷ qs) M u b p (inl e) =
    let away : AllByRecursion (λ r. r.0 ≢ p) qs = Each-map qs (λ r h k. h.0 (e ∙ sym k)) u.0 in
    let here : copied_page M q.1 q.0 p ≡ M q.1 = subst (λ x. copied_page M q.1 q.0 x ≡ M q.1) e (put-same M q.0 (M q.1)) in
    ap W (sym e) ∙ b.0 ∙ ap Some (sym (others qs (copied_page M q.1 q.0) p away ∙ here))
settles W (q ∷ qs) M u b p (inr h) =
    let stay : AllByRecursion (λ r. W r.0 ≡ Some (copied_page M q.1 q.0 r.1)) qs =
    Each-both qs (λ r h k. k ∙ ap Some (sym (put-apart M q.0 r.1 (M q.1) h.1))) u.0 b.1 in
    settles W qs (copied_page M q.1 q.0) u.1 stay p h

pub lays_over : (M : Mem) (W : Wants) (qs : List (ℕ × ℕ)) → InOrder qs → ((p : ℕ) (b : (List ℕ)) → W p ≡ Some b → Has p (destinations qs)) → AllByRecursion (λ q. W q.0 ≡ Some (M q.1)) qs → (p : ℕ) → moves Plain M qs p ≡ overlay M W p
lays_over M W qs u whole b p = go (W p) refl
  where
    go : (o : Option (List ℕ)) → W p ≡ o → moves Plain M qs p ≡ unwrap_or (W p) (M p)
    go (Some x) e = sym (ap (λ o. unwrap_or o (M p)) (settles W qs M u b p (whole p x e)))
    go None e =
        let away : AllByRecursion (λ q. q.0 ≢ p) qs = Each-map qs (λ q h k. none-some (M q.1) (sym e ∙ ap W (sym k) ∙ h)) b in
        others qs M p away ∙ ap (λ o. unwrap_or o (M p)) (sym e)
