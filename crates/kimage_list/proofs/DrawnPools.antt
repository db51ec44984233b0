-- A pool of which pages were drawn.
use Rattle.std.proofs.Common.{◌≡◌, ℕ, List, [], ◌∷◌, ◌++◌, Bool, true, false, refl, sym, ap, ◌∙◌, take, drop, append_assoc}
use Rattle.std.specs.Prelude.{◌||◌, not, eqb}
use Rattle.std.specs.List.{filter}
use Rattle.std.proofs.lemmas.List.{append_cancel_right, take-append-drop}
use Rattle.kx_pages.specs.Lists.{has}
use Rattle.page_pool.specs.Pages.{Pages, left_among, usable_of}
use Rattle.kimage_list.specs.Tracking.{whole_pool}
use Rattle.kimage_list.specs.Calls.{HasDrawn}

has-append : (x : ℕ) (xs ys : List ℕ) → has x (xs ++ ys) ≡ (has x xs || has x ys)
has-append x [] ys = refl
has-append x (y ∷ xs) ys = ap (λ b. eqb y x || b) (has-append x xs ys) ∙ either (eqb y x)
  where
    either : (b : Bool) → (b || (has x xs || has x ys)) ≡ ((b || has x xs) || has x ys)
    either true = refl
    either false = refl

filter_twice : (f g : ℕ → Bool) (xs : List ℕ) → filter (λ q. not (f q || g q)) xs ≡ filter (λ q. not (g q)) (filter (λ q. not (f q)) xs)
filter_twice f g [] = refl
filter_twice f g (x ∷ xs) = go (f x) refl (g x) refl (filter_twice f g xs)
  where
    go : (a : Bool) → f x ≡ a → (b : Bool) → g x ≡ b → filter (λ q. not (f q || g q)) xs ≡ filter (λ q. not (g q)) (filter (λ q. not (f q)) xs)
        → filter (λ q. not (f q || g q)) (x ∷ xs) ≡ filter (λ q. not (g q)) (filter (λ q. not (f q)) (x ∷ xs))
    go true e b h ih = rw e ih
    go false e true h ih = rw (e, h) ih
    go false e false h ih = rw (e, h) (ap (λ (ys : List ℕ). x ∷ ys) ih)

-- the pages that are not among those drawn first, nor among those drawn then
left_twice : (made drawn xs : List ℕ) → left_among made (drawn ++ xs) ≡ left_among (left_among made drawn) xs
unfolding left_among
left_twice made drawn xs =
    ap (λ (f : ℕ → Bool). filter (λ q. not (f q)) made) (λ i q. has-append q drawn xs i)
    ∙ filter_twice (λ q. has q drawn) (λ q. has q xs) made

module _ (n : ℕ) (p q : Pages) (rest : usable_of q ≡ drop n (usable_of p)) (whole : whole_pool q ≡ whole_pool p) where
  drawn : q.drawn ≡ p.drawn ++ take n (usable_of p)
  drawn =
      append_cancel_right q.drawn (p.drawn ++ take n (usable_of p)) (drop n (usable_of p))
      (ap (λ xs. q.drawn ++ xs) (sym rest) ∙ ap (λ w. w.0) whole ∙ ap (λ xs. p.drawn ++ xs) (sym (take-append-drop n (usable_of p))) ∙ sym (append_assoc p.drawn (take n (usable_of p)) (drop n (usable_of p))))

  pub has_drawn : HasDrawn n p q
  has_drawn =
      let made : q.made ≡ p.made = ap (λ w. w.1) whole in
      record {
        drawn = drawn;
        usable = rest;
        left = ap (λ (xs : List ℕ). left_among xs q.drawn) made ∙ ap (left_among p.made) drawn ∙ left_twice p.made p.drawn (take n (usable_of p));
        made = made;
        limit = ap (λ w. w.2) whole;
      }
