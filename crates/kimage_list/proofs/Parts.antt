-- Serving in parts.
use Rattle.std.proofs.Common.{◌≡◌, ℕ, zero, suc, ◌+◌, List, [], ◌∷◌, ◌++◌, length, length-append, Option, Some, None, refl, sym, ap, ◌∙◌, subst, arith, append_assoc, Bool, true, false, cond, take, replicate, append-nil}
use Rattle.std.specs.Prelude.{eqb, not, ◌%◌, ◌||◌, filter}
use Rattle.std.proofs.lemmas.Option.{none-some}
use Rattle.std.proofs.Math.Seq.{take-append_seam}
use Rattle.kx_pages.specs.Lists.{has}
use Rattle.kx_pages.specs.declared.image.Wish.TheVariants.{Plain, Kept}
use Rattle.kimage_list.specs.Load.{Loading, Entry, Request, is_for, source_of, begun, draw, take_page, give_page, serve, own_request, requests_from}
use Rattle.kimage_list.specs.inner.Laws.{FirstPages}
use Rattle.kx_laws.proofs.Options.{some_same}

pub served-append : (D : ℕ → Bool) (rs qs : List (Option ℕ)) (l m : Loading) → serve D rs l ≡ Some m → serve D (rs ++ qs) l ≡ serve D qs m
served-append D [] qs l m e = ap (serve D qs) (some_same l m e)
served-append D (r ∷ rs) qs l m e = go (take_page D r l) refl (λ t. served-append D rs qs (give_page r t) m)
  where
    go : (o : Option (ℕ × Loading)) → take_page D r l ≡ o → ((t : ℕ × Loading) → serve D rs (give_page r t) ≡ Some m → serve D (rs ++ qs) (give_page r t) ≡ serve D qs m) → serve D (r ∷ rs ++ qs) l ≡ serve D qs m
    go None f ih = absurd (none-some m (rw (f, serve) at e))
    go (Some t) f ih = rw (f, serve) (ih t (rw (f, serve) at e))

pub requests-append : (n : ℕ) (es fs : List Entry) → requests_from n (es ++ fs) ≡ requests_from n es ++ requests_from (n + length es) fs
requests-append n [] fs = let e : n ≡ n + 0 = omega arith in ap (λ m. requests_from m fs) e
requests-append n (e ∷ es) fs =
    let ih = requests-append (suc n) es fs in
    let z : suc n + length es ≡ n + suc (length es) = omega arith in
    ap (λ ys. cond (eqb (n % 511) 0) (None ∷ []) [] ++ (own_request e ++ ys)) (ih ∙ ap (λ m. requests_from (suc n) es ++ requests_from m fs) z)
    ∙ ap (λ ys. cond (eqb (n % 511) 0) (None ∷ []) [] ++ ys) (sym (append_assoc (own_request e) (requests_from (suc n) es) (requests_from (n + suc (length es)) fs)))
    ∙ sym (append_assoc (cond (eqb (n % 511) 0) (None ∷ []) []) (own_request e ++ requests_from (suc n) es) (requests_from (n + suc (length es)) fs))

abbrev Drawn : (ℕ → Bool) → List ℕ → ℕ × Loading → List ℕ → Type 0
Drawn D spare t ys = (t.1.pairs ≡ []) × (t.1.spare ≡ spare) × (filter (λ p. not (D p)) ys ≡ t.0 ∷ filter (λ p. not (D p)) t.1.left)

-- with no pair yet, a page for no destination is the first that is none
drawn_first : (D : ℕ → Bool) (spare filed left : List ℕ) (t : ℕ × Loading) → draw D None [] spare filed left ≡ Some t
    → (t.1.pairs ≡ []) × (t.1.spare ≡ spare) × (filter (λ p. not (D p)) left ≡ t.0 ∷ filter (λ p. not (D p)) t.1.left)
drawn_first D spare filed [] t e = absurd (none-some t e)
drawn_first D spare filed (q ∷ left) t e = go (not (D q)) refl (drawn_first D spare (q ∷ filed) left t)
  where
    go : (b : Bool) → not (D q) ≡ b → (draw D None [] spare (q ∷ filed) left ≡ Some t → Drawn D spare t left) → (t.1.pairs ≡ []) × (t.1.spare ≡ spare) × (filter (λ p. not (D p)) (q ∷ left) ≡ t.0 ∷ filter (λ p. not (D p)) t.1.left)
    go true f ih =
        let i = some_same _ t (rw (f, draw) at e) in
        subst (λ u. (u.1.pairs ≡ []) × (u.1.spare ≡ spare) × (filter (λ p. not (D p)) (q ∷ left) ≡ u.0 ∷ filter (λ p. not (D p)) u.1.left)) i (refl, refl, rw f refl)
    go false f ih = let g = ih (rw (f, draw) at e) in (g.0, g.1, rw f g.2)

pub first_spares : (D : ℕ → Bool) (k : ℕ) (m l : Loading) → m.pairs ≡ [] → serve D (replicate k None) m ≡ Some l → l.spare ≡ m.spare ++ take k (filter (λ p. not (D p)) m.left)
first_spares D zero m l n e = ap (λ x. x.spare) (sym (some_same m l e)) ∙ sym (append-nil m.spare)
first_spares D (suc k) m l n e = go (take_page D None m) refl (λ t. first_spares D k (give_page None t) l)
  where
    go : (o : Option (ℕ × Loading)) → take_page D None m ≡ o → ((t : ℕ × Loading) → t.1.pairs ≡ [] → serve D (replicate k None) (give_page None t) ≡ Some l → l.spare ≡ (t.1.spare ++ t.0 ∷ []) ++ take k (filter (λ p. not (D p)) t.1.left)) → l.spare ≡ m.spare ++ take (suc k) (filter (λ p. not (D p)) m.left)
    go None f ih = absurd (none-some l (rw (f, serve) at e))
    go (Some t) f ih =
        let d : draw D None [] m.spare m.filed m.left ≡ Some t = ap (λ ps. draw D None ps m.spare m.filed m.left) (sym n) ∙ f in
        let g = drawn_first D m.spare m.filed m.left t d in
        ih t g.0 (rw (f, serve) at e) ∙ append_assoc t.1.spare (t.0 ∷ []) (take k (filter (λ p. not (D p)) t.1.left))
        ∙ ap (λ ys. ys ++ t.0 ∷ take k (filter (λ p. not (D p)) t.1.left)) g.1 ∙ ap (λ ys. m.spare ++ take (suc k) ys) (sym g.2)

-- what is spare stays
spare-draw : (D : ℕ → Bool) (r : Request) (pairs : List (ℕ × ℕ)) (spare filed left : List ℕ) (t : ℕ × Loading) → draw D r pairs spare filed left ≡ Some t → t.1.spare ≡ spare
spare-draw D r pairs spare filed [] t e = absurd (none-some t e)
spare-draw D r pairs spare filed (q ∷ left) t e = go (is_for r q || not (D q)) refl (spare-draw D r pairs spare (q ∷ filed) left t)
  where
    seek : (is_for r q || not (D q)) ≡ false → (m : Option ℕ) → source_of q pairs ≡ m → (draw D r pairs spare (q ∷ filed) left ≡ Some t → t.1.spare ≡ spare) → t.1.spare ≡ spare
    seek f None g ih = ih (rw (f, draw, g) at e)
    seek f (Some s) g ih = ap (λ u. u.1.spare) (sym (some_same _ t (rw (f, draw, g) at e)))

    go : (b : Bool) → (is_for r q || not (D q)) ≡ b → (draw D r pairs spare (q ∷ filed) left ≡ Some t → t.1.spare ≡ spare) → t.1.spare ≡ spare
    go true f ih = ap (λ u. u.1.spare) (sym (some_same _ t (rw (f, draw) at e)))
    go false f ih = seek f (source_of q pairs) refl ih

spare-taken : (D : ℕ → Bool) (r : Request) (l : Loading) (t : ℕ × Loading) → take_page D r l ≡ Some t → t.1.spare ≡ l.spare
spare-taken D None l t e = spare-draw D None l.pairs l.spare l.filed l.left t e
spare-taken D (Some d) l t e = go (has d l.filed) refl
  where
    go : (b : Bool) → has d l.filed ≡ b → t.1.spare ≡ l.spare
    go true f = ap (λ u. u.1.spare) (sym (some_same _ t (rw (f, take_page) at e)))
    go false f = spare-draw D (Some d) l.pairs l.spare l.filed l.left t (rw (f, take_page) at e)

spare-given : (r : Request) (t : ℕ × Loading) → (xs : List ℕ) × ((give_page r t).spare ≡ t.1.spare ++ xs)
spare-given None t = (t.0 ∷ [], refl)
spare-given (Some d) t = ([], sym (append-nil t.1.spare))

-- more requests take more pages behind those that are spare
spare-served : (D : ℕ → Bool) (rs : List Request) (l m : Loading) → serve D rs l ≡ Some m → (xs : List ℕ) × (m.spare ≡ l.spare ++ xs)
spare-served D [] l m e = ([], ap (λ x. x.spare) (sym (some_same l m e)) ∙ sym (append-nil l.spare))
spare-served D (r ∷ rs) l m e = go (take_page D r l) refl (λ t. spare-served D rs (give_page r t) m)
  where
    go : (o : Option (ℕ × Loading)) → take_page D r l ≡ o → ((t : ℕ × Loading) → serve D rs (give_page r t) ≡ Some m → (xs : List ℕ) × (m.spare ≡ (give_page r t).spare ++ xs)) → (xs : List ℕ) × (m.spare ≡ l.spare ++ xs)
    go None f ih = absurd (none-some m (rw (f, serve) at e))
    go (Some t) f ih =
        let k = ih t (rw (f, serve) at e) in
        let g = spare-given r t in
        (g.0 ++ k.0, k.1 ∙ ap (λ ys. ys ++ k.0) (g.1 ∙ ap (λ ys. ys ++ g.0) (spare-taken D r l t f)) ∙ append_assoc l.spare g.0 k.0)

-- serving in two parts
served-split : (D : ℕ → Bool) (rs qs : List Request) (l o : Loading) → serve D (rs ++ qs) l ≡ Some o → (m : Loading) × (serve D rs l ≡ Some m) × (serve D qs m ≡ Some o)
served-split D [] qs l o e = (l, refl, e)
served-split D (r ∷ rs) qs l o e = go (take_page D r l) refl (λ t. served-split D rs qs (give_page r t) o)
  where
    go : (x : Option (ℕ × Loading)) → take_page D r l ≡ x → ((t : ℕ × Loading) → serve D (rs ++ qs) (give_page r t) ≡ Some o → (m : Loading) × (serve D rs (give_page r t) ≡ Some m) × (serve D qs m ≡ Some o)) → (m : Loading) × (serve D (r ∷ rs) l ≡ Some m) × (serve D qs m ≡ Some o)
    go None f ih = absurd (none-some o (rw (f, serve) at e))
    go (Some t) f ih = let k = ih t (rw (f, serve) at e) in (k.0, rw (f, serve) k.1, k.2)

many-spares : (D : ℕ → Bool) (k : ℕ) (m l : Loading) → serve D (replicate k None) m ≡ Some l → length l.spare ≡ length m.spare + k
many-spares D zero m l e = let same : length l.spare ≡ length m.spare = ap (λ x. length x.spare) (sym (some_same m l e)) in omega (arith, same)
many-spares D (suc k) m l e = go (take_page D None m) refl (λ t. many-spares D k (give_page None t) l)
  where
    go : (o : Option (ℕ × Loading)) → take_page D None m ≡ o → ((t : ℕ × Loading) → serve D (replicate k None) (give_page None t) ≡ Some l → length l.spare ≡ length (t.1.spare ++ t.0 ∷ []) + k) → length l.spare ≡ length m.spare + suc k
    go None f ih = absurd (none-some l (rw (f, serve) at e))
    go (Some t) f ih = omega (arith, ih t (rw (f, serve) at e), length-append t.1.spare (t.0 ∷ []), ap length (spare-taken D None m t f))

-- the pages taken first are the first ones that D does not tell
first_of : (D : ℕ → Bool) (k : ℕ) (rest : List Request) (pool : List ℕ) (l : Loading) → serve D (replicate k None ++ rest) (begun pool) ≡ Some l → take k l.spare ≡ take k (filter (λ p. not (D p)) pool)
first_of D k rest pool l e =
    let m = served-split D (replicate k None) rest (begun pool) l e in
    let more = spare-served D rest m.0 l m.2 in
    let size : length m.0.spare ≡ k = omega (arith, many-spares D k (begun pool) m.0 m.1) in
    ap (take k) more.1 ∙ ap (λ n. take n (m.0.spare ++ more.0)) (sym size) ∙ take-append_seam m.0.spare more.0 ∙ first_spares D k (begun pool) m.0 refl m.1

pub first_pages : FirstPages
first_pages D Plain e es pool l h = first_of D 2 (own_request e ++ requests_from 1 es) pool l h
first_pages D Kept e es pool l h = first_of D 3 (own_request e ++ requests_from 1 es) pool l h
