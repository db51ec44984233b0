-- One drawn page, in a pool and a table.
use Rattle.std.proofs.Common.{◌≡◌, ℕ, ◌+◌, ◌≤◌, List, [], ◌∷◌, ◌++◌, Bool, true, false, cond, Option, Some, None, refl, sym, ap, ◌∙◌, subst, ⊎_elim, inl, inr, arith, append_assoc}
use Rattle.std.specs.Prelude.{◌≢◌, ◌⊎◌, ◌||◌, not, eqb, is_some, unwrap_or}
use Rattle.std.proofs.lemmas.Option.{none-some}
use Rattle.std.proofs.lemmas.Bool.Decides.{eqb_tells}
use Rattle.std.specs.Ordering.{nat_cmp, is_eq}
use Rattle.std.specs.Cmp.{nat_cmp_total, eq_by_cmp_equiv}
use Rattle.std.specs.FinMap.{get, get-insert, nat_cmp-IsAntisymmetric}
use Rattle.page_pool.specs.Pages.{Pages, is_filed, usable_of}
use Rattle.page_pool.specs.inner.Pages.{mark}
use Rattle.kx_laws.proofs.Booleans.{is_eq-false}
use Rattle.kimage_list.proofs.Lists.{eqb-self}
use Rattle.kimage_list.specs.Load.{Loading, without, source_of, at_home, is_for, draw, take_page}
use Rattle.kimage_list.specs.inner.Tables.{Slots, slot, source_in, place_in}
use Rattle.kimage_list.specs.Tracking.{whole_pool}
use Rattle.kimage_list.specs.inner.Tracking.{Tracks, fate_of, Took, Gives, Exchanged as Pair}
use Rattle.kimage_list.specs.declared.table.PageSource.{PageSource}
use Rattle.kimage_list.specs.declared.taking.Fate.{Fate}
use Rattle.kimage_list.specs.declared.taking.Fate.TheVariants.{Exchanged, Given, Filed}
use Rattle.kimage_list.specs.declared.taking.TakenPage.{TakenPage}
use Rattle.kx_pages.specs.Lists.{has, count}
use Rattle.kx_pages.proofs.Counting.{count-append}

-- drawing from this pool and table on gives what drawing from l gives
pub record Reaches (D : ℕ → Bool) (r : Option ℕ) (l : Loading) (pool : Pages) (table : Slots)
    : Type 0 where
  pub now : Loading
  pub tracks : Tracks D now pool table
  pub same : draw D r now.pairs now.spare now.filed now.left
      ≡ draw D r l.pairs l.spare l.filed l.left
  pub pairs : now.pairs ≡ l.pairs

-- the loop that draws
pub record Draws (r : Option ℕ) (pool : Pages) (table : Slots) (pool' : Pages) (table' : Slots)
    : Type 0 where
  pub reaches : (D : ℕ → Bool) (l : Loading) → Tracks D l pool table → Reaches D r l pool' table'
  pub same : table' ≡ table
  pub pages : whole_pool pool' ≡ whole_pool pool

abbrev pub loading : List ℕ → List ℕ → List (ℕ × ℕ) → List ℕ → Loading
loading left filed pairs spare = record { left = left; filed = filed; pairs = pairs; spare = spare }

-- what drawing q gives, by its fate
abbrev pub Step : (ℕ → Bool) → Option ℕ → List (ℕ × ℕ) → List ℕ → List ℕ → ℕ → List ℕ → Fate → Type 0
Step D r pairs spare filed q left Given = draw D r pairs spare filed (q ∷ left) ≡ Some (q, loading left filed pairs spare)
Step D r pairs spare filed q left Filed = draw D r pairs spare filed (q ∷ left) ≡ draw D r pairs spare (q ∷ filed) left
Step D r pairs spare filed q left (Exchanged x) = (draw D r pairs spare filed (q ∷ left) ≡ Some (x.source, loading left filed (at_home q pairs) spare)) × (source_of q pairs ≡ Some x.source)

pub draw_step : (D : ℕ → Bool) (r : Option ℕ) (pairs : List (ℕ × ℕ)) (spare filed : List ℕ) (q : ℕ) (left : List ℕ) (b : Bool) (o : Option (Option PageSource))
    → is_for r q ≡ b → D q ≡ is_some o → source_in o ≡ source_of q pairs → Step D r pairs spare filed q left (fate_of b o)
draw_step D r pairs spare filed q left true o e d s =
    let f : (is_for r q || not (D q)) ≡ true = ap (λ v. v || not (D q)) e in
    rw (f, draw) refl
draw_step D r pairs spare filed q left false None e d s =
    let f : (is_for r q || not (D q)) ≡ true = ap (λ v. v || not (D q)) e ∙ ap not d in
    rw (f, draw) refl
draw_step D r pairs spare filed q left false (Some None) e d s =
    let f : (is_for r q || not (D q)) ≡ false = ap (λ v. v || not (D q)) e ∙ ap not d in
    let g : source_of q pairs ≡ None = sym s in
    rw (f, draw, g) refl
draw_step D r pairs spare filed q left false (Some (Some x)) e d s =
    let f : (is_for r q || not (D q)) ≡ false = ap (λ v. v || not (D q)) e ∙ ap not d in
    let g : source_of q pairs ≡ Some x.source = sym s in
    (rw (f, draw, g) refl, g)

pub fate-exchanged : (b : Bool) (o : Option (Option PageSource)) (x : PageSource) → fate_of b o ≡ Exchanged x → o ≡ Some (Some x)
fate-exchanged true o x e = cc
fate-exchanged false None x e = cc
fate-exchanged false (Some None) x e = cc
fate-exchanged false (Some (Some y)) x e = cc

eqb-apart : (x y : ℕ) → x ≢ y → eqb x y ≡ false
eqb-apart x y n = ⊎_elim (λ t. absurd (n t.1)) (λ t. t.0) (eqb_tells x y)

pub source_of-at_home : (q s : ℕ) (ps : List (ℕ × ℕ)) → source_of q ps ≡ Some s → source_of q (at_home q ps) ≡ Some q
source_of-at_home q s [] e = absurd (none-some s e)
source_of-at_home q s (p ∷ ps) e = go (eqb_tells p.0 q) (source_of-at_home q s ps)
  where
    go : ((eqb p.0 q ≡ true) × (p.0 ≡ q)) ⊎ ((eqb p.0 q ≡ false) × (p.0 ≢ q)) → (source_of q ps ≡ Some s → source_of q (at_home q ps) ≡ Some q) → source_of q (at_home q (p ∷ ps)) ≡ Some q
    go (inl t) ih = rw t.0 (ap (λ b. cond b (Some q) (source_of q ps)) (same q))
      where
        same : (x : ℕ) → eqb x x ≡ true
        same x = ⊎_elim (λ t. t.0) (λ t. absurd (t.1 refl)) (eqb_tells x x)
    go (inr t) ih = rw (t.0, t.0) (ih (rw t.0 at e))

pub source_of-at_home_other : (p q : ℕ) (ps : List (ℕ × ℕ)) → q ≢ p → source_of p (at_home q ps) ≡ source_of p ps
source_of-at_home_other p q [] n = refl
source_of-at_home_other p q (r ∷ ps) n = go (eqb_tells r.0 q) (source_of-at_home_other p q ps n)
  where
    go : ((eqb r.0 q ≡ true) × (r.0 ≡ q)) ⊎ ((eqb r.0 q ≡ false) × (r.0 ≢ q)) → source_of p (at_home q ps) ≡ source_of p ps → source_of p (at_home q (r ∷ ps)) ≡ source_of p (r ∷ ps)
    go (inl t) ih =
        let a = eqb-apart q p n in
        let b : eqb r.0 p ≡ false = ap (λ x. eqb x p) t.1 ∙ a in
        rw (t.0, a, b) refl
    go (inr t) ih = rw t.0 (ap (cond (eqb r.0 p) (Some r.1)) ih)

-- the next page is given
pub tracks-given : (D : ℕ → Bool) (m : Loading) (pool pool' : Pages) (table : Slots) (q : ℕ) → Tracks D m pool table → usable_of pool ≡ q ∷ usable_of pool' → pool'.marks ≡ pool.marks
    → Tracks D (loading (usable_of pool') m.filed m.pairs m.spare) pool' table
tracks-given D m pool pool' table q s l k = record {
  left = refl;
  filed = λ p. ap (λ x. unwrap_or (get x p) false) k ∙ s.filed p;
  wanted = s.wanted;
  loaded = s.loaded;
  once = λ p. omega (arith, s.once p, ap (count p) (sym s.left ∙ l));
}

is_filed-marked : (pool : Pages) (q p : ℕ) (b : Bool) → is_filed (mark pool q b) p ≡ cond (eqb q p) b (is_filed pool p)
is_filed-marked pool q p b = ap (λ o. unwrap_or o false) (get-insert nat_cmp_total pool.marks q b p) ∙ go (eqb_tells q p)
  where
    go : ((eqb q p ≡ true) × (q ≡ p)) ⊎ ((eqb q p ≡ false) × (q ≢ p)) → unwrap_or (cond (is_eq (nat_cmp p q)) (Some b) (get pool.marks p)) false ≡ cond (eqb q p) b (is_filed pool p)
    go (inl t) =
        let y : is_eq (nat_cmp p q) ≡ true = ap (λ x. is_eq (nat_cmp p x)) t.1 ∙ (eq_by_cmp_equiv nat_cmp_total).refl p in
        rw (t.0, y) refl
    go (inr t) =
        let y : is_eq (nat_cmp p q) ≡ false = is_eq-false (nat_cmp p q) (λ e. t.1 (sym (nat_cmp-IsAntisymmetric p q e))) in
        rw (t.0, y) refl

or_cond : (b c : Bool) → cond b true c ≡ (b || c)
or_cond true c = refl
or_cond false c = refl

-- the next page is filed
pub tracks-filed : (D : ℕ → Bool) (m : Loading) (pool pool' : Pages) (table : Slots) (q : ℕ) → Tracks D m pool table → usable_of pool ≡ q ∷ usable_of pool' → pool'.marks ≡ pool.marks
    → Tracks D (loading (usable_of pool') (q ∷ m.filed) m.pairs m.spare) (mark pool' q true) table
tracks-filed D m pool pool' table q s l k = record {
  left = refl;
  filed = λ p. is_filed-marked pool' q p true ∙ or_cond (eqb q p) (is_filed pool' p) ∙ ap (λ b. eqb q p || b) (ap (λ x. unwrap_or (get x p) false) k ∙ s.filed p);
  wanted = s.wanted;
  loaded = s.loaded;
  once = λ p. omega (arith, s.once p, ap (count p) (sym s.left ∙ l));
}

-- a loaded page is given as its own source
pub tracks-exchanged : (D : ℕ → Bool) (m : Loading) (pool : Pages) (table table' : Slots) (q : ℕ) (x : PageSource) → Tracks D m pool table → slot table q ≡ Some (Some x)
    → slot table' q ≡ Some (Some (record { source = q; place = x.place })) → ((p : ℕ) → q ≢ p → slot table' p ≡ slot table p)
    → Tracks D (loading m.left m.filed (at_home q m.pairs) m.spare) pool table'
tracks-exchanged D m pool table table' q x s o n k = record {
  left = s.left;
  filed = s.filed;
  wanted = λ p. wanted p (eqb_tells q p);
  loaded = λ p. loaded p (eqb_tells q p);
  once = s.once;
}
  where
    Here : PageSource
    Here = record { source = q; place = x.place }

    wanted : (p : ℕ) → ((eqb q p ≡ true) × (q ≡ p)) ⊎ ((eqb q p ≡ false) × (q ≢ p)) → D p ≡ is_some (slot table' p)
    wanted p (inl t) = s.wanted p ∙ ap (λ y. is_some (slot table y)) (sym t.1) ∙ ap is_some o ∙ sym (ap is_some n) ∙ ap (λ y. is_some (slot table' y)) t.1
    wanted p (inr t) = s.wanted p ∙ ap is_some (sym (k p t.1))

    loaded : (p : ℕ) → ((eqb q p ≡ true) × (q ≡ p)) ⊎ ((eqb q p ≡ false) × (q ≢ p)) → source_in (slot table' p) ≡ source_of p (at_home q m.pairs)
    loaded p (inl t) =
        ap (λ y. source_in (slot table' y)) (sym t.1) ∙ ap source_in n
        ∙ sym (source_of-at_home q x.source m.pairs (sym (s.loaded q) ∙ ap source_in o)) ∙ ap (λ y. source_of y (at_home q m.pairs)) t.1
    loaded p (inr t) = ap source_in (k p t.1) ∙ s.loaded p ∙ sym (source_of-at_home_other p q m.pairs t.1)

pub places-exchanged : (table table' : Slots) (q : ℕ) (x : PageSource) → slot table q ≡ Some (Some x) → slot table' q ≡ Some (Some (record { source = q; place = x.place }))
    → ((p : ℕ) → q ≢ p → slot table' p ≡ slot table p) → (p : ℕ) → place_in (slot table' p) ≡ place_in (slot table p)
places-exchanged table table' q x o n k p = go (eqb_tells q p)
  where
    go : ((eqb q p ≡ true) × (q ≡ p)) ⊎ ((eqb q p ≡ false) × (q ≢ p)) → place_in (slot table' p) ≡ place_in (slot table p)
    go (inl t) = ap (λ y. place_in (slot table' y)) (sym t.1) ∙ ap place_in n ∙ sym (ap place_in o) ∙ ap (λ y. place_in (slot table y)) t.1
    go (inr t) = ap place_in (k p t.1)

-- what drawing q gives where the loop tracks
step_reaches : (D : ℕ → Bool) (r : Option ℕ) (l : Loading) (pool pool' : Pages) (table : Slots) (q : ℕ) (f : Fate) (h : Reaches D r l pool table) → usable_of pool ≡ q ∷ usable_of pool'
    → f ≡ fate_of (is_for r q) (slot table q) → Step D r h.now.pairs h.now.spare h.now.filed q (usable_of pool') f
step_reaches D r l pool pool' table q f h e g =
    subst (Step D r h.now.pairs h.now.spare h.now.filed q (usable_of pool')) (sym g)
    (draw_step D r h.now.pairs h.now.spare h.now.filed q (usable_of pool') (is_for r q) (slot table q) refl (h.tracks.wanted q) (h.tracks.loaded q))

before : (D : ℕ → Bool) (r : Option ℕ) (l : Loading) (pool pool' : Pages) (table : Slots) (q : ℕ) (h : Reaches D r l pool table) → usable_of pool ≡ q ∷ usable_of pool'
    → draw D r l.pairs l.spare l.filed l.left ≡ draw D r h.now.pairs h.now.spare h.now.filed (q ∷ usable_of pool')
before D r l pool pool' table q h e = sym h.same ∙ ap (draw D r h.now.pairs h.now.spare h.now.filed) (sym h.tracks.left ∙ e)

-- gives at a value of the definition that is known
pub gives_at : (D : ℕ → Bool) (l : Loading) (o : Option (ℕ × Loading)) (t : ℕ × Loading) (x : TakenPage) (pool : Pages) (table table' : Slots) → o ≡ Some t → Took D l t x pool table table' → Gives D l o (Some x) pool table table'
gives_at D l o t x pool table table' e k = subst (λ v. Gives D l v (Some x) pool table table') (sym e) k

pub gives-given : (D : ℕ → Bool) (r : Option ℕ) (l : Loading) (pool pool' : Pages) (table now : Slots) (q : ℕ) → Reaches D r l pool now → now ≡ table → usable_of pool ≡ q ∷ usable_of pool' → pool'.marks ≡ pool.marks
    → Given ≡ fate_of (is_for r q) (slot now q) → Gives D l (draw D r l.pairs l.spare l.filed l.left) (Some (record { page = q; moved = None })) pool' table now
gives-given D r l pool pool' table now q h e left marks f =
    gives_at D l _ (q, loading (usable_of pool') h.now.filed h.now.pairs h.now.spare) (record { page = q; moved = None }) pool' table now
    (before D r l pool pool' now q h left ∙ step_reaches D r l pool pool' now q Given h left f)
    (record {
      page = refl;
      tracks = tracks-given D h.now pool pool' now q h.tracks left marks;
      exchanged = h.pairs;
      places = λ p. ap (λ t. place_in (slot t p)) e;
    })

pub gives-exchanged : (D : ℕ → Bool) (r : Option ℕ) (l : Loading) (pool pool' : Pages) (table now table' : Slots) (q : ℕ) (x : PageSource) (y : TakenPage) → Reaches D r l pool now → now ≡ table → usable_of pool ≡ q ∷ usable_of pool' → pool'.marks ≡ pool.marks
    → Exchanged x ≡ fate_of (is_for r q) (slot now q) → y.page ≡ x.source → y.moved ≡ Some (record { page = q; place = x.place })
    → slot table' q ≡ Some (Some (record { source = q; place = x.place })) → ((p : ℕ) → q ≢ p → slot table' p ≡ slot now p)
    → Gives D l (draw D r l.pairs l.spare l.filed l.left) (Some y) pool' table table'
gives-exchanged D r l pool pool' table now table' q x y h e left marks f page moved here others =
    let k = step_reaches D r l pool pool' now q (Exchanged x) h left f in
    let o = fate-exchanged (is_for r q) (slot now q) x (sym f) in
    gives_at D l _ (x.source, loading (usable_of pool') h.now.filed (at_home q h.now.pairs) h.now.spare) y pool' table table'
    (before D r l pool pool' now q h left ∙ k.0)
    (record {
      page = page;
      tracks = tracks-exchanged D (loading (usable_of pool') h.now.filed h.now.pairs h.now.spare) pool' now table' q x (tracks-given D h.now pool pool' now q h.tracks left marks) o here others;
      exchanged = subst (λ v. Pair v l.pairs (at_home q h.now.pairs) x.source table) (sym moved)
          (ap (source_of q) (sym h.pairs) ∙ k.1, ap (at_home q) h.pairs, ap (λ t. place_in (slot t q)) (sym e) ∙ ap place_in o);
      places = λ p. places-exchanged now table' q x o here others p ∙ ap (λ t. place_in (slot t p)) e;
    })

-- drawing a page, and marking one, keep the pool's pages
pub whole-drawn : (pool pool' : Pages) (q : ℕ) → usable_of pool ≡ q ∷ usable_of pool' → pool' ≡ record pool { drawn = pool.drawn ++ q ∷ [] } → whole_pool pool' ≡ whole_pool pool
whole-drawn pool pool' q left new =
    ap (λ (v : Pages). (v.drawn ++ usable_of pool', v.made, v.limit)) new
    ∙ ap (λ (xs : List ℕ). (xs, pool.made, pool.limit)) (append_assoc pool.drawn (q ∷ []) (usable_of pool') ∙ ap (λ xs. pool.drawn ++ xs) (sym left))

pub whole-marked : (pool pool' : Pages) (q : ℕ) (b : Bool) → pool' ≡ mark pool q b → whole_pool pool' ≡ whole_pool pool
whole-marked pool pool' q b e = ap whole_pool e

pub draws-filed : (r : Option ℕ) (pool pool' pool'' : Pages) (start : Pages) (table now : Slots) (q : ℕ) → Draws r start table pool now → usable_of pool ≡ q ∷ usable_of pool' → pool' ≡ record pool { drawn = pool.drawn ++ q ∷ [] }
    → Filed ≡ fate_of (is_for r q) (slot now q) → pool'' ≡ mark pool' q true → Draws r start table pool'' now
draws-filed r pool pool' pool'' start table now q d left new f e = record {
  reaches = λ D l s.
      let h = d.reaches D l s in
      record {
        now = loading (usable_of pool') (q ∷ h.now.filed) h.now.pairs h.now.spare;
        tracks = subst (λ v. Tracks D (loading (usable_of pool') (q ∷ h.now.filed) h.now.pairs h.now.spare) v now) (sym e) (tracks-filed D h.now pool pool' now q h.tracks left (ap (λ v. v.marks) new));
        same = sym (step_reaches D r l pool pool' now q Filed h left f) ∙ sym (before D r l pool pool' now q h left);
        pairs = h.pairs;
      };
  same = d.same;
  pages = whole-marked pool' pool'' q true e ∙ whole-drawn pool pool' q left new ∙ d.pages;
}

pub gives-none : (D : ℕ → Bool) (r : Option ℕ) (l : Loading) (pool pool' : Pages) (table now : Slots) → Reaches D r l pool now → usable_of pool ≡ [] → Gives D l (draw D r l.pairs l.spare l.filed l.left) None pool' table now
gives-none D r l pool pool' table now h e =
    let k : draw D r l.pairs l.spare l.filed l.left ≡ None = sym h.same ∙ ap (draw D r h.now.pairs h.now.spare h.now.filed) (sym h.tracks.left ∙ e) in
    subst (λ v. Gives D l v None pool' table now) (sym k) tt

pub drawn_once : (q : ℕ) (xs ys : List ℕ) → ys ≡ xs ++ q ∷ [] → 1 ≤ count q ys
drawn_once q xs ys e =
    let one : count q (q ∷ []) ≡ 1 = ap (λ b. cond b 1 0 + 0) (eqb-self q) ∙ (omega arith) in
    omega (arith, ap (count q) e, count-append q xs (q ∷ []), one)

has-none : (d : ℕ) (xs : List ℕ) → count d xs ≡ 0 → has d xs ≡ false
has-none d [] e = refl
has-none d (x ∷ xs) e = go (eqb_tells x d) (has-none d xs)
  where
    go : ((eqb x d ≡ true) × (x ≡ d)) ⊎ ((eqb x d ≡ false) × (x ≢ d)) → (count d xs ≡ 0 → has d xs ≡ false) → has d (x ∷ xs) ≡ false
    go (inl t) ih =
        let one : count d (x ∷ xs) ≡ 1 + count d xs = ap (λ b. cond b 1 0 + count d xs) t.0 in
        absurd (omega (arith, one, e))
    go (inr t) ih =
        let none : count d (x ∷ xs) ≡ 0 + count d xs = ap (λ b. cond b 1 0 + count d xs) t.0 in
        rw t.0 (ih (omega (arith, none, e)))

count-without_le : (x d : ℕ) (xs : List ℕ) → count x (without d xs) ≤ count x xs
count-without_le x d [] = omega arith
count-without_le x d (y ∷ xs) = go (eqb y d) (count-without_le x d xs)
  where
    go : (b : Bool) → count x (without d xs) ≤ count x xs → count x (cond b xs (y ∷ without d xs)) ≤ count x (y ∷ xs)
    go true ih = omega arith
    go false ih = omega (arith, ih)

has-without : (p d : ℕ) (xs : List ℕ) → count d xs ≤ 1 → has p (without d xs) ≡ cond (eqb d p) false (has p xs)
has-without p d [] c = none (eqb d p)
  where
    none : (b : Bool) → false ≡ cond b false false
    none true = refl
    none false = refl
has-without p d (x ∷ xs) c = go (eqb_tells x d) (eqb_tells d p) (has-without p d xs)
  where
    go : ((eqb x d ≡ true) × (x ≡ d)) ⊎ ((eqb x d ≡ false) × (x ≢ d)) → ((eqb d p ≡ true) × (d ≡ p)) ⊎ ((eqb d p ≡ false) × (d ≢ p)) → (count d xs ≤ 1 → has p (without d xs) ≡ cond (eqb d p) false (has p xs)) → has p (without d (x ∷ xs)) ≡ cond (eqb d p) false (has p (x ∷ xs))
    go (inl t) (inl u) ih =
        let one : count d (x ∷ xs) ≡ 1 + count d xs = ap (λ b. cond b 1 0 + count d xs) t.0 in
        let none : has p xs ≡ false = ap (λ y. has y xs) (sym u.1) ∙ has-none d xs (omega (arith, one, c)) in
        rw (t.0, u.0) none
    go (inl t) (inr u) ih =
        let n : eqb x p ≡ false = ap (λ y. eqb y p) t.1 ∙ u.0 in
        rw (t.0, u.0, n) refl
    go (inr t) u ih =
        let none : count d (x ∷ xs) ≡ 0 + count d xs = ap (λ b. cond b 1 0 + count d xs) t.0 in
        let i = ih (omega (arith, none, c)) in
        rw t.0 (ap (λ b. eqb x p || b) i ∙ last u)
      where
        last : ((eqb d p ≡ true) × (d ≡ p)) ⊎ ((eqb d p ≡ false) × (d ≢ p)) → (eqb x p || cond (eqb d p) false (has p xs)) ≡ cond (eqb d p) false (eqb x p || has p xs)
        last (inl v) =
            let n : eqb x p ≡ false = ap (eqb x) (sym v.1) ∙ t.0 in
            rw (v.0, n) refl
        last (inr v) = rw v.0 refl

-- a filed page is taken
pub tracks-taken : (D : ℕ → Bool) (l : Loading) (pool pool' : Pages) (table : Slots) (d : ℕ) → Tracks D l pool table → pool' ≡ mark pool d false → Tracks D (record l { filed = without d l.filed }) pool' table
tracks-taken D l pool pool' table d s e = subst (λ v. Tracks D (record l { filed = without d l.filed }) v table) (sym e) (record {
  left = s.left;
  filed = λ p. is_filed-marked pool d p false ∙ ap (cond (eqb d p) false) (s.filed p) ∙ sym (has-without p d l.filed (omega (arith, s.once d)));
  wanted = s.wanted;
  loaded = s.loaded;
  once = λ p. omega (arith, s.once p, count-without_le p d l.filed);
})

pub gives-filed : (D : ℕ → Bool) (r : Option ℕ) (l : Loading) (pool pool' : Pages) (table : Slots) (d p : ℕ) → Tracks D l pool table → r ≡ Some d → p ≡ d → is_filed pool d ≡ true → pool' ≡ mark pool d false
    → Gives D l (take_page D r l) (Some (record { page = p; moved = None })) pool' table table
gives-filed D r l pool pool' table d p s w e f n =
    let h : has d l.filed ≡ true = sym (s.filed d) ∙ f in
    let k : take_page D (Some d) l ≡ Some (d, record l { filed = without d l.filed }) = rw (h, take_page) refl in
    gives_at D l (take_page D r l) (d, record l { filed = without d l.filed }) (record { page = p; moved = None }) pool' table table (ap (λ x. take_page D x l) w ∙ k)
    (record { page = e; tracks = tracks-taken D l pool pool' table d s n; exchanged = refl; places = λ p. refl })
