-- A list with context preserved, run once and twice.
use Rattle.std.proofs.Common.{◌≡◌, ℕ, List, [], ◌∷◌, refl, sym, ap, ◌∙◌, subst, inl, inr, arith}
use Rattle.std.specs.List.{AllByRecursion}
use Rattle.std.specs.Prelude.{◌≢◌, ◌⊎◌, eqb, cond, true, false}
use Rattle.std.proofs.lemmas.Bool.Decides.{eqb_tells}
use Rattle.kx_pages.specs.Bytes.{Mem, Wants}
use Rattle.kx_pages.specs.declared.item.Item.{Item}
use Rattle.kx_pages.specs.Lists.{Has, destinations, sources}
use Rattle.list_checker.specs.Walk.{PairsApart, links, pairs, AcceptedKept}
use Rattle.load_states.specs.Exchange.{partner, last_source, exchange}
use Rattle.load_states.proofs.Moves.{moved_in, moves}
use Rattle.kx_pages.specs.declared.image.Mode.TheVariants.{Kept}
use Rattle.std.proofs.Common.{Option, Some, None}
use Rattle.kx_pages.proofs.Lists.{Each-map, Each-both, Each-at}
use Rattle.kx_laws.proofs.Options.{some_same}

-- one exchange
one-exchange : (swap : ℕ) (M : Mem) (q : ℕ × ℕ) (p : ℕ) → q.0 ≢ swap → q.1 ≢ swap → p ≢ swap → moved_in (Kept swap) M q.1 q.0 p ≡ M (cond (eqb q.0 p) q.1 (cond (eqb q.1 p) q.0 p))
one-exchange swap M q p a b c = grind arith

one-swap : (swap : ℕ) (M : Mem) (q : ℕ × ℕ) → q.0 ≢ swap → q.1 ≢ swap → moved_in (Kept swap) M q.1 q.0 swap ≡ M q.1
one-swap swap M q a b = grind arith

-- no page of pair r is one of pair q
abbrev Away : ℕ × ℕ → ℕ × ℕ → Type 0
Away q r = (q.0 ≢ r.0) × (q.0 ≢ r.1) × (q.1 ≢ r.0) × (q.1 ≢ r.1)

abbrev pub NotIn : ℕ → ℕ × ℕ → Type 0
NotIn p r = (r.0 ≢ p) × (r.1 ≢ p)

alone : (qs : List (ℕ × ℕ)) (p : ℕ) → AllByRecursion (NotIn p) qs → partner qs p ≡ p
alone [] p h = refl
alone (q ∷ qs) p h = let ih = alone qs p h.1 in grind (arith, ih, h.0.0, h.0.1)

-- the partner of a page that is in none of certain pairs is in none of them
pub stays_out : (qs : List (ℕ × ℕ)) (x p : ℕ) → AllByRecursion (NotIn x) qs → p ≢ x → partner qs p ≢ x
stays_out [] x p h n = n
stays_out (q ∷ qs) x p h n = let ih = stays_out qs x p h.1 n in grind (arith, ih, h.0.0, h.0.1)

at_first : (qs : List (ℕ × ℕ)) (q : ℕ × ℕ) → AllByRecursion (Away q) qs → AllByRecursion (NotIn q.0) qs × AllByRecursion (NotIn q.1) qs
at_first qs q h = (Each-map qs (λ r a. ((λ e. a.0 (sym e)), λ e. a.1 (sym e))) h, Each-map qs (λ r a. ((λ e. a.2 (sym e)), λ e. a.3 (sym e))) h)

-- where pair q alone is exchanged first
first_then : (qs : List (ℕ × ℕ)) (q : ℕ × ℕ) (p : ℕ) → AllByRecursion (Away q) qs → partner (q ∷ []) (partner qs p) ≡ partner (q ∷ qs) p
first_then qs q p h =
    let o = at_first qs q h in
    let a0 = alone qs q.0 o.0 in
    let a1 = alone qs q.1 o.1 in
    go (eqb_tells q.0 p) (eqb_tells q.1 p) o a0 a1
  where
    go : ((eqb q.0 p ≡ true) × (q.0 ≡ p)) ⊎ ((eqb q.0 p ≡ false) × (q.0 ≢ p)) → ((eqb q.1 p ≡ true) × (q.1 ≡ p)) ⊎ ((eqb q.1 p ≡ false) × (q.1 ≢ p)) → AllByRecursion (NotIn q.0) qs × AllByRecursion (NotIn q.1) qs → partner qs q.0 ≡ q.0 → partner qs q.1 ≡ q.1 → partner (q ∷ []) (partner qs p) ≡ partner (q ∷ qs) p
    go (inl e) f o a0 a1 = let s : partner qs p ≡ p = subst (λ x. partner qs x ≡ x) e.1 a0 in rw s (grind arith)
    go (inr e) (inl f) o a0 a1 = let s : partner qs p ≡ p = subst (λ x. partner qs x ≡ x) f.1 a1 in rw s (grind arith)
    go (inr e) (inr f) o a0 a1 =
        let s0 = stays_out qs q.0 p o.0 (λ x. e.1 (sym x)) in
        let s1 = stays_out qs q.1 p o.1 (λ x. f.1 (sym x)) in
        grind (arith, s0, s1)

pub twice : (qs : List (ℕ × ℕ)) (p : ℕ) → PairsApart qs → partner qs (partner qs p) ≡ p
twice [] p a = refl
twice (q ∷ qs) p a = go (eqb_tells q.0 p) (eqb_tells q.1 p) (at_first qs q a.0) (twice qs p a.1)
  where
    go : ((eqb q.0 p ≡ true) × (q.0 ≡ p)) ⊎ ((eqb q.0 p ≡ false) × (q.0 ≢ p)) → ((eqb q.1 p ≡ true) × (q.1 ≡ p)) ⊎ ((eqb q.1 p ≡ false) × (q.1 ≢ p)) → AllByRecursion (NotIn q.0) qs × AllByRecursion (NotIn q.1) qs → partner qs (partner qs p) ≡ p → partner (q ∷ qs) (partner (q ∷ qs) p) ≡ p
    go (inl e) f o ih = grind (arith, e.1)
    go (inr e) (inl f) o ih = grind (arith, e.1, f.1)
    go (inr e) (inr f) o ih =
        let s0 = stays_out qs q.0 p o.0 (λ x. e.1 (sym x)) in
        let s1 = stays_out qs q.1 p o.1 (λ x. f.1 (sym x)) in
        grind (arith, s0, s1, ih, e.1, f.1)

-- the moves, one after another, give each page but the swap page its partner's bytes
by_partner : (swap : ℕ) (qs : List (ℕ × ℕ)) (M : Mem) (p : ℕ) → PairsApart qs → AllByRecursion (NotIn swap) qs → p ≢ swap → moves (Kept swap) M qs p ≡ M (partner qs p)
by_partner swap [] M p a s n = refl
by_partner swap (q ∷ qs) M p a s n =
    by_partner swap qs (moved_in (Kept swap) M q.1 q.0) p a.1 s.1 n
    ∙ one-exchange swap M q (partner qs p) s.0.0 s.0.1 (stays_out qs swap p s.1 n)
    ∙ ap M (first_then qs q p a.0)

last_same : (qs : List (ℕ × ℕ)) (q : ℕ × ℕ) (M N : Mem) (x y : ℕ) → AllByRecursion (λ r. N r.1 ≡ M r.1) qs → N x ≡ M y → N (last_source qs x) ≡ M (last_source qs y)
last_same [] q M N x y s e = e
last_same (r ∷ qs) q M N x y s e = last_same qs q M N r.1 r.1 s.1 s.0

at_swap : (swap : ℕ) (qs : List (ℕ × ℕ)) (M : Mem) → PairsApart qs → AllByRecursion (NotIn swap) qs → moves (Kept swap) M qs swap ≡ M (last_source qs swap)
at_swap swap [] M a s = refl
at_swap swap (q ∷ qs) M a s =
    let N = moved_in (Kept swap) M q.1 q.0 in
    let same : AllByRecursion (λ r. N r.1 ≡ M r.1) qs =
    Each-both qs (λ r h k. one-exchange swap M q r.1 s.0.0 s.0.1 k.1 ∙ ap M (alone (q ∷ []) r.1 ((h.1, h.3), tt))) a.0 s.1 in
    at_swap swap qs N a.1 s.1 ∙ last_same qs q M N swap q.1 same (one-swap swap M q s.0.0 s.0.1)

pub exchanges : (swap : ℕ) (qs : List (ℕ × ℕ)) (M : Mem) (p : ℕ) → PairsApart qs → AllByRecursion (NotIn swap) qs → moves (Kept swap) M qs p ≡ exchange M qs swap p
exchanges swap qs M p a s = go (eqb_tells p swap)
  where
    go : ((eqb p swap ≡ true) × (p ≡ swap)) ⊎ ((eqb p swap ≡ false) × (p ≢ swap)) → moves (Kept swap) M qs p ≡ exchange M qs swap p
    go (inl e) = rw e.0 (subst (λ x. moves (Kept swap) M qs x ≡ M (last_source qs swap)) (sym e.1) (at_swap swap qs M a s))
    go (inr e) = rw e.0 (by_partner swap qs M p a s e.1)

-- a link page is no page of a pair
links_out : (qs : List (ℕ × ℕ)) (ls : List ℕ) (p : ℕ) → AllByRecursion (λ q. AllByRecursion (λ l. q.0 ≢ l) ls) qs → AllByRecursion (λ q. AllByRecursion (λ l. q.1 ≢ l) ls) qs → Has p ls → AllByRecursion (NotIn p) qs
links_out qs ls p a b h = Each-both qs (λ q x y. (Each-at (λ l. q.0 ≢ l) ls p x h, Each-at (λ l. q.1 ≢ l) ls p y h)) a b

pub off_swap : (M : Mem) (qs : List (ℕ × ℕ)) (swap p : ℕ) → p ≢ swap → exchange M qs swap p ≡ M (partner qs p)
off_swap M qs swap p n = go (eqb_tells p swap)
  where
    go : ((eqb p swap ≡ true) × (p ≡ swap)) ⊎ ((eqb p swap ≡ false) × (p ≢ swap)) → exchange M qs swap p ≡ M (partner qs p)
    go (inl e) = absurd (n e.1)
    go (inr e) = rw e.0

-- a link page keeps its words
pub link_kept : (M : Mem) (W : Wants) (head control swap : ℕ) (is : List Item) → AcceptedKept M W head control swap is → (p : ℕ) → Has p (links is) → exchange M (pairs is) swap p ≡ M p
link_kept M W head control swap is a p h =
    let apart : p ≢ swap = Each-at (λ l. l ≢ swap) (links is) p a.swap_apart.1 h in
    off_swap M (pairs is) swap p apart ∙ ap M (alone (pairs is) p (links_out (pairs is) (links is) p a.plain.links_unwritten a.links_no_sources h))

no_destination : (p : ℕ) (qs : List (ℕ × ℕ)) → AllByRecursion (NotIn p) qs → Has p (destinations qs) → ⊥
no_destination p [] c h = h
no_destination p (q ∷ qs) c (inl e) = c.0.0 e
no_destination p (q ∷ qs) c (inr h) = no_destination p qs c.1 h

by_whole : (W : Wants) (qs : List (ℕ × ℕ)) → ((p : ℕ) (b : List ℕ) → W p ≡ Some b → Has p (destinations qs)) → (p : ℕ) → (Has p (destinations qs) → ⊥) → (o : Option (List ℕ)) → W p ≡ o → W p ≡ None
by_whole W qs whole p never None e = e
by_whole W qs whole p never (Some b) e = absurd (never (whole p b e))

-- no link page is wanted
pub link_unwanted : (M : Mem) (W : Wants) (head control swap : ℕ) (is : List Item) → AcceptedKept M W head control swap is → (p : ℕ) → Has p (links is) → W p ≡ None
link_unwanted M W head control swap is a p h =
    by_whole W (pairs is) a.plain.whole p (no_destination p (pairs is) (links_out (pairs is) (links is) p a.plain.links_unwritten a.links_no_sources h)) (W p) refl

-- a destination of pairs that have no page of pair q is no page of it
away_from : (q : ℕ × ℕ) (rs : List (ℕ × ℕ)) (y : ℕ) → AllByRecursion (Away q) rs → Has y (destinations rs) → (q.0 ≢ y) × (q.1 ≢ y)
away_from q [] y c h = absurd h
away_from q (r ∷ rs) y c (inl e) = ((λ f. c.0.0 (f ∙ sym e)), λ f. c.0.2 (f ∙ sym e))
away_from q (r ∷ rs) y c (inr h) = away_from q rs y c.1 h

-- the partner of a destination is a source
destination_partner : (qs : List (ℕ × ℕ)) (x : ℕ) → PairsApart qs → Has x (destinations qs) → Has (partner qs x) (sources qs)
destination_partner [] x b h = absurd h
destination_partner (q ∷ qs) x b (inl e) = let f : q.1 ≡ partner (q ∷ qs) x = grind (arith, e) in inl f
destination_partner (q ∷ qs) x b (inr h) =
    let o = away_from q qs x b.0 h in
    let f : partner qs x ≡ partner (q ∷ qs) x = grind (arith, o.0, o.1) in
    inr (subst (λ y. Has y (sources qs)) f (destination_partner qs x b.1 h))

-- a destination's partner holds what the destination is to have
partner_has : (M : Mem) (W : Wants) (qs : List (ℕ × ℕ)) (p : ℕ) → PairsApart qs → AllByRecursion (λ q. W q.0 ≡ Some (M q.1)) qs → Has p (destinations qs) → W p ≡ Some (M (partner qs p))
partner_has M W [] p a r h = absurd h
partner_has M W (q ∷ qs) p a r (inl e) =
    let f : q.1 ≡ partner (q ∷ qs) p = grind (arith, e) in ap W (sym e) ∙ r.0 ∙ ap (λ x. Some (M x)) f
partner_has M W (q ∷ qs) p a r (inr h) =
    let o = away_from q qs p a.0 h in
    let f : partner qs p ≡ partner (q ∷ qs) p = grind (arith, o.0, o.1) in partner_has M W qs p a.1 r.1 h ∙ ap (λ x. Some (M x)) f

-- one run leaves each destination what it is to have
pub arrives : (M : Mem) (W : Wants) (head control swap : ℕ) (is : List Item) → AcceptedKept M W head control swap is → (p : ℕ) (b : List ℕ) → W p ≡ Some b → exchange M (pairs is) swap p ≡ b
arrives M W head control swap is a p b e =
    let h = a.plain.whole p b e in
    let apart : p ≢ swap = λ s. no_destination swap (pairs is) a.swap_apart.2 (subst (λ x. Has x (destinations (pairs is))) s h) in
    off_swap M (pairs is) swap p apart ∙ some_same (M (partner (pairs is) p)) b (sym (partner_has M W (pairs is) p a.apart a.plain.right_bytes h) ∙ e)

partner_sources : (qs : List (ℕ × ℕ)) → PairsApart qs → AllByRecursion (λ q. partner qs q.1 ≡ q.0) qs
partner_sources [] a = tt
partner_sources (q ∷ qs) a =
    (grind arith, Each-both qs (λ r h e. first q qs r h e) a.0 (partner_sources qs a.1))
  where
    first : (q : ℕ × ℕ) (qs : List (ℕ × ℕ)) (r : ℕ × ℕ) → Away q r → partner qs r.1 ≡ r.0 → partner (q ∷ qs) r.1 ≡ r.0
    first q qs r h e = grind (arith, h.1, h.3, e)

-- the second exchange, from memory M' to N
module _ (W : Wants) (qs : List (ℕ × ℕ)) (w : ℕ) (apart : PairsApart qs) (out : AllByRecursion (NotIn w) qs) (M' N : Mem) (leaves : (p : ℕ) → N p ≡ exchange M' qs w p) where
  -- where M' is the exchange of M at the page that p's bytes come from
  pub restores : (M : Mem) (p : ℕ) → p ≢ w → M' (partner qs p) ≡ exchange M qs w (partner qs p) → N p ≡ M p
  restores M p n same =
      leaves p ∙ off_swap M' qs w p n ∙ same ∙ off_swap M qs w (partner qs p) (stays_out qs w p out n) ∙ ap M (twice qs p apart)

  pub no_source_wanted : ((p : ℕ) (b : List ℕ) → W p ≡ Some b → Has p (destinations qs)) → (p : ℕ) → (Has p (sources qs) → ⊥) → W (partner qs p) ≡ None
  no_source_wanted whole p s =
      by_whole W qs whole (partner qs p) (λ h. s (subst (λ y. Has y (sources qs)) (twice qs p apart) (destination_partner qs (partner qs p) apart h))) (W (partner qs p)) refl

  -- each source gets what its destination held
  pub sources_get : AllByRecursion (λ q. N q.1 ≡ M' q.0) qs
  sources_get = Each-both qs (λ q e o. leaves q.1 ∙ off_swap M' qs w q.1 o.1 ∙ ap M' e) (partner_sources qs apart) out

-- two runs restore each page but the swap page
pub returns : (M : Mem) (W : Wants) (head control swap : ℕ) (is : List Item) → AcceptedKept M W head control swap is → (p : ℕ) → p ≢ swap → exchange (exchange M (pairs is) swap) (pairs is) swap p ≡ M p
returns M W head control swap is a p n =
    restores W (pairs is) swap a.apart a.swap_apart.2 (exchange M (pairs is) swap) (exchange (exchange M (pairs is) swap) (pairs is) swap) (λ q. refl) M p n refl
