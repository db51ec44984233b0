-- Crash lists.
use Rattle.std.proofs.Common.{◌≡◌, ℕ, ◌^◌, List, [], ◌∷◌, Option, Some, None, Bool, true, false, refl, sym, ap, ◌∙◌, arith}
use Rattle.std.specs.Prelude.{◌%◌, ◌/◌, not, leb, map, cond}
use Rattle.std.specs.Option.{option_map}
use Rattle.std.specs.List.{find, AllByRecursion}
use Rattle.std.proofs.lemmas.Option.{none-some}
use Rattle.kx_pages.specs.declared.item.Item.{Item}
use Rattle.kx_pages.specs.declared.item.Item.TheVariants.{Link, Destination, Source, Done}
use Rattle.list_checker.specs.declared.fault.Why.{Why}
use Rattle.list_checker.specs.declared.fault.Why.TheVariants.{Flags, Missing, PastLimit, HeadKind}
use Rattle.kx_pages.specs.Bytes.{Mem, Wants}
use Rattle.kx_pages.specs.Items.{code, decode}
use Rattle.list_checker.specs.Faults.{first_of, are_wanted}
use Rattle.list_checker.specs.inner.Laws.{ListsWanted}
use Rattle.list_checker.specs.Crash.{AcceptedCrash, crash_reason, crash_reasons, lacks}
use Rattle.list_checker.proofs.Lists.{none_holds, none_first, wanted_bytes, equal-same_bytes}
use Rattle.kx_laws.proofs.Options.{some_same}
use Rattle.list_checker.proofs.Checking.{decode_is_code}
use Rattle.kx_pages.proofs.Lists.{Each-at, Each-from_Has}
use Rattle.kx_laws.proofs.Booleans.{not_false}

module _ (M : Mem) (W : Wants) where
  abbrev Right : ℕ → Type 0
  Right d = are_wanted (W d) (M d) ≡ true

  Each-right : (ds : List ℕ) → AllByRecursion (λ r. r.0 ≡ false) (map {B = Bool × Why} (λ d. (lacks M W d, Missing d)) ds) → AllByRecursion Right ds
  Each-right [] h = tt
  Each-right (d ∷ ds) h = (not_false (are_wanted (W d) (M d)) h.0, Each-right ds h.1)

  none_lacks : (ds : List ℕ) → AllByRecursion Right ds → AllByRecursion (λ r. r.0 ≡ false) (map {B = Bool × Why} (λ d. (lacks M W d, Missing d)) ds)
  none_lacks [] h = tt
  none_lacks (d ∷ ds) h = (ap not h.0, none_lacks ds h.1)

  not_head : (p : ℕ) → first_of ((leb (2 ^ 34) p, PastLimit) ∷ (true, HeadKind) ∷ []) ≡ None → ⊥
  not_head p e = go (leb (2 ^ 34) p) refl
    where
      go : (b : Bool) → leb (2 ^ 34) p ≡ b → ⊥
      go true t = none-some PastLimit (sym e ∙ ap (λ b. cond b (Some PastLimit) (Some HeadKind)) t)
      go false t = none-some HeadKind (sym e ∙ ap (λ b. cond b (Some PastLimit) (Some HeadKind)) t)

  -- what a crash list without segments tells of its head, each crash list tells
  pub head_tells : (all : List ℕ) (o : Option Item) (why : Why) → crash_reason (λ p. []) (λ p. None) [] o ≡ Some why → crash_reason M W all o ≡ Some why
  head_tells all None why h = h
  head_tells all (Some (Link p)) why h = h
  head_tells all (Some (Destination p)) why h = h
  head_tells all (Some (Source p)) why h = h
  head_tells all (Some (Done p)) why h = absurd (none-some why h)

  -- and where it tells nothing, the head is a done word
  pub head_is_done : (o : Option Item) → crash_reason (λ p. []) (λ p. None) [] o ≡ None → (p : ℕ) × (o ≡ Some (Done p))
  head_is_done None h = absurd (none-some Flags (sym h))
  head_is_done (Some (Link p)) h = absurd (not_head p h)
  head_is_done (Some (Destination p)) h = absurd (not_head p h)
  head_is_done (Some (Source p)) h = absurd (not_head p h)
  head_is_done (Some (Done p)) h = (p, refl)

  done_word : (p w : ℕ) → w ≡ code (Done p) → w % 4096 ≡ 4
  done_word p w e = grind arith

  pub crash_accepted : (all : List ℕ) (head : ℕ) → ListsWanted W all → crash_reason M W all (decode head) ≡ None → AcceptedCrash M W head
  crash_accepted all head l r = go (decode head) refl r
    where
      go : (o : Option Item) → decode head ≡ o → crash_reason M W all o ≡ None → AcceptedCrash M W head
      go None e r = absurd (none-some Flags (sym r))
      go (Some (Link p)) e r = absurd (not_head p r)
      go (Some (Destination p)) e r = absurd (not_head p r)
      go (Some (Source p)) e r = absurd (not_head p r)
      go (Some (Done p)) e r =
          let right = Each-right all (none_holds (crash_reasons M W all (Done p)) r) in
          record {
            done = done_word p head (decode_is_code head (Done p) e);
            there = λ q b w. some_same (M q) b (sym (wanted_bytes (W q) (M q) (Each-at Right all q right (l.whole q b w))) ∙ w);
          }

  done_decoded : (w : ℕ) → w % 4096 ≡ 4 → (p : ℕ) × (decode w ≡ Some (Done p))
  done_decoded w e = (w / 4096, grind (arith, e))

  pub crash_refused : (all : List ℕ) (head : ℕ) (why : Why) → ListsWanted W all → crash_reason M W all (decode head) ≡ Some why → AcceptedCrash M W head → ⊥
  crash_refused all head why l r a =
      let d = done_decoded head a.done in
      let right : AllByRecursion Right all = Each-from_Has Right all (λ q h. let b = l.each q h in ap (λ o. are_wanted o (M q)) (b.1 ∙ ap Some (sym (a.there q b.0 b.1))) ∙ equal-same_bytes (M q)) in
      let none : first_of (crash_reasons M W all (Done d.0)) ≡ None = none_first (crash_reasons M W all (Done d.0)) (none_lacks all right) in
      none-some why (sym none ∙ ap (crash_reason M W all) (sym d.1) ∙ r)

-- the first page that lacks its bytes, and the first reason
pub first_reason : (test : ℕ → Bool) (all : List ℕ) → option_map Missing (find test all) ≡ first_of (map {B = Bool × Why} (λ d. (test d, Missing d)) all)
first_reason test [] = refl
first_reason test (x ∷ xs) = step (test x) (find test xs) (first_of (map {B = Bool × Why} (λ d. (test d, Missing d)) xs)) (first_reason test xs)
  where
    step : (b : Bool) (o : Option ℕ) (w : Option Why) → option_map Missing o ≡ w → option_map Missing (cond b (Some x) o) ≡ cond b (Some (Missing x)) w
    step true o w e = refl
    step false o w e = e
