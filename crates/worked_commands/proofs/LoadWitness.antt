-- A load of the examples that is laid by the rules.
use Rattle.std.proofs.Common.{◌≡◌, ◌∙◌, ◌+◌, ◌^◌, ◌++◌, ℕ, suc, List, [], ◌∷◌, length, take, drop, false, cond, refl, sym, ap, subst, arith, inl, inr}
use Rattle.std.specs.Prelude.{eqb, unwrap_or}
use Rattle.std.proofs.lemmas.Bool.Decides.{eqb_tells}
use Rattle.std.proofs.lemmas.List.{length-append}
use Rattle.std.specs.Ordering.{nat_cmp}
use Rattle.std.specs.FinMap.{empty, get-empty}
use Rattle.kx_pages.specs.Bytes.{page_of}
use Rattle.kx_pages.specs.Lists.{count, sources}
use Rattle.kx_pages.specs.declared.image.Wish.TheVariants.{Plain}
use Rattle.kx_pages.proofs.Counting.{count-from_Distinct}
use Rattle.page_memory.specs.Contents.{at}
use Rattle.page_pool.specs.Pages.{Pages, left_among, usable_among, usable_of}
use Rattle.kimage_list.specs.Calls.{HasDrawn}
use Rattle.kimage_list.specs.Load.{Loading}
use Rattle.kimage_list.specs.Tracking.{whole_pool}
use Rattle.load_states.specs.Fillings.{IsSealed}
use Rattle.load_states.specs.Loads.{memory_of}
use Rattle.load_states.specs.Ready.{Told}
use Rattle.load_states.specs.States.{Checked, Load}
use Rattle.segments.specs.Values.{need}
use Rattle.command_parts.specs.Runs.{checked_with}
use Rattle.load_commands.specs.Loading.{IsLoaded}
use Rattle.worked_commands.specs.Inputs.{few_read, three_bytes}
use Rattle.worked_commands.specs.Loads.{few_plan}
use Rattle.worked_commands.specs.Lists.{one_move}
use Rattle.worked_commands.specs.Memories.{abc_page, list_page, loaded}
use Rattle.worked_commands.specs.Texts.{no_memory, plain_image}
use Rattle.worked_commands.proofs.Lists.{accepted}
use Rattle.worked_commands.proofs.Loads.{loaded_other, plan_is, pool}
use Rattle.worked_commands.proofs.Memories.{has_list, loaded_list, loaded_source}

-- all pages of the pool are drawn
abbrev no_page_left : Pages
no_page_left = record { made = pool; drawn = pool; limit = 2 ^ 46; marks = empty }

abbrev pub load1 : Load
load1 = record { memory = loaded; pool = no_page_left; image = plain_image; segments = three_bytes }

abbrev pub checked1 : Checked
checked1 = checked_with load1 4 1 ((2, 0x12) ∷ [])

abbrev three_loaded : Loading
three_loaded = record { left = []; filed = []; pairs = (2, 0x12) ∷ []; spare = 0x10 ∷ 0x11 ∷ [] }

laid_is : (q : ℕ) → memory_of (at no_memory) Plain three_bytes three_loaded q ≡ cond (eqb q 0x11) list_page (cond (eqb q 0x12) abc_page (at no_memory q))
unfolding page_of
laid_is q = refl

abbrev IsAsLaid : ℕ → Type 0
IsAsLaid q = at loaded q ≡ cond (eqb q 0x11) list_page (cond (eqb q 0x12) abc_page (at no_memory q))

pub as_laid : (q : ℕ) → IsAsLaid q
as_laid q = elim (eqb_tells q 0x11) [
  | inl t ↦ subst IsAsLaid (sym t.1) loaded_list
  | inr t ↦ elim (eqb_tells q 0x12) [
    | inl u ↦ subst IsAsLaid (sym u.1) loaded_source
    | inr u ↦ loaded_other q t.1 u.1 ∙ sym (λ i. cond (t.0 i) list_page (cond (u.0 i) abc_page (at no_memory q)))
  ]
]

pub other : (q : ℕ) → count q (take (need Plain three_bytes) pool) ≡ 0 → at loaded q ≡ at no_memory q
other q none = elim (eqb_tells q 0x11) [
  | inl t ↦ let e : 1 ≡ 0 = subst (λ q. count q pool ≡ 0) t.1 none in absurd (omega (arith, e))
  | inr t ↦ elim (eqb_tells q 0x12) [
    | inl u ↦ let e : 1 ≡ 0 = subst (λ q. count q pool ≡ 0) u.1 none in absurd (omega (arith, e))
    | inr u ↦ loaded_other q t.1 u.1
  ]
]

sums : (a b c : ℕ) → (a + (b + 0)) + (c + 0) ≡ a + (b + (c + 0))
sums a b c = omega arith

in_use : (x : ℕ) → count x three_loaded.spare + count x (sources three_loaded.pairs) ≡ count x (take (need Plain three_bytes) pool)
in_use x = sums (cond (eqb 0x10 x) 1 0) (cond (eqb 0x11 x) 1 0) (cond (eqb 0x12 x) 1 0)

none_drawn : (xs : List ℕ) → xs ++ pool ≡ pool → xs ≡ []
none_drawn [] e = refl
none_drawn (x ∷ xs) e = let h : suc (length (xs ++ pool)) ≡ 3 = ap length e in absurd (omega (arith, h, length-append xs pool))

drawn : (p : Pages) → pool ≡ usable_of p → whole_pool no_page_left ≡ whole_pool p → HasDrawn (need Plain three_bytes) p no_page_left
unfolding left_among usable_among
drawn p usable whole =
    let made : pool ≡ p.made = ap (λ w. w.1) whole in
    let limit : 2 ^ 46 ≡ p.limit = ap (λ w. w.2) whole in
    let all : pool ≡ p.drawn ++ usable_of p = ap (λ w. w.0) whole in
    let before : p.drawn ≡ [] = none_drawn p.drawn (ap (λ u. p.drawn ++ u) usable ∙ sym all) in
    let after : [] ≡ p.drawn = sym before in
    record {
      drawn = all ∙ ap (λ u. p.drawn ++ u) (sym usable ∙ ap (take 3) usable);
      usable = ap (drop 3) usable;
      left = λ i. left_among (left_among (made i) (after i)) (take 3 (usable i));
      made = made;
      limit = limit;
    }

pub sealed : IsSealed (at no_memory) pool Plain three_bytes load1
unfolding left_among usable_among
sealed = record {
  loading = three_loaded;
  requests = refl;
  once = λ x. count-from_Distinct x pool (((λ e. omega (arith, e)), ((λ e. omega (arith, e)), tt)), (((λ e. omega (arith, e)), tt), (tt, tt)));
  image = refl;
  memory = λ p. as_laid p ∙ sym (laid_is p);
  segments = refl;
  usable = refl;
  in_use = in_use;
  unfiled = λ p. ap (λ o. unwrap_or o false) (get-empty nat_cmp p);
  drawn = drawn;
  others = other;
  accepted = accepted (at loaded) has_list loaded_source;
}

pub told1 : Told load1 4 1 ((2, 0x12) ∷ [])
told1 = record {
  items = one_move;
  accepted = accepted (at loaded) has_list loaded_source;
  count = refl;
  link_pages = refl;
  same_pairs = refl;
}

pub loaded1 : IsLoaded Plain few_read few_plan load1
loaded1 = record { planned = plan_is; enough = omega arith; laid = sealed }
