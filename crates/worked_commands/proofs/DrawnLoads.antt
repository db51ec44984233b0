-- Loads of the kernel `abc` of which all is so but one field.
use Rattle.std.proofs.Common.{◌≡◌, ◌∙◌, ℕ, List, [], ◌∷◌, length, false, Option, Some, None, Result, Ok, Err, refl, sym, ap, subst, arith, inl, inr}
use Rattle.std.specs.Prelude.{get_or}
use Rattle.std.specs.List.{AllByRecursion}
use Rattle.kx_laws.proofs.Booleans.{true_false}
use Rattle.kx_laws.proofs.Options.{none_some, some_same}
use Rattle.kx_pages.specs.Bytes.{page_of}
use Rattle.kx_pages.specs.Lists.{Has, has}
use Rattle.kx_pages.specs.Modes.{swap_page}
use Rattle.kx_pages.specs.declared.image.Mode.{Mode}
use Rattle.kx_pages.specs.declared.image.Mode.TheVariants as modes
use Rattle.kx_pages.specs.declared.image.Wish.{Wish}
use Rattle.kx_pages.specs.declared.image.Wish.TheVariants.{Kept, Plain}
use Rattle.kx_pages.specs.declared.item.Item.TheVariants.{Done}
use Rattle.kx_pages.proofs.Lists.{has-from_Has}
use Rattle.page_memory.specs.Contents.{at, zero_page}
use Rattle.relocate_machine.specs.Machine.{kind_of, step_of}
use Rattle.relocate_machine.specs.Run.{run_from}
use Rattle.segments.specs.Rules.{bare_refusal, shape_refusal}
use Rattle.segments.specs.Values.{SegmentValue, want}
use Rattle.segments.specs.inner.Rules.{IsBare}
use Rattle.list_checker.specs.Walk.{links}
use Rattle.load_states.specs.Ready.{Told}
use Rattle.load_states.specs.Runs.{EndsAfter}
use Rattle.load_states.specs.States.{Checked}
use Rattle.load_states.proofs.Ready.{list_ends}
use Rattle.kexec_plan.specs.Requests.{Plan}
use Rattle.plan_faults.specs.declared.fault.PlanFault.{PlanFault}
use Rattle.plan_faults.specs.declared.fault.PlanFault.TheVariants as plans
use Rattle.load_commands.specs.Inputs.{LoadInputs}
use Rattle.load_commands.specs.NormalLoad.{NormalLoad}
use Rattle.worked_commands.specs.Drawn.{Each, IsNeeded, fields_of, found, found_kept, found_with, found_without_plan, kept_with, told_wrongly, with_a_page}
use Rattle.worked_commands.specs.Inputs.{few_read, three_bytes}
use Rattle.worked_commands.specs.Kept.{one_exchange}
use Rattle.worked_commands.specs.Lists.{one_move}
use Rattle.worked_commands.specs.Loads.{few_plan, nothing_loaded}
use Rattle.worked_commands.specs.Memories.{abc_page, loaded}
use Rattle.worked_commands.proofs.Exchange.{accepted as accepted_kept}
use Rattle.worked_commands.proofs.Lists.{accepted, only_list}
use Rattle.worked_commands.proofs.Loads.{loaded_other, no_plan, plan_is}
use Rattle.worked_commands.proofs.Memories.{has_list, loaded_source, no_page, same_page}

-- ---- what is so of all of them
bare : IsBare three_bytes
unfolding bare_refusal shape_refusal
bare = refl

abbrev told : Told found.load 4 1 ((2, 0x12) ∷ [])
told = record {
  items = one_move;
  accepted = accepted (at loaded) has_list loaded_source;
  count = refl;
  link_pages = refl;
  same_pairs = refl;
}

ends : EndsAfter found.load 4
ends = list_ends found.load 4 1 ((2, 0x12) ∷ []) bare told

abbrev told_kept : Told found_kept.load 4 1 ((2, 0x13) ∷ [])
told_kept = record { items = one_exchange; accepted = accepted_kept; count = refl; link_pages = refl; same_pairs = refl }

ends_kept : EndsAfter found_kept.load 4
ends_kept = list_ends found_kept.load 4 1 ((2, 0x13) ∷ []) bare told_kept

plain_swap : (swap : ℕ) → swap_page modes.Plain ≡ Some swap → ⊥
plain_swap swap e = none_some None swap refl e

its_swap : (drawn : List ℕ) → Has 0x11 drawn → (swap : ℕ) → swap_page (modes.Kept 0x11) ≡ Some swap → Has swap drawn
its_swap drawn h swap e = subst (λ swap. Has swap drawn) (some_same 0x11 swap e) h

-- a page that the test does not find does not stand in a list
not_in : (p : ℕ) (xs : List ℕ) → has p xs ≡ false → Has p xs → ⊥
not_in p xs no_page h = true_false (sym (has-from_Has p xs h) ∙ no_page)

-- ---- loads
pub all_fields : (wish : Wish) (i : LoadInputs) (p : Plan) (c : Checked) → (t : Told c.load c.words c.links c.pairs) → Each (fields_of wish i p c t.items) → NormalLoad wish i p c
all_fields wish i p c t e = record {
  planned = e.0;
  enough = e.1.0;
  segments = e.1.1.0;
  mode = e.1.1.1.0;
  only_pool_pages = e.1.1.1.1.0;
  accepted = t;
  ends = e.1.1.1.1.1.1.0;
  control_is_drawn = e.1.1.1.1.1.1.1.0;
  swap_is_drawn = e.1.1.1.1.1.1.1.1.0;
  list_is_drawn = e.1.1.1.1.1.1.1.1.1.0;
  sources_are_drawn = e.1.1.1.1.1.1.1.1.1.1.0;
}

pub plain_load : NormalLoad Plain (found_with (0x10 ∷ 0x11 ∷ 0x12 ∷ [])) few_plan found
plain_load = record {
  planned = plan_is;
  enough = omega arith;
  segments = refl;
  mode = refl;
  only_pool_pages = λ q z. refl;
  accepted = told;
  ends = ends;
  control_is_drawn = inl refl;
  swap_is_drawn = λ swap e. absurd (plain_swap swap e);
  list_is_drawn = (inr (inl refl), tt);
  sources_are_drawn = (inr (inr (inl refl)), tt);
}

pub kept_load : NormalLoad Kept (kept_with (0x10 ∷ 0x11 ∷ 0x12 ∷ 0x13 ∷ [])) few_plan found_kept
kept_load = record {
  planned = plan_is;
  enough = omega arith;
  segments = refl;
  mode = refl;
  only_pool_pages = λ q z. refl;
  accepted = told_kept;
  ends = ends_kept;
  control_is_drawn = inl refl;
  swap_is_drawn = its_swap (0x10 ∷ 0x11 ∷ 0x12 ∷ 0x13 ∷ []) (inr (inl refl));
  list_is_drawn = (inr (inr (inl refl)), tt);
  sources_are_drawn = (inr (inr (inr (inl refl))), tt);
}

-- ---- loads of which all is so but one field
pub live_swap : IsNeeded 8 Kept (kept_with (0x10 ∷ 0x12 ∷ 0x13 ∷ 0x30 ∷ [])) found_kept one_exchange
live_swap = (
  (plan_is, (omega arith, (refl, (refl, ((λ q z. refl), (told_kept, (ends_kept, (inl refl, ((inr (inl refl), tt), ((inr (inr (inl refl)), tt), tt)))))))))),
  λ load. not_in 0x11 (0x10 ∷ 0x12 ∷ 0x13 ∷ 0x30 ∷ []) refl (load.swap_is_drawn 0x11 refl),
)

pub no_such_plan : IsNeeded 0 Plain found_without_plan found one_move
no_such_plan = (
  (omega arith, (refl, (refl, ((λ q z. refl), (told, (ends, (inl refl, ((λ swap e. absurd (plain_swap swap e)), ((inr (inl refl), tt), ((inr (inr (inl refl)), tt), tt)))))))))),
  λ load. let e : ◌≡◌ {A = Result Plan PlanFault} (Err plans.UnknownImage) (Ok few_plan) = sym no_plan ∙ load.planned in cc,
)

nothing_wanted : (p : ℕ) (bytes : List ℕ) → want [] p ≡ Some bytes → ⊥
nothing_wanted p bytes e = let f : ◌≡◌ {A = Option (List ℕ)} None (Some bytes) = e in cc

pub nothing_told : Told nothing_loaded.load 1 0 []
nothing_told = record {
  items = Done 0 ∷ [];
  accepted = record {
    walk = (refl, refl);
    once = tt;
    destination_first = tt;
    in_order = tt;
    whole = λ p bytes e. absurd (nothing_wanted p bytes e);
    right_bytes = tt;
    links_unwritten = tt;
    control_apart = (tt, tt);
  };
  count = refl;
  link_pages = refl;
  same_pairs = refl;
}

nothing_ends : EndsAfter nothing_loaded.load 1
unfolding run_from step_of kind_of
nothing_ends = refl

no_segments : ◌≡◌ {A = List SegmentValue} [] three_bytes → ⊥
no_segments e = cc

pub other_segments : IsNeeded 2 Plain few_read nothing_loaded []
other_segments = (
  (plan_is, (omega arith, (refl, ((λ q z. refl), (nothing_told, (nothing_ends, (inl refl, ((λ swap e. absurd (plain_swap swap e)), (tt, (tt, tt)))))))))),
  λ load. no_segments load.segments,
)

pub other_mode : IsNeeded 3 Kept (found_with (0x10 ∷ 0x11 ∷ 0x12 ∷ 0x13 ∷ [])) found one_move
other_mode = (
  (plan_is, (omega arith, (refl, ((λ q z. refl), (told, (ends, (inl refl, ((λ swap e. absurd (plain_swap swap e)), ((inr (inl refl), tt), ((inr (inr (inl refl)), tt), tt)))))))))),
  λ load. let e : ◌≡◌ {A = Mode} modes.Plain (modes.Kept 0) = load.mode in cc,
)

lost : at loaded 0x40 ≡ at with_a_page 0x40 → ⊥
unfolding page_of zero_page
lost e =
    let f : zero_page ≡ abc_page = sym (loaded_other 0x40 (λ e. omega (arith, e)) (λ e. omega (arith, e)) ∙ no_page 0x40) ∙ e ∙ same_page (0x40, abc_page) [] in
    let g : 0 ≡ 97 = ap (λ bytes. get_or bytes 0 0) f in
    omega (arith, g)

pub other_page_written : IsNeeded 4 Plain (record few_read { memory = with_a_page }) found one_move
other_page_written = (
  (plan_is, (omega arith, (refl, (refl, (told, (ends, (inl refl, ((λ swap e. absurd (plain_swap swap e)), ((inr (inl refl), tt), ((inr (inr (inl refl)), tt), tt)))))))))),
  λ load. lost (load.only_pool_pages 0x40 refl),
)

not_told : Told found.load 4 2 ((2, 0x12) ∷ []) → ⊥
not_told t =
    let same = only_list (at loaded) has_list loaded_source t.items t.accepted in
    let e : 1 ≡ 2 = ap (λ is. length (links is)) (sym same) ∙ t.link_pages in
    omega (arith, e)

pub other_list : IsNeeded 5 Plain (found_with (0x10 ∷ 0x11 ∷ 0x12 ∷ [])) told_wrongly one_move
other_list = (
  (plan_is, (omega arith, (refl, (refl, ((λ q z. refl), (ends, (inl refl, ((λ swap e. absurd (plain_swap swap e)), ((inr (inl refl), tt), ((inr (inr (inl refl)), tt), tt)))))))))),
  λ load. not_told load.accepted,
)

pub other_control : IsNeeded 7 Plain (found_with (0x30 ∷ 0x11 ∷ 0x12 ∷ [])) found one_move
other_control = (
  (plan_is, (omega arith, (refl, (refl, ((λ q z. refl), (told, (ends, ((λ swap e. absurd (plain_swap swap e)), ((inr (inl refl), tt), ((inr (inr (inl refl)), tt), tt)))))))))),
  λ load. not_in 0x10 (0x30 ∷ 0x11 ∷ 0x12 ∷ []) refl load.control_is_drawn,
)

pub other_link : IsNeeded 9 Plain (found_with (0x10 ∷ 0x30 ∷ 0x12 ∷ [])) found one_move
other_link = (
  (plan_is, (omega arith, (refl, (refl, ((λ q z. refl), (told, (ends, (inl refl, ((λ swap e. absurd (plain_swap swap e)), ((inr (inr (inl refl)), tt), tt)))))))))),
  λ load. let same = only_list (at loaded) has_list loaded_source load.accepted.items load.accepted.accepted in
      let h : AllByRecursion (λ l. Has l (0x10 ∷ 0x30 ∷ 0x12 ∷ [])) (links one_move) = subst (λ is. AllByRecursion (λ l. Has l (0x10 ∷ 0x30 ∷ 0x12 ∷ [])) (links is)) same load.list_is_drawn in
      not_in 0x11 (0x10 ∷ 0x30 ∷ 0x12 ∷ []) refl h.0,
)

pub other_source : IsNeeded 10 Plain (found_with (0x10 ∷ 0x11 ∷ 0x30 ∷ [])) found one_move
other_source = (
  (plan_is, (omega arith, (refl, (refl, ((λ q z. refl), (told, (ends, (inl refl, ((λ swap e. absurd (plain_swap swap e)), ((inr (inl refl), tt), tt)))))))))),
  λ load. not_in 0x12 (0x10 ∷ 0x11 ∷ 0x30 ∷ []) refl load.sources_are_drawn.0,
)
