-- A load of two equal pages, which takes fewer pages than it counts.
use Rattle.std.proofs.Common.{◌≡◌, ◌∙◌, ◌≤◌, [], ◌∷◌, Some, None, Ok, refl, sym, ap, arith, drop, inl, inr}
use Rattle.byteorder.specs.Endian.{little_number}
use Rattle.kx_laws.proofs.Options.{none_some}
use Rattle.kx_pages.specs.Bytes.{page_of}
use Rattle.kx_pages.specs.declared.image.Wish.TheVariants.{Plain}
use Rattle.page_memory.specs.Contents.{at, zero_page}
use Rattle.page_memory.specs.Memory.{word}
use Rattle.segments.specs.Rules.{bare_refusal, refusal, shape_refusal}
use Rattle.segments.specs.Values.{pages, want}
use Rattle.segments.specs.inner.Rules.{IsBare}
use Rattle.list_checker.specs.Walk.{Accepted}
use Rattle.list_checker.specs.inner.Laws.{ListsWanted}
use Rattle.list_checker.proofs.Wanted.{parts_listed}
use Rattle.load_states.specs.Ready.{Told}
use Rattle.load_states.specs.Runs.{EndsAfter}
use Rattle.load_states.proofs.Ready.{list_ends}
use Rattle.kexec_plan.specs.Finish.{finish, plain_plan}
use Rattle.kexec_plan.specs.Formats.{shown_format}
use Rattle.kexec_plan.specs.Ground.{ram}
use Rattle.kexec_plan.specs.Kernels.{read_kernel}
use Rattle.kexec_plan.specs.Laying.{place_part, place_parts}
use Rattle.kexec_plan.specs.Places.{place_some, taken_by}
use Rattle.kexec_plan.specs.Plan.{plan, plan_as}
use Rattle.kexec_plan.specs.Purgatory.{some_purgatory}
use Rattle.kexec_plan.specs.Rules.{first_refusal, ram_runs, test_segments}
use Rattle.worked_commands.specs.Drawn.{IsNeededBy, zeros_asked, zeros_found, zeros_list, zeros_memory, zeros_move, zeros_parts, zeros_plan, zeros_with}
use Rattle.worked_commands.specs.Lists.{HasWords}
use Rattle.worked_commands.proofs.Memories.{no_page, other_page, same_page}

planned : plan zeros_asked None ≡ Ok zeros_plan
unfolding plan plan_as read_kernel some_purgatory place_parts place_part place_some taken_by finish plain_plan ram ram_runs test_segments first_refusal refusal bare_refusal shape_refusal shown_format
planned = refl

bare : IsBare zeros_parts
unfolding bare_refusal shape_refusal
bare = refl

listed : ListsWanted (want zeros_parts) (pages zeros_parts)
listed = parts_listed zeros_parts bare

at_list : at zeros_memory 0x11 ≡ zeros_list
at_list = same_page (0x11, zeros_list) []

at_source : at zeros_memory 0x12 ≡ zero_page
at_source = other_page (0x11, zeros_list) [] 0x12 (λ e. omega (arith, e)) ∙ no_page 0x12

words : HasWords (at zeros_memory) 0x11000 (0x2001 ∷ 0x12008 ∷ 0x12008 ∷ 4 ∷ [])
unfolding word page_of
words = (
  ap (λ page. little_number 8 (drop 0 page)) at_list,
  (
    ap (λ page. little_number 8 (drop 8 page)) at_list,
    (ap (λ page. little_number 8 (drop 16 page)) at_list, (ap (λ page. little_number 8 (drop 24 page)) at_list, tt)),
  ),
)

first : want zeros_parts 2 ≡ Some zero_page
unfolding page_of zero_page
first = refl

second : want zeros_parts 3 ≡ Some zero_page
unfolding page_of zero_page
second = refl

accepted : Accepted (at zeros_memory) (want zeros_parts) 0x11002 0x10 zeros_move
accepted = record {
  walk = (refl, omega arith, (words.0, omega arith, omega arith, (words.1.0, omega arith, omega arith, (words.1.1.0, omega arith, omega arith, (words.1.1.1.0, refl)))));
  once = (tt, tt);
  destination_first = tt;
  in_order = (((omega arith, omega arith), tt), (tt, tt));
  whole = listed.whole;
  right_bytes = (first ∙ ap Some (sym at_source), (second ∙ ap Some (sym at_source), tt));
  links_unwritten = ((omega arith, tt), ((omega arith, tt), tt));
  control_apart = ((omega arith, tt), ((omega arith, omega arith), ((omega arith, omega arith), tt)));
}

abbrev told : Told zeros_found.load 5 1 ((2, 0x12) ∷ (3, 0x12) ∷ [])
told = record { items = zeros_move; accepted = accepted; count = refl; link_pages = refl; same_pairs = refl }

ends : EndsAfter zeros_found.load 5
ends = list_ends zeros_found.load 5 1 ((2, 0x12) ∷ (3, 0x12) ∷ []) bare told

few : 4 ≤ 3 → ⊥
few h = omega (arith, h)

pub too_few : IsNeededBy zeros_plan 1 Plain zeros_with zeros_found zeros_move
too_few = (
  (planned, (refl, (refl, ((λ q z. refl), (told, (ends, (inl refl, ((λ swap e. absurd (none_some None swap refl e)), ((inr (inl refl), tt), ((inr (inr (inl refl)), (inr (inr (inl refl)), tt)), tt)))))))))),
  λ load. few load.enough,
)
