-- Runs of `boot-resident` of which all is so but one field.
use Rattle.std.proofs.Common.{◌≡◌, ◌≢◌, ◌∙◌, ℕ, List, [], ◌∷◌, length, drop, true, false, cond, None, refl, sym, ap, subst, arith, inl, inr}
use Rattle.std.specs.FinMap.{empty}
use Rattle.std.specs.Fmt.{digits}
use Rattle.std.specs.Prelude.{codes, eqb, get_or, unwrap_or}
use Rattle.std.proofs.lemmas.Bool.Decides.{eqb_tells}
use Rattle.byteorder.specs.Endian.{little_number}
use Rattle.kx_laws.proofs.Booleans.{same_truth, true_false}
use Rattle.kx_pages.specs.Bytes.{page_of}
use Rattle.kx_pages.specs.Lists.{Has, has}
use Rattle.kx_pages.specs.Modes.{swap_page}
use Rattle.kx_pages.specs.declared.image.Image.{Image}
use Rattle.kx_pages.specs.declared.image.Mode.TheVariants as modes
use Rattle.kx_pages.proofs.Lists.{Has-from_has, has-from_Has}
use Rattle.page_memory.specs.Contents.{at, zero_page}
use Rattle.page_memory.specs.Memory.{word}
use Rattle.segments.specs.Values.{is_destination, overlay, want}
use Rattle.segments.specs.inner.Rules.{IsBare}
use Rattle.segments.proofs.Laws.{AreSegments-from_IsBare, Has-from_is_destination}
use Rattle.list_checker.specs.Walk.{IsAccepted, links, pairs}
use Rattle.load_states.specs.Ready.{Told}
use Rattle.load_states.specs.Runs.{EndsAfter}
use Rattle.load_states.specs.States.{Checked, Load}
use Rattle.load_states.specs.inner.Runs.{IsSameLoad}
use Rattle.load_states.proofs.Alike.{tells_alike}
use Rattle.load_states.proofs.Ready.{list_ends}
use Rattle.resident_planner.specs.Cycles.{deviating}
use Rattle.resident_planner.specs.Laid.{plan_items, plan_memory}
use Rattle.resident_planner.specs.Made.{DeviatesAtLeast, IsMade}
use Rattle.resident_planner.specs.Refusals.{pairs_refusal, resident_of}
use Rattle.resident_planner.specs.declared.plan.Made.{Made as ResidentList}
use Rattle.resident_planner.proofs.Once.{IsSameMade, least_of, one_made}
use Rattle.kexec_plan.specs.Requests.{Plan}
use Rattle.kexec_plan.proofs.Bare.{planned_bare}
use Rattle.load_commands.specs.BootResident.{BootsResident, IsResident, ResidentInputs, load_with, resident_text}
use Rattle.command_parts.specs.Outputs.{IsFileOf}
use Rattle.command_parts.specs.Runs.{Leaves, MachineLeaves, after_runs, checked_with}
use Rattle.command_parts.proofs.Ending.{machine_leaves}
use Rattle.command_parts.proofs.Leaving.{leaves_by}
use Rattle.worked_commands.specs.Drawn.{found, told_wrongly}
use Rattle.worked_commands.specs.Inputs.{three_bytes}
use Rattle.worked_commands.specs.Lists.{HasList, one_move}
use Rattle.worked_commands.specs.Loads.{few_plan}
use Rattle.worked_commands.specs.Memories.{abc_page, list_page, loaded, memory_with, run_file}
use Rattle.worked_commands.specs.Texts.{no_memory}
use Rattle.worked_commands.specs.Wrong.{ResidentNeeds, ResidentTo, elsewhere, elsewhere_file, elsewhere_pages, made_list, made_text, none_resident, run_elsewhere, with_o, without_a_pool}
use Rattle.worked_commands.proofs.FoundLoad.{bare, ends, is_memory, leaves, runs, told}
use Rattle.worked_commands.proofs.Lists.{accepted}
use Rattle.worked_commands.proofs.Loads.{loaded_other, one_plan, plan_is, pool}
use Rattle.worked_commands.proofs.LoadWitness.{as_laid}
use Rattle.worked_commands.proofs.Memories.{abc_block, file_with, has_list, left_alone, list_block, loaded_source, no_page, other_page, same_page, wanted}
use Rattle.worked_commands.proofs.OneOutput.{is_put, is_said, no_empty_file, not_zeros, one_memory, put_is, put_something, said_is}

-- ---- what follows from a list that was made and accepted
module _ (i : ResidentInputs) (p : Plan) (m : ResidentList) (c : Checked) (b : BootsResident i p m c) where
  mode : c.load.image.mode ≡ modes.Plain
  mode = ap (λ (l : Load). l.image.mode) b.1 ∙ ap (λ (i : Image). i.mode) b.0.made.image_is

  plain : IsBare c.load.segments
  plain = rw (ap (λ (l : Load). l.segments) b.1) (planned_bare i.load.request i.load.map p b.0.planned)

  abbrev its_list : Checked
  its_list =
      let items = plan_items b.0.made.links b.0.made.planned_pairs in
      checked_with (load_with p m) (length items) (length (links items)) (pairs items)

  told_made : Told its_list.load its_list.words its_list.links its_list.pairs
  told_made =
      let items = plan_items b.0.made.links b.0.made.planned_pairs in
      record {
        items = items;
        accepted = subst (λ mode. IsAccepted (at m.memory) (want p.segments) m.image.head m.image.control (swap_page mode) items) (sym (ap (λ (i : Image). i.mode) b.0.made.image_is)) b.0.made.accepted;
        count = refl;
        link_pages = refl;
        same_pairs = refl;
      }

  alike : IsSameLoad c.load its_list.load
  alike = record {
    reads = λ q. ap (λ (l : Load). at l.memory q) (sym b.1);
    image = ap (λ (l : Load). l.image) (sym b.1);
    segments = ap (λ (l : Load). l.segments) (sym b.1);
  }

  pub copies_follow : deviating (resident_of i.pairs) c.pairs ≡ m.copied
  copies_follow =
      let same = tells_alike c b.2 its_list alike told_made in
      ap (deviating (resident_of i.pairs)) (sym same.pairs ∙ b.0.made.pairs_are) ∙ b.0.made.deviate

  pub least_follows : DeviatesAtLeast p.segments i.pairs m.copied
  least_follows = least_of (at i.load.memory) p.segments i.load.usable i.pairs m b.0.made

  pub end_follows : EndsAfter c.load c.words
  end_follows = list_ends c.load c.words c.links c.pairs plain b.2

  pub runs_follow : MachineLeaves None c
  runs_follow = machine_leaves None c modes.Plain mode tt plain b.2

  pub leaves_follow : Leaves None c (after_runs None c)
  leaves_follow = leaves_by None c modes.Plain mode tt b.2

-- ---- the list of the kernel `abc`
two_placed : (q : ℕ) → has q (2 ∷ []) ≡ is_destination three_bytes q
two_placed q = same_truth (has q (2 ∷ [])) (is_destination three_bytes q) (λ h. is (Has-from_has q (2 ∷ []) h))
    (λ d. has-from_Has q (2 ∷ []) (Has-from_is_destination three_bytes q (AreSegments-from_IsBare three_bytes bare).placed d))
  where
    is : Has q (2 ∷ []) → is_destination three_bytes q ≡ true
    is (inl e) = ap (is_destination three_bytes) (sym e)
    is (inr none) = absurd none

laid_is : (q : ℕ) → plan_memory (at no_memory) (want three_bytes) (resident_of []) (2 ∷ []) (0x11 ∷ []) (0x12 ∷ []) ((2, 0x12) ∷ []) q
    ≡ cond (eqb q 0x11) list_page (cond (eqb q 0x12) abc_page (at no_memory q))
unfolding page_of
laid_is q = refl

apart : (q p : ℕ) → has q (0x11 ∷ 0x12 ∷ []) ≡ false → has p (0x11 ∷ 0x12 ∷ []) ≡ true → q ≢ p
apart q p none one e = true_false (sym one ∙ ap (λ q. has q (0x11 ∷ 0x12 ∷ [])) (sym e) ∙ none)

made : IsMade (at no_memory) three_bytes pool [] made_list
unfolding pairs_refusal
made = record {
  wanted_pages = 2 ∷ [];
  are = record { rising = (tt, tt); whole = two_placed };
  fine = refl;
  links = 0x11 ∷ [];
  fresh = 0x12 ∷ [];
  rest = [];
  planned_pairs = (2, 0x12) ∷ [];
  first = refl;
  links_are = refl;
  fresh_are = refl;
  planned = record { whole = λ p. refl; falling = (tt, tt); sourced = (refl, tt) };
  memory_is = λ q. as_laid q ∙ sym (laid_is q);
  image_is = refl;
  copied_is = refl;
  accepted = accepted (at loaded) has_list loaded_source;
  pairs_are = refl;
  deviate = refl;
  others = λ q none. loaded_other q (apart q 0x11 none refl) (apart q 0x12 none refl);
}

resident : IsResident none_resident.load none_resident.pairs few_plan made_list
resident = record { planned = plan_is; made = made }

least : DeviatesAtLeast three_bytes [] 0
least M head control swap is a = omega arith

pub right : ResidentTo none_resident (with_o run_file) made_text
right = record {
  planned = few_plan;
  list = made_list;
  resident = resident;
  checked = found;
  of_list = refl;
  accepted = told;
  copies = refl;
  least = least;
  ends = ends;
  runs = runs;
  leaves = leaves;
  output = run_file;
  is_memory = is_memory;
  put = is_put (codes "o") run_file;
  said = is_said made_text;
}

-- ---- any list that is made of it is this one
module _ (p : Plan) (m : ResidentList) (r : IsResident none_resident.load [] p m) where
  its_plan : p ≡ few_plan
  its_plan = one_plan p r.planned

  same_list : IsSameMade (at no_memory) three_bytes pool [] made_list m
  same_list = one_made (at no_memory) three_bytes pool [] made_list m made (subst (λ (p : Plan). IsMade (at no_memory) p.segments pool [] m) its_plan r.made)

  module _ (c : Checked) (of_list : c.load ≡ load_with p m) where
    same_load : IsSameLoad found.load c.load
    same_load = record {
      reads = λ q. ap (λ (l : Load). at l.memory q) of_list ∙ same_list.memory q;
      image = ap (λ (l : Load). l.image) of_list ∙ same_list.image;
      segments = ap (λ (l : Load). l.segments) of_list ∙ ap (λ (p : Plan). p.segments) its_plan;
    }

    -- page 40 is as it was
    nothing_at_40 : after_runs None c 0x40 ≡ zero_page
    nothing_at_40 =
        ap (λ ss. unwrap_or (want ss 0x40) (at c.load.memory 0x40)) same_load.segments
        ∙ same_load.reads 0x40
        ∙ loaded_other 0x40 (λ e. omega (arith, e)) (λ e. omega (arith, e)) ∙ no_page 0x40

    one_text : Told c.load c.words c.links c.pairs → resident_text c p.start m.copied ≡ made_text
    one_text t =
        let same = tells_alike found told c same_load t in
        λ j. resident_text (checked_with (record found.load { image = same_load.image j }) (same.words j) (same.links j) (same.pairs j)) (ap (λ (p : Plan). p.start) its_plan j) (same_list.copied j)

-- ---- wrong runs
no_page_drawn : (control : ℕ) (rest : List ℕ) → [] ≡ control ∷ rest → ⊥
no_page_drawn control rest e = cc

pub without_resident : ResidentNeeds 0 without_a_pool found run_file (with_o run_file) made_text
without_resident = (
  (refl, (told, (refl, (least, (ends, (runs, (leaves, (is_memory, (is_put (codes "o") run_file, (is_said made_text, tt)))))))))),
  λ h. no_page_drawn h.list.image.control _ h.resident.made.first,
)

-- the list in another memory
list_there : at elsewhere 0x11 ≡ list_page
list_there = same_page (0x11, list_page) ((0x12, abc_page) ∷ (0x40, abc_page) ∷ [])

words_there : HasList elsewhere
unfolding word page_of
words_there = (
  ap (λ page. little_number 8 (drop 0 page)) list_there,
  (ap (λ page. little_number 8 (drop 8 page)) list_there, (ap (λ page. little_number 8 (drop 16 page)) list_there, tt)),
)

source_there : at elsewhere 0x12 ≡ abc_page
source_there =
    other_page (0x11, list_page) ((0x12, abc_page) ∷ (0x40, abc_page) ∷ []) 0x12 (λ e. omega (arith, e)) ∙ same_page (0x12, abc_page) ((0x40, abc_page) ∷ [])

page_there : at elsewhere 0x40 ≡ abc_page
page_there =
    other_page (0x11, list_page) ((0x12, abc_page) ∷ (0x40, abc_page) ∷ []) 0x40 (λ e. omega (arith, e))
    ∙ other_page (0x12, abc_page) ((0x40, abc_page) ∷ []) 0x40 (λ e. omega (arith, e))
    ∙ same_page (0x40, abc_page) []

told_there : Told run_elsewhere.load 4 1 ((2, 0x12) ∷ [])
told_there = record {
  items = one_move;
  accepted = accepted (at elsewhere) words_there source_there;
  count = refl;
  link_pages = refl;
  same_pairs = refl;
}

abbrev IsRunThere : ℕ → Type 0
IsRunThere q = at (memory_with ((2, abc_page) ∷ elsewhere_pages)) q ≡ overlay (at elsewhere) (want three_bytes) q

run_there : (q : ℕ) → IsRunThere q
run_there q = elim (eqb_tells q 2) [
  | inl t ↦ subst IsRunThere (sym t.1) (same_page (2, abc_page) elsewhere_pages ∙ sym (ap (λ o. unwrap_or o (at elsewhere 2)) wanted))
  | inr t ↦ other_page (2, abc_page) elsewhere_pages q t.1 ∙ sym (left_alone (at elsewhere) q t.1)
]

file_there : IsFileOf (after_runs None run_elsewhere) elsewhere_file
unfolding page_of
file_there =
    file_with ((2, abc_page) ∷ elsewhere_pages) (overlay (at elsewhere) (want three_bytes)) ((omega arith, abc_block), ((omega arith, list_block), ((omega arith, abc_block), ((omega arith, abc_block), tt)))) run_there refl (omega arith)

pub without_of_list : ResidentNeeds 1 none_resident run_elsewhere elsewhere_file (with_o elsewhere_file) made_text
without_of_list = (
  (
    resident,
    (
      told_there,
      (
        refl,
        (
          least,
          (
            list_ends run_elsewhere.load 4 1 ((2, 0x12) ∷ []) bare told_there,
            (
              machine_leaves None run_elsewhere modes.Plain refl tt bare told_there,
              (
                leaves_by None run_elsewhere modes.Plain refl tt told_there,
                (file_there, (is_put (codes "o") elsewhere_file, (is_said made_text, tt))),
              ),
            ),
          ),
        ),
      ),
    ),
  ),
  λ h.
      let file = put_is (codes "o") h.output elsewhere_file h.put in
      let same = one_memory (after_runs None h.checked) (after_runs None run_elsewhere) elsewhere_file (rw (sym file) h.is_memory) file_there in
      not_zeros (sym (nothing_at_40 h.planned h.list h.resident h.checked h.of_list) ∙ same 0x40 ∙ page_there),
)

two_links : resident_text told_wrongly few_plan.start 0 ≡ made_text → ⊥
unfolding digits
two_links e = let f : 50 ≡ 49 = ap (λ text. get_or text 23 0) e in omega (arith, f)

pub without_accepted : ResidentNeeds 2 none_resident told_wrongly run_file (with_o run_file) (resident_text told_wrongly few_plan.start 0)
without_accepted = (
  (resident, (refl, (refl, (least, (ends, (runs, (leaves, (is_memory, (is_put (codes "o") run_file, (is_said (resident_text told_wrongly few_plan.start 0), tt)))))))))),
  λ h.
      two_links (said_is (resident_text h.checked h.planned.start h.list.copied) (resident_text told_wrongly few_plan.start 0) h.said
      ∙ one_text h.planned h.list h.resident h.checked h.of_list h.accepted),
)

pub without_is_memory : ResidentNeeds 8 none_resident found [] (with_o []) made_text
without_is_memory = (
  (resident, (refl, (told, (refl, (least, (ends, (runs, (leaves, (is_put (codes "o") [], (is_said made_text, tt)))))))))),
  λ h. no_empty_file (after_runs None h.checked) (rw (sym (put_is (codes "o") h.output [] h.put)) h.is_memory),
)

pub without_put : ResidentNeeds 9 none_resident found run_file empty made_text
without_put = (
  (resident, (refl, (told, (refl, (least, (ends, (runs, (leaves, (is_memory, (is_said made_text, tt)))))))))),
  λ h. put_something (codes "o") h.output h.put,
)

-- each run is told
not_silent : (c : Checked) (p : Plan) (copied : ℕ) → [] ≡ resident_text c p.start copied → ⊥
not_silent c p copied e = cc

pub without_said : ResidentNeeds 10 none_resident found run_file (with_o run_file) []
without_said = (
  (resident, (refl, (told, (refl, (least, (ends, (runs, (leaves, (is_memory, (is_put (codes "o") run_file, tt)))))))))),
  λ h. not_silent h.checked h.planned h.list.copied (said_is (resident_text h.checked h.planned.start h.list.copied) [] h.said),
)
