-- The load of the examples: what the rules of taking pages and laying a list make of it, and nothing else.
use Rattle.std.proofs.Common.{◌≡◌, ◌≢◌, ◌∙◌, ◌+◌, ℕ, List, [], ◌∷◌, length, take, false, cond, Some, None, Ok, Err, refl, sym, ap, subst, arith, inl, inr}
use Rattle.std.specs.Prelude.{eqb}
use Rattle.std.proofs.lemmas.Bool.Decides.{eqb_tells}
use Rattle.kx_laws.proofs.Options.{some_same}
use Rattle.kx_laws.proofs.Results.{ok_same}
use Rattle.kx_pages.specs.Bytes.{page_of}
use Rattle.kx_pages.specs.Lists.{count}
use Rattle.kx_pages.specs.declared.image.Start.{Start}
use Rattle.kx_pages.specs.declared.image.Wish.TheVariants.{Plain}
use Rattle.page_memory.specs.Contents.{at}
use Rattle.kimage_list.specs.Load.{Loading}
use Rattle.kimage_list.specs.Laying.{image_of}
use Rattle.segments.specs.Rules.{bare_refusal, refusal, shape_refusal}
use Rattle.segments.specs.Values.{need}
use Rattle.load_states.specs.Fillings.{IsSealed}
use Rattle.load_states.specs.Loads.{loading_of, memory_of}
use Rattle.load_states.specs.Ready.{Told}
use Rattle.load_states.specs.States.{Checked, Load, no_pages}
use Rattle.load_states.specs.inner.Runs.{IsSameCheck, IsSameLoad}
use Rattle.load_states.proofs.Alike.{tells_alike}
use Rattle.bzimage.specs.Signature.{is_bzimage}
use Rattle.multiboot_image.specs.Header.{find_header, header_place}
use Rattle.kexec_plan.specs.Finish.{finish, plain_plan}
use Rattle.kexec_plan.specs.Kernels.{read_kernel}
use Rattle.kexec_plan.specs.Laying.{place_part, place_parts}
use Rattle.kexec_plan.specs.Formats.{shown_format}
use Rattle.kexec_plan.specs.Ground.{ram}
use Rattle.kexec_plan.specs.Places.{place_some, taken_by}
use Rattle.kexec_plan.specs.Plan.{plan, plan_as}
use Rattle.kexec_plan.specs.Purgatory.{some_purgatory}
use Rattle.kexec_plan.specs.Requests.{Plan}
use Rattle.kexec_plan.specs.Rules.{first_refusal, ram_runs, test_segments}
use Rattle.plan_faults.specs.declared.fault.PlanFault.{PlanFault}
use Rattle.plan_faults.specs.declared.fault.PlanFault.TheVariants as plans
use Rattle.command_parts.specs.Runs.{checked_with, list_text}
use Rattle.command_parts.specs.Texts.{load_lines}
use Rattle.worked_commands.specs.Inputs.{few_asked, three_bytes}
use Rattle.worked_commands.specs.Lists.{one_move}
use Rattle.worked_commands.specs.Loads.{few_plan, unknown_read}
use Rattle.worked_commands.specs.Memories.{abc_page, list_page, loaded}
use Rattle.worked_commands.specs.Texts.{no_memory, plain_image}
use Rattle.worked_commands.proofs.Lists.{accepted}
use Rattle.worked_commands.proofs.Memories.{has_list, loaded_list, loaded_source, other_page}

abbrev pub pool : List ℕ
pool = 0x10 ∷ 0x11 ∷ 0x12 ∷ []

-- the kernel has this plan, and one whose type its file is to tell has none
pub plan_is : plan few_asked None ≡ Ok few_plan
unfolding plan plan_as read_kernel some_purgatory place_parts place_part place_some taken_by finish plain_plan ram ram_runs test_segments first_refusal refusal bare_refusal shape_refusal shown_format
plan_is = refl

pub no_plan : plan unknown_read.request None ≡ Err plans.UnknownImage
unfolding plan plan_as shown_format is_bzimage find_header header_place
no_plan = refl

three_loaded : Loading
three_loaded = record { left = []; filed = []; pairs = (2, 0x12) ∷ []; spare = 0x10 ∷ 0x11 ∷ [] }

loading_is : loading_of Plain three_bytes pool ≡ Some three_loaded
unfolding three_loaded
loading_is = refl

-- page q of the memory that the load leaves
laid_at : ℕ → Loading → List ℕ
laid_at q l = memory_of (at no_memory) Plain three_bytes l q

laid_list : laid_at 0x11 three_loaded ≡ list_page
unfolding laid_at three_loaded page_of
laid_list = refl

laid_source : laid_at 0x12 three_loaded ≡ abc_page
unfolding laid_at three_loaded page_of
laid_source = refl

laid_control : laid_at 0x10 three_loaded ≡ at no_memory 0x10
unfolding laid_at three_loaded
laid_control = refl

no_such : (q : ℕ) → q ≢ 0x10 → q ≢ 0x11 → q ≢ 0x12 → count q (take (need Plain three_bytes) pool) ≡ 0
no_such q a b c = λ i. cond (no 0x10 a i) 1 0 + (cond (no 0x11 b i) 1 0 + (cond (no 0x12 c i) 1 0 + 0))
  where
    no : (k : ℕ) → q ≢ k → eqb k q ≡ false
    no k apart = elim (eqb_tells k q) [ inl t ↦ absurd (apart (sym t.1)) | inr t ↦ t.0 ]

-- another page of the loaded memory is zeros
pub loaded_other : (q : ℕ) → q ≢ 0x11 → q ≢ 0x12 → at loaded q ≡ at no_memory q
loaded_other q a b = other_page (0x11, list_page) ((0x12, abc_page) ∷ []) q a ∙ other_page (0x12, abc_page) [] q b ∙ refl

module _ (r : Load) (s : IsSealed (at no_memory) pool Plain three_bytes r) where
  loading_same : s.loading ≡ three_loaded
  loading_same = some_same s.loading three_loaded (sym s.requests ∙ loading_is)

  at_laid : (q : ℕ) → at r.memory q ≡ laid_at q three_loaded
  unfolding laid_at
  at_laid q = s.memory q ∙ ap (λ l. laid_at q l) loading_same

  abbrev IsAsLoaded : ℕ → Type 0
  IsAsLoaded q = at r.memory q ≡ at loaded q

  other : (q : ℕ) → q ≢ 0x11 → q ≢ 0x12 → IsAsLoaded q
  other q b c = elim (eqb_tells q 0x10) [
    | inl t ↦ subst IsAsLoaded (sym t.1) (at_laid 0x10 ∙ laid_control ∙ sym (loaded_other 0x10 (λ e. omega (arith, e)) (λ e. omega (arith, e))))
    | inr t ↦ s.others q (no_such q t.1 b c) ∙ sym (loaded_other q b c)
  ]

  agree : (q : ℕ) → IsAsLoaded q
  agree q = elim (eqb_tells q 0x11) [
    | inl t ↦ subst IsAsLoaded (sym t.1) (at_laid 0x11 ∙ laid_list ∙ sym loaded_list)
    | inr t ↦ elim (eqb_tells q 0x12) [
      | inl u ↦ subst IsAsLoaded (sym u.1) (at_laid 0x12 ∙ laid_source ∙ sym loaded_source)
      | inr u ↦ other q t.1 u.1
    ]
  ]

abbrev pub load0 : Load
load0 = record { memory = loaded; pool = no_pages; image = plain_image; segments = three_bytes }

abbrev pub checked0 : Checked
checked0 = checked_with load0 4 1 ((2, 0x12) ∷ [])

told0 : Told load0 4 1 ((2, 0x12) ∷ [])
told0 = record {
  items = one_move;
  accepted = accepted (at loaded) has_list loaded_source;
  count = refl;
  link_pages = refl;
  same_pairs = refl;
}

image_is : image_of Plain three_loaded ≡ plain_image
unfolding three_loaded
image_is = refl

-- a load that is laid by the rules is this one
pub as_loaded : (r : Load) → IsSealed (at no_memory) pool Plain three_bytes r → IsSameLoad load0 r
as_loaded r s = record {
  reads = agree r s;
  image = s.image ∙ ap (image_of Plain) (loading_same r s) ∙ image_is;
  segments = s.segments;
}

pub as_checked : (c : Checked) → IsSealed (at no_memory) pool Plain three_bytes c.load → Told c.load c.words c.links c.pairs → IsSameCheck checked0 c
as_checked c s told = tells_alike checked0 told0 c (as_loaded c.load s) told

pub list_said : (c : Checked) (start : Start) → IsSealed (at no_memory) pool Plain three_bytes c.load → Told c.load c.words c.links c.pairs → list_text c start ≡ list_text checked0 start
list_said c start s told =
    let k = as_checked c s told in
    let image = (as_loaded c.load s).image in
    λ i. load_lines (k.words i) (k.links i) (length (k.pairs i)) (image i) start

pub one_plan : (p : Plan) → plan few_asked None ≡ Ok p → p ≡ few_plan
one_plan p e = ok_same {F = PlanFault} p few_plan (sym e ∙ plan_is)

pub sealed_by : (p : Plan) (r : Load) → plan few_asked None ≡ Ok p → IsSealed (at no_memory) pool Plain p.segments r → IsSealed (at no_memory) pool Plain three_bytes r
sealed_by p r e s = subst (λ (p : Plan). IsSealed (at no_memory) pool Plain p.segments r) (one_plan p e) s
