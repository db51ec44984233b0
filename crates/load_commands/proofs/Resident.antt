-- The pool and the list of a kernel whose pages are resident.
use Rattle.std.proofs.Common.{◌≡◌, ◌∙◌, ℕ, List, [], ◌∷◌, ◌++◌, None, Ok, refl, sym, ap, subst}
use Rattle.kx_pages.specs.Lists.{Distinct}
use Rattle.kx_pages.specs.Modes.{swap_page}
use Rattle.kx_pages.specs.declared.image.Mode.TheVariants.{Plain}
use Rattle.kx_pages.specs.declared.image.Start.{Start}
use Rattle.kx_pages.specs.declared.item.Item.{Item}
use Rattle.page_memory.specs.Contents.{at}
use Rattle.segments.specs.Values.{want}
use Rattle.list_checker.specs.Walk.{IsAccepted}
use Rattle.load_states.specs.States.{Checked, Load}
use Rattle.resident_planner.specs.Laid.{plan_items}
use Rattle.kexec_plan.specs.Plan.{plan}
use Rattle.kexec_plan.specs.Requests.{Plan}
use Rattle.command_parts.specs.declared.reason.Reason.{Reason}
use Rattle.command_parts.specs.declared.reason.Reason.TheVariants as reasons
use Rattle.load_commands.specs.BootResident.{HasNoList, RefusesResident, resident_text}
use Rattle.load_commands.specs.inner.Told.{ran_resident}
use Rattle.command_parts.specs.inner.Ran.{HasMode, HasRun}
use Rattle.load_commands.specs.inner.Views.{IsKernel}
use Rattle.load_commands.specs.Inputs.{LoadInputs}
use Rattle.load_commands.specs.declared.boot_resident.ResidentKernel.{ResidentKernel}
use Rattle.command_parts.specs.declared.running.Ran.{Ran}

pub no_list_refuses : (i : LoadInputs) (rs : List (ℕ × ℕ)) (p : Plan) → plan i.request i.map ≡ Ok p → (why : Reason) → HasNoList (at i.memory) p.segments i.usable rs why → RefusesResident i rs why
no_list_refuses i rs p planned (reasons.Resident fault) h = (p, planned, h)
no_list_refuses i rs p planned other h = absurd h

pub distinct_right : (xs ys : List ℕ) → Distinct (xs ++ ys) → Distinct ys
distinct_right [] ys d = d
distinct_right (x ∷ xs) ys d = distinct_right xs ys d.1

-- the mode of a list that was made
plain_kernel : (i : LoadInputs) (rs : List (ℕ × ℕ)) (k : ResidentKernel) → IsKernel i rs k → k.loaded.image.mode ≡ Plain
plain_kernel i rs k h = ap (λ (l : Load). l.image.mode) h.load ∙ ap (λ i. i.mode) h.resident.made.image_is

pub kernel_mode : (i : LoadInputs) (rs : List (ℕ × ℕ)) (k : ResidentKernel) → IsKernel i rs k → HasMode None k.loaded.image.mode
kernel_mode i rs k h = subst (HasMode None) (sym (plain_kernel i rs k h)) tt

-- a list that was made is accepted
pub kernel_accepted : (i : LoadInputs) (rs : List (ℕ × ℕ)) (k : ResidentKernel) → IsKernel i rs k
    → (is : List Item) × IsAccepted (at k.loaded.memory) (want k.loaded.segments) k.loaded.image.head k.loaded.image.control (swap_page k.loaded.image.mode) is
kernel_accepted i rs k h =
    let made = h.resident.made in
    let items = plan_items made.links made.planned_pairs in
    let mode : h.m.image.mode ≡ Plain = ap (λ i. i.mode) made.image_is in
    subst (λ (l : Load). (is : List Item) × IsAccepted (at l.memory) (want l.segments) l.image.head l.image.control (swap_page l.image.mode) is) (sym h.load)
    (items, subst (λ mode. IsAccepted (at h.m.memory) (want h.p.segments) h.m.image.head h.m.image.control (swap_page mode) items) (sym mode) made.accepted)

-- the text of a run is that of its list
pub resident_text_of : (c : Checked) (r : Ran) (start planned : Start) (copied count : ℕ) → HasRun None c r → start ≡ planned → copied ≡ count → ran_resident r start copied ≡ resident_text c planned count
resident_text_of c r start planned copied count h s n = rw (h.words, h.links, h.pairs, h.image, h.ends, s, n) refl
