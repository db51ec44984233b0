-- How the value of the slots is stored (this project's own): records as their fields, choices as sums.
-- No clause of `kexec` reaches what stands here: it serves laws, and contracts inside the crates.
use Rattle.std.specs.Prelude.{◌≡◌, ◌⊎◌, ℕ, List, Bool, true, false, Option, Some, None, refl}
use Rattle.std.specs.Coded.{Coded, code_by, coded×, coded⊎, coded_ℕ, coded_bool, coded_list, coded_option}
use Rattle.std.proofs.Common.{inl, inr}
use Rattle.kx_pages.specs.Spans.{Run}
use Rattle.kx_pages.specs.declared.image.Image.{Image}
use Rattle.kx_pages.specs.declared.image.Wish.TheVariants as wishes
use Rattle.page_memory.specs.Contents.{Contents}
use Rattle.page_memory.specs.inner.Contents.{contents_code}
use Rattle.segments.specs.Values.{SegmentValue}
use Rattle.load_states.specs.inner.States.{image_code, part_code}
use Rattle.image_slots.specs.declared.event.LoadKind.{LoadKind}
use Rattle.image_slots.specs.declared.event.LoadKind.TheVariants as kinds
use Rattle.image_slots.specs.States.{Crash, Normal, Stage, Draft, Written, Placed, Underway}
use Rattle.image_slots.specs.inner.States.{SlotsValue}

abbrev pub run_code : Coded Run
run_code =
    code_by (ℕ × ℕ) (coded× coded_ℕ coded_ℕ) (λ r. (r.first, r.count))
    (λ p. record { first = p.0; count = p.1 }) (λ _. refl)

abbrev pub normal_code : Coded Normal
normal_code =
    code_by (Image × (List SegmentValue × List ℕ))
    (coded× image_code (coded× (coded_list part_code) (coded_list coded_ℕ)))
    (λ n. (n.image, (n.segments, n.pages)))
    (λ p. record { image = p.0; segments = p.1.0; pages = p.1.1 }) (λ _. refl)

abbrev pub crash_code : Coded Crash
crash_code =
    code_by (ℕ × List SegmentValue) (coded× coded_ℕ (coded_list part_code))
    (λ c. (c.head, c.segments)) (λ p. record { head = p.0; segments = p.1 }) (λ _. refl)

-- a kind of load: none for a crash load, and whether context is preserved
abbrev pub kind_to : LoadKind → Option Bool
kind_to (kinds.Normal wishes.Plain) = Some false
kind_to (kinds.Normal wishes.Kept) = Some true
kind_to kinds.Crash = None

abbrev pub kind_from : Option Bool → LoadKind
kind_from None = kinds.Crash
kind_from (Some false) = kinds.Normal wishes.Plain
kind_from (Some true) = kinds.Normal wishes.Kept

abbrev pub kind_back : (k : LoadKind) → kind_from (kind_to k) ≡ k
kind_back (kinds.Normal wishes.Plain) = refl
kind_back (kinds.Normal wishes.Kept) = refl
kind_back kinds.Crash = refl

abbrev pub kind_code : Coded LoadKind
kind_code = code_by (Option Bool) (coded_option coded_bool) kind_to kind_from kind_back

abbrev pub StageCode : Type 0
StageCode = (LoadKind × List SegmentValue) ⊎ (Normal ⊎ Crash)

abbrev pub stage_to : Stage → StageCode
stage_to (Draft kind list) = inl (kind, list)
stage_to (Written n) = inr (inl n)
stage_to (Placed c) = inr (inr c)

abbrev pub stage_from : StageCode → Stage
stage_from (inl d) = Draft d.0 d.1
stage_from (inr (inl n)) = Written n
stage_from (inr (inr c)) = Placed c

abbrev pub stage_back : (s : Stage) → stage_from (stage_to s) ≡ s
stage_back (Draft kind list) = refl
stage_back (Written n) = refl
stage_back (Placed c) = refl

abbrev pub stage_code : Coded Stage
stage_code =
    code_by StageCode
    (coded⊎ (coded× kind_code (coded_list part_code)) (coded⊎ normal_code crash_code))
    stage_to stage_from stage_back

abbrev pub load_code : Coded Underway
load_code =
    code_by (ℕ × Stage) (coded× coded_ℕ stage_code) (λ l. (l.caller, l.stage))
    (λ p. record { caller = p.0; stage = p.1 }) (λ _. refl)

abbrev pub slots_code : Coded SlotsValue
slots_code =
    code_by
    (Contents × (List ℕ × (List Run
    × (Option Run × (Option Underway × (Option Normal × (Option Crash × Bool)))))))
    (coded× contents_code
    (coded× (coded_list coded_ℕ)
    (coded× (coded_list run_code)
    (coded× (coded_option run_code)
    (coded× (coded_option load_code)
    (coded× (coded_option normal_code) (coded× (coded_option crash_code) coded_bool)))))))
    (λ v. (v.memory, (v.left, (v.ram, (v.area, (v.load, (v.normal, (v.crash, v.gone))))))))
    (λ p. record {
      memory = p.0;
      left = p.1.0;
      ram = p.1.1.0;
      area = p.1.1.1.0;
      load = p.1.1.1.1.0;
      normal = p.1.1.1.1.1.0;
      crash = p.1.1.1.1.1.1.0;
      gone = p.1.1.1.1.1.1.1;
    })
    (λ _. refl)
