-- The plan of a purgatory that got what it is to find.
use Rattle.std.proofs.Common.{◌≡◌, ℕ, ◌++◌, List, [], ◌∷◌, length, Ok, refl, ap, ◌∙◌}
use Rattle.std.specs.List.{slice_set}
use Rattle.kx_pages.specs.declared.image.Start.{Start}
use Rattle.segments.specs.Values.{SegmentValue}
use Rattle.kexec_plan.specs.Ground.{Ground}
use Rattle.purgatory_link.specs.Regions.{others, digest, region_table}
use Rattle.kexec_plan.specs.declared.places.Site.{Site}
use Rattle.kexec_plan.specs.Parts.{segment_at, start_at}
use Rattle.kexec_plan.specs.Rules.{test_segments}
use Rattle.kexec_plan.specs.Purgatory.{Linkage, arm}
use Rattle.kexec_plan.specs.Finish.{armed_segment, armed_plan}
use Rattle.kexec_plan.proofs.Last.{last_set}

-- segment number n of these with what the purgatory is to find
abbrev pub with_armed : Linkage → Start → Site → List SegmentValue → ℕ → List SegmentValue
with_armed l start s xs n =
    slice_set xs n (segment_at s (arm l start (region_table (others xs n)) (digest xs n)))

pub armed_is : (g : Ground) (ss : List SegmentValue) (start : Start) (l : Linkage) (s : Site) (segments new : List SegmentValue) (n : ℕ) → segments ≡ ss ++ segment_at s l.bytes ∷ [] → n ≡ length ss → test_segments g (ss ++ segment_at s l.bytes ∷ []) ≡ Ok segments → new ≡ with_armed l start s segments n → armed_plan g ss start l s ≡ Ok (record { segments = new; start = start_at l.symbols.start; regions = l.symbols.regions; digest = l.symbols.digest })
unfolding armed_plan
armed_is g ss start l s segments new n e k t a =
    let is : new ≡ ss ++ armed_segment l start ss s ∷ [] =
    a ∙ ap (λ xs. with_armed l start s xs n) e ∙ ap (λ m. with_armed l start s (ss ++ segment_at s l.bytes ∷ []) m) k
    ∙ last_set ss (segment_at s l.bytes) (armed_segment l start ss s) (length ss) refl in
    rw (t, is) refl
