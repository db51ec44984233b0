-- The end of every plan: the purgatory is linked, the segments are tested, and the purgatory gets what it is to find (this
-- project's own).
use Rattle.std.specs.Prelude.{ℕ, ◌+◌, ◌≤◌, ◌⊎◌, ◌++◌, List, [], ◌∷◌, length, Option, Some, None, Result, Ok}
use Rattle.kx_laws.specs.Results.{◌>>=◌}
use Rattle.kx_pages.specs.declared.image.Start.{Start}
use Rattle.segments.specs.Values.{SegmentValue}
use Rattle.kexec_plan.specs.Ground.{Ground}
use Rattle.purgatory_link.specs.Regions.{others, digest, region_table}
use Rattle.plan_faults.specs.declared.fault.PlanFault.{PlanFault}
use Rattle.kexec_plan.specs.declared.places.Site.{Site}
use Rattle.kexec_plan.specs.Requests.{Plan}
use Rattle.kexec_plan.specs.Parts.{segment_at, start_at}
use Rattle.kexec_plan.specs.Rules.{test_segments}
use Rattle.kexec_plan.specs.Purgatory.{PurgatoryValue, Linkage, linked_at, arm}

-- the plan of these segments, without a purgatory
unfoldable pub plain_plan : Ground → List SegmentValue → Start
    → Result Plan PlanFault
plain_plan g ss start = do
  segments ← test_segments g ss
  Ok (record { segments = segments; start = start; regions = 0; digest = 0 })

-- the bytes of the purgatory, segment number g of these, with the registers for this start, with the table of the
-- regions of all others and with their digest
abbrev pub armed_among : List SegmentValue → ℕ → Linkage → Start → List ℕ
armed_among ss g l start = arm l start (region_table (others ss g)) (digest ss g)

-- the purgatory's segment behind these, with what it is to find
abbrev pub armed_segment : Linkage → Start → List SegmentValue → Site → SegmentValue
armed_segment l start ss s =
    segment_at s (armed_among (ss ++ segment_at s l.bytes ∷ []) (length ss) l start)

-- the plan of these segments and of a linked purgatory behind them, which starts first
unfoldable pub armed_plan : Ground → List SegmentValue → Start → Linkage → Site
    → Result Plan PlanFault
armed_plan g ss start l s = do
  _ ← test_segments g (ss ++ segment_at s l.bytes ∷ [])
  Ok (record {
    segments = ss ++ armed_segment l start ss s ∷ [];
    start = start_at l.symbols.start;
    regions = l.symbols.regions;
    digest = l.symbols.digest;
  })

-- the plan of these segments, and of the purgatory at its place
unfoldable pub finish : Ground → List SegmentValue → Start → Option PurgatoryValue
    → Option Site → Result Plan PlanFault
finish g ss start (Some p) (Some s) = do
  l ← linked_at p s
  armed_plan g ss start l s
finish g ss start (Some p) None = plain_plan g ss start
finish g ss start None s = plain_plan g ss start

-- The table of regions and the digest have no byte in common. The symbols of a purgatory may overlap, and one of the two
-- is then written over the other. Without a purgatory both addresses are 0.
abbrev pub HasTableApart : Plan → Type 0
HasTableApart p = (p.regions + 256 ≤ p.digest) ⊎ (p.digest + 32 ≤ p.regions)
