use Rattle.std.proofs.Common.{◌≡◌, ◌-◌, [], length, take, drop, refl, ap, ◌∙◌, arith}
use Rattle.segments.proofs.Laws.{AreSegments-from_IsBare}
use Rattle.purgatory_link.specs.Regions.{region_table}
use Rattle.purgatory_link.proofs.Digesting.{both_parts, length-take_step}
use Rattle.purgatory_link.proofs.digests.regions_of.Goals as goal

pub put_regions-requires-clause-room : goal.put_regions-requires-clause-room
put_regions-requires-clause-room c =
    let s = AreSegments-from_IsBare c.args.segments.now c.count-count.ensures.valid in
    omega (arith, s.few, c.requires)

pub put_regions-requires-2-clause-room : goal.put_regions-requires-2-clause-room
put_regions-requires-2-clause-room c =
    let s = AreSegments-from_IsBare c.args.segments.now c.count-count.ensures.valid in
    omega (arith, s.few, c.requires, c.count-count.ensures.value)

pub returns : goal.returns
unfolding region_table
returns c =
    let all = c.args.segments.now in
    let front = take (c.args.purgatory - 0) (drop 0 all) in
    let count : length front ≡ c.args.purgatory = omega (arith, length-take_step all 0 c.args.purgatory (omega arith) (omega (arith, c.requires))) in
    c.put_regions-2.ensures front count (c.put_regions.ensures [] refl c.zeros-table.ensures.value)
    ∙ ap region_table (both_parts all c.args.purgatory c.count-count.result c.count-count.ensures.value)
