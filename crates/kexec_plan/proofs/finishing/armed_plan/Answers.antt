use Rattle.std.proofs.Common.{◌≡◌, ◌++◌, ◌∷◌, [], length, Ok, rules, subst}
use Rattle.kexec_plan.specs.Parts.{segment_at}
use Rattle.kexec_plan.specs.Purgatory.{Linkage}
use Rattle.kexec_plan.specs.inner.Purgatory.{HasSymbols}
use Rattle.kexec_plan.specs.Rules.{test_segments}
use Rattle.kexec_plan.specs.inner.Requests.{planned_of}
use Rattle.kexec_plan.specs.Finish.{armed_plan}
use Rattle.kexec_plan.proofs.Armed.{armed_is}
use Rattle.kexec_plan.proofs.Last.{last_is, last_before, last_get}
use Rattle.kexec_plan.proofs.finishing.armed_plan.Goals as goal

pub arm_segment-requires-clause-inside : goal.arm_segment-requires-clause-inside
arm_segment-requires-clause-inside c =
    let e : c.in_ok-segments.segments ≡ c.args.list.items ++ segment_at c.args.site c.args.linkage.bytes ∷ [] = search rules in
    let n : c.len-purgatory.result ≡ length c.args.list.items = search rules in
    rw e (last_before c.args.list.items (segment_at c.args.site c.args.linkage.bytes) c.len-purgatory.result n)

pub arm_segment-requires-clause-symbols : goal.arm_segment-requires-clause-symbols
arm_segment-requires-clause-symbols c = λ s h.
    let e : c.in_ok-segments.segments ≡ c.args.list.items ++ segment_at c.args.site c.args.linkage.bytes ∷ [] = search rules in
    let n : c.len-purgatory.result ≡ length c.args.list.items = search rules in
    let t = last_is c.args.list.items (segment_at c.args.site c.args.linkage.bytes) s c.len-purgatory.result n (rw e at h) in
    let r : HasSymbols c.linkage.inside.base (length c.args.linkage.bytes) c.linkage.inside.symbols = search rules in
    subst (λ x. HasSymbols c.linkage.inside.base (length x.bytes) c.linkage.inside.symbols) t r

pub returns : goal.returns
returns c =
    let l : Linkage = record { base = c.linkage.inside.base; bytes = c.linkage.inside.bytes.items; symbols = c.linkage.inside.symbols } in
    let e : c.in_ok-segments.segments ≡ c.args.list.items ++ segment_at c.args.site c.linkage.inside.bytes.items ∷ [] = search rules in
    let n : c.len-purgatory.result ≡ length c.args.list.items = search rules in
    let t : test_segments c.args.ground.now (c.args.list.items ++ segment_at c.args.site c.linkage.inside.bytes.items ∷ []) ≡ Ok c.in_ok-segments.segments = search rules in
    let a = c.in_ok-arm_segment.ensures (segment_at c.args.site c.linkage.inside.bytes.items) (rw e (last_get c.args.list.items (segment_at c.args.site c.linkage.inside.bytes.items) c.len-purgatory.result n)) in
    subst (λ x. armed_plan c.args.ground.now c.args.list.items c.args.start x c.args.site ≡ Ok (planned_of (record { segments = c.arm_segment.new.segments; start = c.start_at.result; regions = c.linkage.inside.symbols.regions; digest = c.linkage.inside.symbols.digest }))) c.linkage.view_is (
    rw c.start_at.ensures (armed_is c.args.ground.now c.args.list.items c.args.start l c.args.site c.in_ok-segments.segments c.arm_segment.new.segments c.len-purgatory.result e n t a))
