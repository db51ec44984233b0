use Rattle.std.proofs.Common.{subst}
use Rattle.kx_pages.specs.Spans.{in_spans}
use Rattle.kexec_plan.specs.inner.Places.{IsPlacedBy}
use Rattle.kexec_plan.specs.inner.Laying.{part_of, laid_of}
use Rattle.kexec_plan.proofs.Making.{can_make}
use Rattle.kexec_plan.proofs.laying.Laying.place_part.Goals as goal

pub bytes-bytes-requires : goal.bytes-bytes-requires
bytes-bytes-requires c =
    let placed = subst (λ r. IsPlacedBy r c.in_ok-site.site) c.rule-rule.ensures.value c.in_ok-site.ensures.place in
    can_make (part_of c.args.part) c.in_ok-site.site (laid_of c.args.self.now) (laid_of c.tell.new.self) (in_spans c.place.new.taken) c.requires.part c.requires.low placed c.in_ok-tell.ensures
