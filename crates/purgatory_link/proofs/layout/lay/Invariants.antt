use Rattle.std.proofs.Common.{drop}
use Rattle.purgatory_link.proofs.Laying.{LaidSo}
use Rattle.purgatory_link.proofs.layout.lay.Given as goal

abbrev pub invariant-loop-section : goal.invariant-loop-section
invariant-loop-section l = LaidSo l.file l.out.items (drop l.section-index l.sections) l.sections
