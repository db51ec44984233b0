use Rattle.std.proofs.Common.{◌≡◌, length}
use Rattle.elf_image.specs.inner.Runs.{AreRuns}
use Rattle.purgatory_link.specs.inner.Relocs.{is_idle}
use Rattle.purgatory_link.proofs.relocate.note_runs.Given as goal

abbrev pub invariant-loop-noted : goal.invariant-loop-noted
invariant-loop-noted l = record {
  runs : AreRuns (is_idle l.base l.object l.file l.starts) l.runs;
  end : l.runs.end ≡ length l.file;
  long : length l.runs.lengths ≡ l.noted;
}
