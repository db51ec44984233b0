use Rattle.std.proofs.Common.{◌≡◌, length}
use Rattle.elf_image.specs.inner.Reloc.{has_symbol}
use Rattle.elf_image.specs.inner.Runs.{AreRuns}
use Rattle.elf_image.proofs.reloc.note_runs.Given as goal

abbrev pub invariant-loop-noted : goal.invariant-loop-noted
invariant-loop-noted l = record {
  runs : AreRuns (has_symbol l.file l.symbols) l.runs;
  end : l.runs.end ≡ length l.file;
  long : length l.runs.lengths ≡ l.noted;
}
