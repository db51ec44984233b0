use Rattle.std.proofs.Common.{◌≡◌, ◌++◌, ◌+◌, ◌≤◌, length, drop}
use Rattle.std.specs.List.{flat_map, AllByRecursion}
use Rattle.page_memory.specs.File.{page_text, text_of}
use Rattle.page_memory.specs.inner.Frames.{frame_entries}
use Rattle.page_memory.proofs.file.text_of_pages.Given as goal

abbrev pub invariant-loop-p : goal.invariant-loop-p
invariant-loop-p l = record {
  inside : AllByRecursion (λ e. e.1 + 4096 ≤ length l.frames) (drop l.p-index l.pages);
  text : l.out.items ++ flat_map page_text (frame_entries l.frames (drop l.p-index l.pages)) ≡ text_of (frame_entries l.frames l.fn.pages);
}
