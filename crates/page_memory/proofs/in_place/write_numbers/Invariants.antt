use Rattle.std.proofs.Common.{◌≡◌, ◌++◌, ◌+◌, ◌*◌, take, drop}
use Rattle.std.specs.List.{flat_map}
use Rattle.page_memory.specs.File.{page_text}
use Rattle.page_memory.specs.inner.InPlace.{slot_entries}
use Rattle.page_memory.proofs.in_place.write_numbers.Given as goal

abbrev pub invariant-loop-p : goal.invariant-loop-p
invariant-loop-p l = record {
  place : l.at ≡ 16 + 4104 * l.p-index;
  text : take l.at l.frames ++ flat_map page_text (slot_entries l.fn.frames l.p-index (drop l.p-index l.pages)) ≡ take 16 l.fn.frames ++ flat_map page_text (slot_entries l.fn.frames 0 l.pages);
  rest : drop l.at l.frames ≡ drop l.at l.fn.frames;
}
