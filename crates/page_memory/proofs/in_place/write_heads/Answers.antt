use Rattle.std.proofs.Common.{drop, ap, ◌∙◌, arith}
use Rattle.page_memory.specs.inner.InPlace.{slot_entries}
use Rattle.page_memory.proofs.InPlace.{head_and_entries, length-slot_entries}
use Rattle.page_memory.proofs.in_place.write_heads.Goals as goal

pub returns : goal.returns
returns c =
    let xs = c.args.frames.now in
    let es = slot_entries xs 0 c.args.pages.now in
    head_and_entries xs _ _ es _ (omega arith) (length-slot_entries xs 0 c.args.pages.now) (c.copy_from_slice.ensures.after ∙ c.bytes.ensures.value ∙ c.head_of.ensures) (c.split_at_mut-head.ensures.back ∙ ap (drop 16) c.write_numbers.ensures)
