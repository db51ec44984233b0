use Rattle.std.proofs.Common.{ap, sym, ◌++◌, ℕ}
use Rattle.std.specs.List.{flat_map}
use Rattle.std.proofs.lemmas.List.{length-map}
use Rattle.byteorder.specs.Endian.{little_bytes}
use Rattle.page_memory.specs.File.{text_of, magic, page_text}
use Rattle.page_memory.specs.inner.Frames.{frame_entries, frame_in}
use Rattle.page_memory.proofs.file.text_of_pages.Goals as goal

pub loop-p-init : goal.loop-p-init
unfolding text_of
loop-p-init c = record {
  inside = c.requires.inside;
  text = rw (c.in_ok-extend_from_slice.ensures.items, c.in_ok-reserve_exact.ensures.items, c.new-out.ensures.items, c.bytes.ensures.value, c.head_of.ensures)
      (ap (λ n. magic ++ (little_bytes 8 n ++ flat_map page_text (frame_entries c.args.frames.now c.args.pages.now))) (sym (length-map c.args.pages.now (λ (e : ℕ × ℕ). (e.0, frame_in c.args.frames.now e.1)))));
}
