use Rattle.std.proofs.Common.{◌∙◌, ap, sym, subst, length, refl, arith}
use Rattle.elf_image.specs.Reloc.{entry_of}
use Rattle.purgatory_link.specs.Relocs.{with_one, put_of}
use Rattle.purgatory_link.specs.inner.Relocs.{HasRoom, is_idle}
use Rattle.purgatory_link.proofs.Found.{some_put}
use Rattle.purgatory_link.proofs.Relocating.{one_put, entry_put, entry_refused, entries_put, all_idle}
use Rattle.purgatory_link.proofs.Idle.{unloaded_idle, unloaded_entry, first_run, next_run}
use Rattle.purgatory_link.proofs.relocate.relocate_section.Goals as goal

pub returns-then-is_none-clause-put : goal.returns-then-is_none-clause-put
returns-then-is_none-clause-put c =
    all_idle c.args.base c.args.object.now c.args.starts.now c.args.buffer.now c.args.file.now c.args.section.now (λ k _. unloaded_idle c.args.base c.args.object.now c.args.starts.now (entry_of c.args.file.now c.args.section.now k) (unloaded_entry c.args.file.now c.args.starts.now c.args.section.now k c.start_at.result c.start_at.ensures c.if-is_none.ensures))

pub loop-entry-init : goal.loop-entry-init
loop-entry-init c = record {
  put = first_run c.args.base c.args.object.now c.args.file.now c.args.starts.now c.args.buffer.now c.args.section.now c.run-entry.result (c.run-entry.ensures.runs (is_idle c.args.base c.args.object.now c.args.file.now c.args.starts.now) c.requires.runs);
  row = c.requires.row;
  room_stays = refl;
  long = refl;
}

pub put-requires-clause-put : goal.put-requires-clause-put
put-requires-clause-put c =
    let row = c.loop-entry.invariant.row in
    some_put c.args.base c.args.object.now c.args.starts.now row.0 c.reloc-reloc.result c.in-Ok.put (length c.loop-entry.buffer.bytes.items)
    (subst (HasRoom c.args.object.now c.args.starts.now) (sym c.loop-entry.invariant.long) c.requires.room) (sym (c.in-Ok.ensures row.0 row.1))

pub returns-in-Err-clause-refused : goal.returns-in-Err-clause-refused
returns-in-Err-clause-refused c =
    entry_refused c.args.base c.args.object.now c.args.starts.now c.args.buffer.now c.loop-entry.buffer c.args.file.now c.args.section.now c.loop-entry.entry c.in-Err.fault c.loop-entry-test.true c.loop-entry.invariant.put
    (λ puts are. c.in-Err.ensures puts are ∙ ap (put_of c.args.base c.args.object.now c.args.starts.now puts) c.reloc-reloc.ensures)

pub loop-entry-preserved : goal.loop-entry-preserved
loop-entry-preserved c =
    let row = c.loop-entry.invariant.row in
    let one = entry_put c.args.base c.args.object.now c.args.starts.now c.args.buffer.now c.loop-entry.buffer c.put.new.self c.args.file.now c.args.section.now c.loop-entry.entry c.loop-entry-test.true c.loop-entry.invariant.put
    (one_put c.args.base c.args.object.now c.args.starts.now c.loop-entry.buffer c.put.new.self (entry_of c.args.file.now c.args.section.now c.loop-entry.entry) c.in-Ok.put
    (λ puts are. c.in-Ok.ensures puts are ∙ ap (put_of c.args.base c.args.object.now c.args.starts.now puts) c.reloc-reloc.ensures) c.put.ensures.taken c.put.ensures.bytes) in
    record {
      put = next_run c.args.base c.args.object.now c.args.file.now c.args.starts.now c.args.buffer.now c.put.new.self c.args.section.now c.loop-entry.entry c.run.result _ (omega arith) one
          (c.run.ensures.runs (is_idle c.args.base c.args.object.now c.args.file.now c.args.starts.now) c.requires.runs);
      row = (with_one row.0 c.in-Ok.put, c.put.ensures.taken row.0 row.1);
      room_stays = c.put.ensures.room ∙ c.loop-entry.invariant.room_stays;
      long = c.put.ensures.length ∙ c.loop-entry.invariant.long;
    }

pub returns-clause-put : goal.returns-clause-put
returns-clause-put c =
    entries_put c.args.base c.args.object.now c.args.starts.now c.args.buffer.now c.loop-entry.buffer c.args.file.now c.args.section.now c.loop-entry.entry c.loop-entry-test.false c.loop-entry.invariant.put
