use Rattle.std.proofs.Common.{◌++◌, ap, ◌∙◌, subst, arith}
use Rattle.elf_headers.specs.ProgramHeader.{row_text}
use Rattle.elf_headers.specs.inner.ProgramHeader.{IsRowReadBack}
use Rattle.crash_headers.specs.ProgramHeader.{note_row}
use Rattle.crash_headers.proofs.Rows.{row_more, rows_all, back_more, back_all}
use Rattle.crash_headers.proofs.headers.put_notes.Goals as goal

pub loop-note-preserved : goal.loop-note-preserved
loop-note-preserved c = record {
  text = row_more note_row c.args.notes.now c.loop-note.note-index _ c.args.out.now.items c.loop-note.out.items c.put_row.new.out.items c.loop-note-test.true (c.in_ok-put_row.ensures.text ∙ ap (λ h. c.loop-note.out.items ++ row_text h) c.note_row.ensures) c.loop-note.invariant.text;
  back = back_more note_row c.args.notes.now c.loop-note.note-index _ c.loop-note-test.true (subst IsRowReadBack c.note_row.ensures c.put_row.ensures.back) c.loop-note.invariant.back;
}

pub returns-clause-text : goal.returns-clause-text
returns-clause-text c = rows_all note_row c.args.notes.now c.loop-note.note-index c.args.out.now.items c.loop-note.out.items (omega arith) c.loop-note.invariant.text

pub returns-clause-back : goal.returns-clause-back
returns-clause-back c = back_all note_row c.args.notes.now c.loop-note.note-index (omega arith) c.loop-note.invariant.back
