use Rattle.elf_headers.specs.FileHeader.{core_header}
use Rattle.crash_headers.specs.Headers.{count_of}
use Rattle.elf_headers.proofs.Headers.{header_back}
use Rattle.crash_headers.proofs.Rows.{back_rows, core_fits}
use Rattle.crash_headers.proofs.headers.headers.Goals as goal

pub returns-clause-first : goal.returns-clause-first
returns-clause-first c =
    let n = count_of c.args.notes.now c.args.ranges.now in
    header_back (core_header n) (core_fits n c.requires.few)

pub returns-clause-back : goal.returns-clause-back
returns-clause-back c = back_rows c.args.notes.now c.args.ranges.now c.in_ok-put_notes.ensures.back c.in_ok-put_loads.ensures.back
