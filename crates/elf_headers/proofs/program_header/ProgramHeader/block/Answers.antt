use Rattle.std.proofs.Common.{rules}
use Rattle.kx_fields.specs.inner.Formats.{Fits}
use Rattle.elf_headers.specs.ProgramHeader.{program_header}
use Rattle.elf_headers.proofs.Headers.{row_back}
use Rattle.elf_headers.proofs.program_header.ProgramHeader.block.Goals as goal

pub returns-clause-back : goal.returns-clause-back
returns-clause-back c = let fits : Fits program_header c.args.self = search rules in row_back c.args.self fits
