use Rattle.std.proofs.Common.{arith}
use Rattle.kx_fields.specs.inner.Formats.{Fits}
use Rattle.elf_headers.specs.FileHeader.{file_header}
use Rattle.elf_headers.proofs.Headers.{header_back}
use Rattle.elf_headers.proofs.file_header.FileHeader.block.Goals as goal

pub returns-clause-back : goal.returns-clause-back
returns-clause-back c =
    let fits : Fits file_header c.args.self = (omega arith, (omega arith, (omega arith, (omega arith, (omega arith, (omega arith, (omega arith, (omega arith, (omega arith, (omega arith, (omega arith, (omega arith, (omega arith, tt))))))))))))) in
    header_back c.args.self fits
