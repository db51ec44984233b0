use Rattle.std.proofs.Common.{◌≡◌, length, ap, ◌∙◌, subst}
use Rattle.memory_map.specs.Maps.{core_ranges}
use Rattle.elf_headers.specs.FileHeader.{core_header}
use Rattle.elf_headers.specs.inner.FileHeader.{IsHeaderReadBack}
use Rattle.elf_headers.specs.inner.ProgramHeader.{AreReadBack}
use Rattle.crash_headers.specs.Headers.{count_of, rows, headers, length_for}
use Rattle.crash_headers.proofs.Rows.{headers_size, headers_ident, headers_file_header, headers_rows}
use Rattle.crash_headers.proofs.headers.make.Goals as goal

out_is_headers : (c : goal.In_ok-out-in-None) → c.in_ok-out-in-None.out.items ≡ headers c.args.notes.now (core_ranges c.args.map.now)
out_is_headers c = c.in_ok-out-in-None.ensures.text ∙ ap (headers c.args.notes.now) c.core_ranges-ranges.ensures.value

pub returns-in_ok-out-in-None-clause-length : goal.returns-in_ok-out-in-None-clause-length
returns-in_ok-out-in-None-clause-length c =
    ap length c.in_ok-out-in-None.ensures.text
    ∙ headers_size c.args.notes.now c.core_ranges-ranges.result.now
    ∙ ap (length_for (length c.args.notes.now)) c.core_ranges-ranges.ensures.value

pub returns-in_ok-out-in-None-clause-identification : goal.returns-in_ok-out-in-None-clause-identification
returns-in_ok-out-in-None-clause-identification c =
    headers_ident c.args.notes.now (core_ranges c.args.map.now) c.in_ok-out-in-None.out.items (out_is_headers c)

pub returns-in_ok-out-in-None-clause-file_header : goal.returns-in_ok-out-in-None-clause-file_header
returns-in_ok-out-in-None-clause-file_header c =
    headers_file_header c.args.notes.now (core_ranges c.args.map.now) c.in_ok-out-in-None.out.items (out_is_headers c)
    (subst (λ rs. IsHeaderReadBack (core_header (count_of c.args.notes.now rs))) c.core_ranges-ranges.ensures.value c.in_ok-out-in-None.ensures.first)

pub returns-in_ok-out-in-None-clause-program_headers : goal.returns-in_ok-out-in-None-clause-program_headers
returns-in_ok-out-in-None-clause-program_headers c =
    headers_rows c.args.notes.now (core_ranges c.args.map.now) c.in_ok-out-in-None.out.items (out_is_headers c)
    (subst (λ rs. AreReadBack (rows c.args.notes.now rs)) c.core_ranges-ranges.ensures.value c.in_ok-out-in-None.ensures.back)
