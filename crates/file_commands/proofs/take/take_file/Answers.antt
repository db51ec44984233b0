use Rattle.std.proofs.Common.{arith, string_bytes, Ok}
use Rattle.std.proofs.lemmas.Grind.{common_steps}
use Rattle.file_commands.specs.Files.{whole_file}
use Rattle.file_commands.specs.Taking.{Took}
use Rattle.file_commands.proofs.Measured.{took_whole}
use Rattle.file_commands.proofs.take.take_file.Goals as goal

pub returns-clause-whole : goal.returns-clause-whole
returns-clause-whole g c =
    let h : Took {R = g.row.R.Denot} g.S.Shelf (whole_file c.args.limit (string_bytes c.args.name)) c.args.shelf.now (Ok c.in_ok-file.file.bytes.items) c.take_named.new.shelf = grind (arith, common_steps) in
    took_whole g.row.R.Denot g.S.Shelf c.args.limit (string_bytes c.args.name) c.in_ok-file.file.bytes.items _ _ h
