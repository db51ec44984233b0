use Rattle.std.proofs.Common.{rules}
use Rattle.file_commands.proofs.Steps.{start, next, stopped, finished}
use Rattle.kexec_words.specs.inner.Values.{load_names_value}
use Rattle.list_commands.specs.declared.records.TakenLoad.{TakenLoad}
use Rattle.list_commands.specs.Records.{load_files_of}
use Rattle.list_commands.proofs.records.take_load_files.Goals as goal

pub returns-in_err-memory : goal.returns-in_err-memory
returns-in_err-memory g c =
    let files = load_files_of (load_names_value c.args.names) in
    stopped g.S.Shelf _ _ _ (λ (f : TakenLoad). f) _ (search rules) (start g.S.Shelf files c.args.shelf.now) c.in_err-memory.ensures

pub returns-in_err-load_record : goal.returns-in_err-load_record
returns-in_err-load_record g c =
    let files = load_files_of (load_names_value c.args.names) in
    let memory = next g.S.Shelf _ _ (start g.S.Shelf files c.args.shelf.now) c.in_ok-memory.ensures in
    stopped g.S.Shelf _ _ _ (λ (f : TakenLoad). f) _ (search rules) memory c.in_err-load_record.ensures

pub returns : goal.returns
returns g c =
    let files = load_files_of (load_names_value c.args.names) in
    let memory = next g.S.Shelf _ _ (start g.S.Shelf files c.args.shelf.now) c.in_ok-memory.ensures in
    rw c.load_by.ensures (finished g.S.Shelf (next g.S.Shelf _ _ memory c.in_ok-load_record.ensures))
