use Rattle.std.proofs.Common.{rules, ◌∙◌, ap, sym}
use Rattle.std.specs.Prelude.{is_some, string_bytes}
use Rattle.file_commands.proofs.Steps.{start, next, stopped, finished}
use Rattle.kexec_words.specs.inner.Values.{inputs_value}
use Rattle.kexec_plan.specs.Requests.{Asked}
use Rattle.kexec_plan.specs.inner.Requests.{request_of}
use Rattle.load_commands.proofs.Mapped.{is_some_map, request_mapped}
use Rattle.load_commands.proofs.inputs.take_inputs.Goals as goal

pub returns-in_err-memory : goal.returns-in_err-memory
returns-in_err-memory g c =
    stopped g.S.Shelf _ _ _ _ _ (search rules) (start g.S.Shelf _ c.args.shelf.now) c.in_err-memory.ensures

pub returns-in_err-pool : goal.returns-in_err-pool
returns-in_err-pool g c =
    let memory = next g.S.Shelf _ _ (start g.S.Shelf _ c.args.shelf.now) c.in_ok-memory.ensures in
    stopped g.S.Shelf _ _ _ _ _ (search rules) memory c.in_err-pool.ensures.takes

pub returns-in_err-map : goal.returns-in_err-map
returns-in_err-map g c =
    let memory = next g.S.Shelf _ _ (start g.S.Shelf _ c.args.shelf.now) c.in_ok-memory.ensures in
    let pool = next g.S.Shelf _ _ memory c.in_ok-pool.ensures.takes in
    stopped g.S.Shelf _ _ _ _ _ (search rules) pool c.in_err-map.ensures.takes

pub returns-in_err-files : goal.returns-in_err-files
returns-in_err-files g c =
    let memory = next g.S.Shelf _ _ (start g.S.Shelf _ c.args.shelf.now) c.in_ok-memory.ensures in
    let pool = next g.S.Shelf _ _ memory c.in_ok-pool.ensures.takes in
    let map = next g.S.Shelf _ _ pool c.in_ok-map.ensures.takes in
    stopped g.S.Shelf _ _ _ _ _ (search rules) map c.in_err-files.ensures.takes

pub returns : goal.returns
returns g c =
    let memory = next g.S.Shelf _ _ (start g.S.Shelf _ c.args.shelf.now) c.in_ok-memory.ensures in
    let pool = next g.S.Shelf _ _ memory c.in_ok-pool.ensures.takes in
    let map = next g.S.Shelf _ _ pool c.in_ok-map.ensures.takes in
    let files = next g.S.Shelf _ _ map c.in_ok-files.ensures.takes in
    rw c.request_with.ensures (finished g.S.Shelf files)

-- the request has the words' own parts
pub invariant_of-result-clause-mapped : goal.invariant_of-result-clause-mapped
invariant_of-result-clause-mapped g c =
    let i = inputs_value c.args.names.inputs in
    let e = c.request_with.ensures in
    request_mapped (request_of c.request_with.result) c.args.names.image i c.in_ok-map.map (ap (λ (r : Asked). r.crash) e) (ap (λ (r : Asked). r.image) e)
    (ap (λ (r : Asked). is_some r.purgatory) e ∙ is_some_map _ c.in_ok-files.files.purgatory ∙ c.in_ok-files.ensures.named ∙ sym (is_some_map string_bytes c.args.names.inputs.purgatory))
    (c.in_ok-map.ensures.named ∙ sym (is_some_map string_bytes c.args.names.inputs.map)) c.args.names.parts
