use Rattle.std.proofs.Common.{rules, arith, ◌≡◌, ◌∙◌, ◌∷◌, [], length, map, string_bytes, Err, ap}
use Rattle.std.proofs.lemmas.List.{map-append, nil_from_length}
use Rattle.std.specs.Vec.Iter.{into_iter_items}
use Rattle.file_commands.specs.inner.Calls.{file_of}
use Rattle.file_commands.specs.declared.stop.TakeFault.TheVariants.{Memory}
use Rattle.file_commands.proofs.Steps.{next, stopped, wanting, finished}
use Rattle.file_commands.proofs.take.take_all.Goals as goal

pub loop-name-preserved : goal.loop-name-preserved
loop-name-preserved g c =
    let items : into_iter_items c.loop-name.name-iterator ≡ c.in-Some.name ∷ into_iter_items c.next.new.self = search rules in
    let l = rw items at c.loop-name.invariant.rest in
    let len : c.len-left.result ≡ length c.in_ok-file.file.bytes.items = search rules in
    let named = ap string_bytes c.in_ok-file.ensures.named in
    let pushed = ap (map file_of) c.in_ok-push.ensures.items ∙ map-append file_of c.loop-name.files.items (c.in_ok-file.file ∷ []) in
    record {
      can = tt;
      finite = tt;
      small = omega arith;
      rest = rw (len, pushed, named) (next g.S.Shelf _ _ l c.in_ok-file.ensures.takes);
    }

pub returns-in_err-file-clause-takes : goal.returns-in_err-file-clause-takes
returns-in_err-file-clause-takes g c =
    let items : into_iter_items c.loop-name.name-iterator ≡ c.in-Some.name ∷ into_iter_items c.next.new.self = search rules in
    let l = rw items at c.loop-name.invariant.rest in
    let e : c.from_residual.result ≡ Err c.in_err-file.field-0.0 = search rules in
    stopped g.S.Shelf _ _ _ _ _ e l c.in_err-file.ensures.takes

pub returns-in_err-push-clause-takes : goal.returns-in_err-push-clause-takes
returns-in_err-push-clause-takes g c =
    let items : into_iter_items c.loop-name.name-iterator ≡ c.in-Some.name ∷ into_iter_items c.next.new.self = search rules in
    let l = rw items at c.loop-name.invariant.rest in
    let e : c.from_residual-in_err-push.result ≡ Err Memory = search rules in
    wanting g.S.Shelf _ _ e (next g.S.Shelf _ _ l c.in_ok-file.ensures.takes)

pub returns-clause-takes : goal.returns-clause-takes
returns-clause-takes g c =
    let none : into_iter_items c.loop-name.name-iterator ≡ [] = nil_from_length c.loop-name.name-iterator.rest.items (search rules) in
    finished g.S.Shelf (rw none at c.loop-name.invariant.rest)
