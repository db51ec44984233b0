use Rattle.std.proofs.Common.{rules, ◌≡◌, [], ◌∷◌, inl, refl}
use Rattle.std.proofs.lemmas.List.{nil_from_length}
use Rattle.std.specs.Vec.Iter.{into_iter_items}
use Rattle.file_commands.specs.Answers.{PutsFile, CutsFile}
use Rattle.file_commands.specs.inner.Calls.{file_of}
use Rattle.file_commands.proofs.Puts.{after_put}
use Rattle.file_commands.proofs.goods.put_all.Goals as goal

pub returns-clause-whole : goal.returns-clause-whole
returns-clause-whole g c =
    let none : into_iter_items c.loop-file.file-iterator ≡ [] = nil_from_length c.loop-file.file-iterator.rest.items (search rules) in
    (rw none at c.loop-file.invariant.between).whole c.loop-file.shelf refl

pub returns-in-Err-clause-cut : goal.returns-in-Err-clause-cut
returns-in-Err-clause-cut g c =
    let items : into_iter_items c.loop-file.file-iterator ≡ c.in-Some.file ∷ into_iter_items c.next.new.self = search rules in
    let b = rw items at c.loop-file.invariant.between in
    let e = rw (c.deref.ensures, c.deref-in-loop-file.ensures.value) at c.in-Err.ensures in
    let torn : CutsFile g.S.Shelf c.loop-file.shelf (file_of c.in-Some.file) c.put.new.self = record { did = e.cuts; file = e.prefix; rose = e.failed } in
    b.cut _ _ (inl (refl, torn))

pub loop-file-preserved : goal.loop-file-preserved
loop-file-preserved g c =
    let items : into_iter_items c.loop-file.file-iterator ≡ c.in-Some.file ∷ into_iter_items c.next.new.self = search rules in
    let b = rw items at c.loop-file.invariant.between in
    let k = rw (c.deref.ensures, c.deref-in-loop-file.ensures.value) at c.in_default.ensures in
    let put : PutsFile g.S.Shelf c.loop-file.shelf (file_of c.in-Some.file) c.put.new.self = record { did = k.puts; file = k.files; calm = k.calm } in
    record {
      can = tt;
      finite = tt;
      between = after_put g.S.Shelf _ b put;
    }
