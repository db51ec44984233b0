use Rattle.std.proofs.Common.{◌≡◌, ◌-◌, suc, ◌∷◌, take, drop, cond, ◌⊎◌, Some, None, Err, arith, sym, ap, ◌∙◌, subst}
use Rattle.std.specs.Prelude.{IfSome}
use Rattle.load_record.specs.declared.fault.RecFault.TheVariants.{Memory}
use Rattle.load_record.specs.File.{file_segment, segment_of}
use Rattle.load_record.specs.inner.File.{digests_of}
use Rattle.load_record.proofs.Digests.{made_all}
use Rattle.load_record.proofs.Walking.{first_fails, others_fail, others_read}
use Rattle.load_record.proofs.Bodies.{right_ok}
use Rattle.load_record.proofs.body.take_segments.Goals as goal

pub returns-in-Err-clause-exact : goal.returns-in-Err-clause-exact
returns-in-Err-clause-exact c =
    let more : c.args.count ≡ suc (c.args.count - 1) = omega (arith, c.requires.some) in
    first_fails c.args.version _ _ _ _ c.in-Err.fault more (rw c.deref.ensures.value at c.in-Err.ensures.exact)

pub returns-in-Err-copied_segments-clause-exact : goal.returns-in-Err-copied_segments-clause-exact
returns-in-Err-copied_segments-clause-exact c =
    let more : c.args.count ≡ suc (c.args.count - 1) = omega (arith, c.requires.some) in
    others_fail c.args.version _ _ _ 1 _ _ _ _ c.in-Err-copied_segments.fault more (rw c.deref.ensures.value at c.in-Ok.ensures.exact) c.in-Err-copied_segments.ensures.exact

pub returns-in-Ok-without_wrong-clause-exact : goal.returns-in-Ok-without_wrong-clause-exact
returns-in-Ok-without_wrong-clause-exact c =
    let more : c.args.count ≡ suc (c.args.count - 1) = omega (arith, c.requires.some) in
    let head = c.in-Ok.cut.0 in
    let others = c.in-Ok-copied_segments.read.0.items in
    let held : c.in-Ok.cut.2.now ≡ c.truncate.new.self.items =
    c.in-Ok.ensures.place ∙ ap (take head.bufsz) c.deref.ensures.value ∙ sym c.truncate.ensures.items in
    let list : c.insert.new.self.items ≡ segment_of head c.in-Ok.cut.2.now ∷ others =
    c.in_ok-insert.ensures.items ∙ ap (λ s. s ∷ others) (c.segment.ensures ∙ ap (segment_of head) (sym held)) in
    let before = c.least_wrong-before.ensures ∙ ap (λ b. cond b (Some 0) None) c.in-Ok.ensures.digest in
    let all = others_read c.args.version _ _ _ _ _ (file_segment head (drop 24 c.args.own.now) c.in-Ok.cut.2.now) others c.insert.new.self.items c.least_wrong-before.result c.in-Ok-copied_segments.read.2 more (rw c.deref.ensures.value at c.in-Ok.ensures.exact) before c.in-Ok-copied_segments.ensures.exact list in
    all ∙ c.in-Ok-without_wrong.ensures

pub returns-in-Ok-without_wrong-clause-digests : goal.returns-in-Ok-without_wrong-clause-digests
returns-in-Ok-without_wrong-clause-digests c =
    let head = c.in-Ok.cut.0 in
    let others = c.in-Ok-copied_segments.read.0.items in
    let held : c.in-Ok.cut.2.now ≡ c.truncate.new.self.items =
    c.in-Ok.ensures.place ∙ ap (take head.bufsz) c.deref.ensures.value ∙ sym c.truncate.ensures.items in
    let list : c.insert.new.self.items ≡ segment_of head c.in-Ok.cut.2.now ∷ others =
    c.in_ok-insert.ensures.items ∙ ap (λ s. s ∷ others) (c.segment.ensures ∙ ap (segment_of head) (sym held)) in
    let first = segment_of head c.in-Ok.cut.2.now in
    let made = made_all (λ v. v.items) c.args.version first others c.in-Ok.cut.1.made c.in-Ok-copied_segments.read.1.items c.in_ok-digests.digests c.in-Ok.ensures.made c.in-Ok-copied_segments.ensures.digests c.in_ok-digests.ensures in
    let kept = (right_ok c.insert.new.self.items c.in-Ok-without_wrong.list.items c.in-Ok-copied_segments.read.2 c.in-Ok-without_wrong.ensures).1 in
    subst (λ ss. IfSome c.in_ok-digests.digests (λ d. d.items ≡ digests_of ss)) (sym list ∙ kept) made

pub returns-in-Err-without_wrong-clause-exact : goal.returns-in-Err-without_wrong-clause-exact
returns-in-Err-without_wrong-clause-exact c =
    let more : c.args.count ≡ suc (c.args.count - 1) = omega (arith, c.requires.some) in
    let head = c.in-Ok.cut.0 in
    let others = c.in-Ok-copied_segments.read.0.items in
    let held : c.in-Ok.cut.2.now ≡ c.truncate.new.self.items =
    c.in-Ok.ensures.place ∙ ap (take head.bufsz) c.deref.ensures.value ∙ sym c.truncate.ensures.items in
    let list : c.insert.new.self.items ≡ segment_of head c.in-Ok.cut.2.now ∷ others =
    c.in_ok-insert.ensures.items ∙ ap (λ s. s ∷ others) (c.segment.ensures ∙ ap (segment_of head) (sym held)) in
    let before = c.least_wrong-before.ensures ∙ ap (λ b. cond b (Some 0) None) c.in-Ok.ensures.digest in
    let all = others_read c.args.version _ _ _ _ _ (file_segment head (drop 24 c.args.own.now) c.in-Ok.cut.2.now) others c.insert.new.self.items c.least_wrong-before.result c.in-Ok-copied_segments.read.2 more (rw c.deref.ensures.value at c.in-Ok.ensures.exact) before c.in-Ok-copied_segments.ensures.exact list in
    subst (λ d. (d ≡ Err c.in-Err-without_wrong.fault) ⊎ (c.in-Err-without_wrong.fault ≡ Memory)) (sym all) c.in-Err-without_wrong.ensures
