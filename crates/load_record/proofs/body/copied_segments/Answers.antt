use Rattle.std.proofs.Common.{◌≡◌, ◌+◌, ◌-◌, ◌++◌, suc, length, arith, sym, ap, ◌∙◌, inl}
use Rattle.std.proofs.lemmas.List.{take-append-drop, length-append}
use Rattle.load_record.proofs.Digests.{made_step, none_made}
use Rattle.load_record.proofs.Walking.{onto_none, step_ok, step_fails, end_ok, end_trailing}
use Rattle.load_record.proofs.body.copied_segments.Goals as goal

pub loop-number-init : goal.loop-number-init
loop-number-init c = record {
  within = omega arith;
  same =
      rw (c.in_ok-reserve_exact.ensures.items, c.new-list.ensures.items)
      (onto_none c.args.version c.args.total c.args.first (c.args.count - c.args.first) c.args.before c.args.bytes.now);
  digests = rw (c.in_ok-reserve_exact.ensures.items, c.new-list.ensures.items, c.new-digests.ensures.items) (none_made c.args.version);
}

pub returns-in-Err-clause-exact : goal.returns-in-Err-clause-exact
returns-in-Err-clause-exact c =
    let more : c.args.count - c.loop-number.number ≡ suc (c.args.count - (c.loop-number.number + 1)) = omega arith in
    let cut = c.split_at.result.0.now ++ c.split_at.result.1.now in
    let whole : cut ≡ c.loop-number.rest.now = rw (c.split_at.ensures.front, c.split_at.ensures.back) (take-append-drop c.min.result c.loop-number.rest.now) in
    step_fails c.args.version _ _ _ c.loop-number.number c.loop-number.rest.now c.loop-number.list.items c.loop-number.wrong _ c.in-Err.fault more (rw whole at c.in-Err.ensures.exact) c.loop-number.invariant.same

pub loop-number-preserved : goal.loop-number-preserved
loop-number-preserved c =
    let more : c.args.count - c.loop-number.number ≡ suc (c.args.count - (c.loop-number.number + 1)) = omega arith in
    let cut = c.split_at.result.0.now ++ c.split_at.result.1.now in
    let whole : cut ≡ c.loop-number.rest.now = rw (c.split_at.ensures.front, c.split_at.ensures.back) (take-append-drop c.min.result c.loop-number.rest.now) in
    let inside = c.in-Ok.ensures.inside in
    let size : length c.split_at.result.0.now + length c.split_at.result.1.now ≡ length c.loop-number.rest.now = sym (length-append c.split_at.result.0.now c.split_at.result.1.now) ∙ ap length whole in
    record {
      within = omega (arith, c.loop-number.invariant.within, inside, size);
      same =
          rw (c.in_ok-push.ensures.items, c.segment.ensures, c.in_ok-copy_of.ensures, c.least_wrong-wrong.ensures, c.in-Ok.ensures.digest)
          (step_ok c.args.version _ _ _ c.loop-number.number c.loop-number.rest.now _ _ c.loop-number.list.items c.loop-number.wrong _ more (rw whole at c.in-Ok.ensures.exact) c.loop-number.invariant.same);
      digests =
          rw (c.in_ok-push.ensures.items, c.segment.ensures, c.in_ok-copy_of.ensures, c.in_ok-push_digest.ensures, c.in-Ok.ensures.made)
          (made_step c.args.version c.loop-number.list.items _ c.loop-number.digests.items c.loop-number.invariant.digests);
    }

pub returns-then-not-is_empty-clause-exact : goal.returns-then-not-is_empty-clause-exact
returns-then-not-is_empty-clause-exact c =
    let none : c.args.count - c.loop-number.number ≡ 0 = omega arith in
    inl (end_trailing c.args.version _ _ c.loop-number.number c.loop-number.rest.now c.loop-number.list.items c.loop-number.wrong _ none (sym c.is_empty.ensures ∙ c.if-not-is_empty.true) c.loop-number.invariant.same)

pub returns-clause-exact : goal.returns-clause-exact
returns-clause-exact c =
    let none : c.args.count - c.loop-number.number ≡ 0 = omega arith in
    end_ok c.args.version _ _ c.loop-number.number c.loop-number.rest.now c.loop-number.list.items c.loop-number.wrong _ none (sym c.is_empty.ensures ∙ c.if-not-is_empty.false) c.loop-number.invariant.same
