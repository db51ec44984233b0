use Rattle.std.proofs.Common.{◌+◌, ◌<◌, ◌≤◌, length, rules, false, refl, inl, inr}
use Rattle.std.proofs.lemmas.Bool.{cases_lt, both_ways}
use Rattle.load_record.specs.File.{digest_size}
use Rattle.load_record.proofs.Tables.{segment_short, segment_cut, segment_got}
use Rattle.load_record.proofs.body.cut_segment.Goals as goal

pub returns-in-None-clause-exact : goal.returns-in-None-clause-exact
returns-in-None-clause-exact c =
    let front = 24 + digest_size c.args.version in
    let short : length c.args.own.now < front = elim (cases_lt (length c.args.own.now) front) [ inl h ↦ h | inr h ↦ absurd (both_ways false refl (c.in-None.ensures.found.1 h)) ] in
    inl (segment_short c.args.version _ c.args.own.now c.args.behind.now c.requires.apart short)

pub returns-then-head-behind-clause-exact : goal.returns-then-head-behind-clause-exact
returns-then-head-behind-clause-exact c =
    let long : 24 + digest_size c.args.version ≤ length c.args.own.now = c.in-Some.ensures.found.0 refl in
    inl (segment_cut c.args.version _ c.args.own.now c.args.behind.now c.in-Some.head c.requires.apart long c.in-Some.ensures.value (search rules))

pub returns-clause-exact : goal.returns-clause-exact
returns-clause-exact c =
    let long : 24 + digest_size c.args.version ≤ length c.args.own.now = c.in-Some.ensures.found.0 refl in
    segment_got c.args.version _ c.args.own.now c.args.behind.now _ _ c.in-Some.head c.requires.apart long c.in-Some.ensures.value (search rules) (search rules) (search rules)
