use Rattle.std.proofs.Common.{◌≡◌, ◌+◌, ◌≤◌, ◌++◌, ◌⊎◌, min, length, drop, sym, ap, ◌∙◌, subst, Ok, Err, arith}
use Rattle.std.proofs.lemmas.List.{length-append, length-drop}
use Rattle.load_record.specs.declared.fault.RecFault.TheVariants.{Memory}
use Rattle.load_record.specs.declared.version.Version.{Version}
use Rattle.load_record.specs.declared.version.Version.TheVariants.{First, Second}
use Rattle.load_record.specs.File.{digest_size, tested_head}
use Rattle.load_record.proofs.Heads.{good_head, head_found}
use Rattle.load_record.proofs.InTwo.{head_in_two, version_in_two, behind_in_two, cut_in_two}
use Rattle.load_record.proofs.Reading.{head_fails, segments_fail, reading_ruled}
use Rattle.load_record.proofs.Laws.{reading_found}
use Rattle.load_record.proofs.load.record_in_two.Goals as goal

pub returns-in-Err-clause-exact : goal.returns-in-Err-clause-exact
returns-in-Err-clause-exact c =
    head_fails (c.args.front.now ++ c.args.rest.items) c.in-Err.fault (c.in-Err.ensures.value ∙ head_in_two c.args.front.now c.args.rest.items c.requires.apart)

pub split_at-requires : goal.split_at-requires
split_at-requires c = (head_found c.args.front.now c.in-Ok.head (sym c.in-Ok.ensures.value)).long

pub take_segments-requires-clause-some : goal.take_segments-requires-clause-some
take_segments-requires-clause-some c = (good_head c.in-Ok.head (head_found c.args.front.now c.in-Ok.head (sym c.in-Ok.ensures.value)).good).some

pub take_segments-requires-clause-few : goal.take_segments-requires-clause-few
take_segments-requires-clause-few c = (good_head c.in-Ok.head (head_found c.args.front.now c.in-Ok.head (sym c.in-Ok.ensures.value)).good).few

pub take_segments-requires-clause-apart : goal.take_segments-requires-clause-apart
take_segments-requires-clause-apart c =
    let long = (head_found c.args.front.now c.in-Ok.head (sym c.in-Ok.ensures.value)).long in
    let body = drop 96 c.args.front.now in
    let front_is : c.split_at.result.1.now ≡ body = c.split_at.ensures.back in
    let least : c.min.result ≡ min (length body) (24 + digest_size c.of-version.result) = rw front_is at (c.min.ensures ∙ ap (min (length c.split_at.result.1.now)) c.front_size.ensures) in
    rw c.in_ok-behind.ensures
    (cut_in_two (24 + digest_size c.of-version.result) c.args.front.now c.args.rest.items _ _ c.min.result c.requires.apart long (within c.of-version.result) least (rw front_is at c.split_at-2.ensures.front) (rw front_is at c.split_at-2.ensures.back))
  where
    within : (v : Version) → 24 + digest_size v ≤ 56
    within First = omega arith
    within Second = omega arith

pub take_segments-requires-clause-last : goal.take_segments-requires-clause-last
take_segments-requires-clause-last c =
    let long = (head_found c.args.front.now c.in-Ok.head (sym c.in-Ok.ensures.value)).long in
    let front_is = c.split_at.ensures.back in
    let body = behind_in_two c.args.front.now c.args.rest.items c.split_at-2.result.0.now c.split_at-2.result.1.now c.min.result long (rw front_is at c.split_at-2.ensures.front) (rw front_is at c.split_at-2.ensures.back) in
    let all : length (c.split_at-2.result.0.now ++ c.in_ok-behind.behind.items) ≡ length (drop 96 (c.args.front.now ++ c.args.rest.items)) = ap (λ l. length (c.split_at-2.result.0.now ++ l)) c.in_ok-behind.ensures ∙ ap length body in
    let total : c.total_of-total.result ≡ length (c.args.front.now ++ c.args.rest.items) = rw c.deref.ensures.value at c.total_of-total.ensures.value in
    omega (arith, all, total, length-append c.split_at-2.result.0.now c.in_ok-behind.behind.items, length-drop 96 (c.args.front.now ++ c.args.rest.items))

pub returns-in-Err-take_segments-clause-exact : goal.returns-in-Err-take_segments-clause-exact
returns-in-Err-take_segments-clause-exact c =
    let file = c.args.front.now ++ c.args.rest.items in
    let long = (head_found c.args.front.now c.in-Ok.head (sym c.in-Ok.ensures.value)).long in
    let head : Ok c.in-Ok.head ≡ tested_head file = c.in-Ok.ensures.value ∙ head_in_two c.args.front.now c.args.rest.items c.requires.apart in
    let version = c.of-version.ensures ∙ version_in_two c.args.front.now c.args.rest.items long in
    let front_is = c.split_at.ensures.back in
    let body = behind_in_two c.args.front.now c.args.rest.items c.split_at-2.result.0.now c.split_at-2.result.1.now c.min.result long (rw front_is at c.split_at-2.ensures.front) (rw front_is at c.split_at-2.ensures.back) in
    segments_fail file c.in-Ok.head c.in-Err-take_segments.fault head (rw (version, c.in_ok-behind.ensures, body, c.total_of-total.ensures.value, c.deref.ensures.value) at c.in-Err-take_segments.ensures.exact)

pub record_with-requires : goal.record_with-requires
record_with-requires c = (head_found c.args.front.now c.in-Ok.head (sym c.in-Ok.ensures.value)).good

pub returns-in-Ok-record_with-clause-exact : goal.returns-in-Ok-record_with-clause-exact
returns-in-Ok-record_with-clause-exact c =
    let file = c.args.front.now ++ c.args.rest.items in
    let long = (head_found c.args.front.now c.in-Ok.head (sym c.in-Ok.ensures.value)).long in
    let head : Ok c.in-Ok.head ≡ tested_head file = c.in-Ok.ensures.value ∙ head_in_two c.args.front.now c.args.rest.items c.requires.apart in
    let version = c.of-version.ensures ∙ version_in_two c.args.front.now c.args.rest.items long in
    let front_is = c.split_at.ensures.back in
    let body = behind_in_two c.args.front.now c.args.rest.items c.split_at-2.result.0.now c.split_at-2.result.1.now c.min.result long (rw front_is at c.split_at-2.ensures.front) (rw front_is at c.split_at-2.ensures.back) in
    reading_ruled file c.in-Ok.head c.in-Ok-take_segments.taken.0.items head (rw (version, c.in_ok-behind.ensures, body, c.total_of-total.ensures.value, c.deref.ensures.value) at c.in-Ok-take_segments.ensures.exact) ∙ c.in-Ok-record_with.ensures.exact

pub returns-in-Ok-record_with-clause-found : goal.returns-in-Ok-record_with-clause-found
returns-in-Ok-record_with-clause-found c = (reading_found (c.args.front.now ++ c.args.rest.items) c.in-Ok-record_with.record (rw c.deref.ensures.value at c.total_of-total.ensures.bytes) (returns-in-Ok-record_with-clause-exact c)).0

pub returns-in-Ok-record_with-clause-writable : goal.returns-in-Ok-record_with-clause-writable
returns-in-Ok-record_with-clause-writable c = (reading_found (c.args.front.now ++ c.args.rest.items) c.in-Ok-record_with.record (rw c.deref.ensures.value at c.total_of-total.ensures.bytes) (returns-in-Ok-record_with-clause-exact c)).1

pub returns-in-Ok-record_with-clause-digests : goal.returns-in-Ok-record_with-clause-digests
returns-in-Ok-record_with-clause-digests c = rw c.in-Ok-record_with.ensures.segments c.in-Ok-take_segments.ensures.digests

pub returns-in-Err-record_with-clause-exact : goal.returns-in-Err-record_with-clause-exact
returns-in-Err-record_with-clause-exact c =
    let file = c.args.front.now ++ c.args.rest.items in
    let long = (head_found c.args.front.now c.in-Ok.head (sym c.in-Ok.ensures.value)).long in
    let head : Ok c.in-Ok.head ≡ tested_head file = c.in-Ok.ensures.value ∙ head_in_two c.args.front.now c.args.rest.items c.requires.apart in
    let version = c.of-version.ensures ∙ version_in_two c.args.front.now c.args.rest.items long in
    let front_is = c.split_at.ensures.back in
    let body = behind_in_two c.args.front.now c.args.rest.items c.split_at-2.result.0.now c.split_at-2.result.1.now c.min.result long (rw front_is at c.split_at-2.ensures.front) (rw front_is at c.split_at-2.ensures.back) in
    subst (λ d. (d ≡ Err c.in-Err-record_with.fault) ⊎ (c.in-Err-record_with.fault ≡ Memory)) (sym (reading_ruled file c.in-Ok.head c.in-Ok-take_segments.taken.0.items head (rw (version, c.in_ok-behind.ensures, body, c.total_of-total.ensures.value, c.deref.ensures.value) at c.in-Ok-take_segments.ensures.exact))) c.in-Err-record_with.ensures.exact
