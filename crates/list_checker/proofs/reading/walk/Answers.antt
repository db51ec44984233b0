use Rattle.std.proofs.Common.{◌≡◌, ℕ, [], None, refl, sym, subst}
use Rattle.std.specs.BTreeSet.{BTreeSet}
use Rattle.list_checker.specs.Faults.{nothing_earlier}
use Rattle.list_checker.specs.inner.Reading.{ShowsLinks}
use Rattle.list_checker.proofs.Follow.{Reached, reached_first, reached_next, reached_nearer, next_here, ends_faulty, ends_whole}
use Rattle.list_checker.proofs.reading.walk.Goals as goal

no_links : (c : BTreeSet ℕ) → c.keys ≡ [] → ShowsLinks c nothing_earlier
no_links c e = record { links = λ p. rw e refl; count = rw e refl }

pub words-init : goal.words-init
words-init c = subst (Reached c.args.memory.now c.args.head 0 None c.new-links.result c.args.head) (sym c.new-words.ensures.items)
    (reached_first c.args.memory.now c.args.head c.new-links.result (no_links c.new-links.result c.new-links.ensures.empty))

pub returns-in-Err : goal.returns-in-Err
returns-in-Err c =
    let x = c.words.invariant in
    ends_faulty c.args.memory.now c.args.head c.words.word c.words.place c.words.links c.words.w c.words.words.items c.push.new.self.items c.in-Err.why x (c.in-Err.ensures x.s x.shows) c.in_ok-push.ensures.items

pub returns-in-Done : goal.returns-in-Done
returns-in-Done c =
    let x = c.words.invariant in
    let j = c.in-Ok.ensures x.s x.shows in
    let done = c.in-Done.is in
    ends_whole c.args.memory.now c.args.head c.words.word c.words.place c.words.links c.words.w c.in-Done.field-0 c.words.words.items c.push.new.self.items x (rw done at j.0) c.in_ok-push.ensures.items

pub following-next-requires : goal.following-next-requires
following-next-requires c =
    let x = c.words.invariant in
    let j = c.in-Ok.ensures x.s x.shows in
    (next_here c.args.memory.now c.args.head c.words.word c.words.place c.words.links c.words.w c.words.words.items c.in-Ok.item x j.0 j.1 c.in_default.not-Done).leads

pub words-smaller : goal.words-smaller
words-smaller c =
    let x = c.words.invariant in
    let j = c.in-Ok.ensures x.s x.shows in
    reached_nearer c.args.memory.now c.args.head c.words.word c.words.place c.words.links c.add_link.new.links c.words.w c.following-next.result c.words.words.items c.in-Ok.item x j.0 j.1 c.in_default.not-Done
    (c.in_ok-add_link.ensures x.s) c.following-next.ensures.next

pub words-preserved : goal.words-preserved
words-preserved c =
    let x = c.words.invariant in
    let j = c.in-Ok.ensures x.s x.shows in
    reached_next c.args.memory.now c.args.head c.words.word c.words.place c.words.links c.add_link.new.links c.words.w c.word-w.result c.following-next.result c.words.words.items c.push.new.self.items c.in-Ok.item x j.0 j.1 c.in_default.not-Done
    (c.in_ok-add_link.ensures x.s) c.following-next.ensures.next c.following-next.ensures.place c.word-w.ensures c.in_ok-push.ensures.items
