use Rattle.list_checker.proofs.Loop.{reached_first, reached_next, reached_nearer, leads_on, first_fault, all_accepted}
use Rattle.list_checker.proofs.list.check.Goals as goal
use Rattle.kx_pages.specs.Modes.{swap_page}

pub words-init : goal.words-init
words-init c = reached_first c.args.memory.now c.args.segments.now c.args.image.now c.new-earlier.result c.new-earlier.ensures

pub returns-in-Err-clause-fault : goal.returns-in-Err-clause-fault
returns-in-Err-clause-fault c =
    let x = c.words.invariant in
    first_fault c.args.memory.now c.args.segments.now c.args.image.now c.in-Err.ensures.valid c.words.words c.words.place c.words.earlier c.words.w c.in-Err.why x (c.in-Err.ensures.exact x.s x.shows)

pub returns-in-Done-clause-accepted : goal.returns-in-Done-clause-accepted
returns-in-Done-clause-accepted c =
    let x = c.words.invariant in
    let j = c.in-Ok.ensures.exact x.s x.shows in
    let done = c.in-Done.is in
    all_accepted c.args.memory.now c.args.segments.now c.args.image.now c.in-Ok.ensures.valid c.words.words c.words.place c.words.earlier c.words.w c.in-Done.field-0 c.accept.result x (rw done at j.0) (rw done at j.1)
    c.accept.ensures.words c.accept.ensures.links c.accept.ensures.pairs

pub following-next-requires : goal.following-next-requires
following-next-requires c =
    let x = c.words.invariant in
    let j = c.in-Ok.ensures.exact x.s x.shows in
    leads_on c.args.memory.now c.args.segments.now c.args.image.now c.in-Ok.ensures.valid c.words.words c.words.place c.words.earlier c.words.w c.in-Ok.item x j.1 c.in_default.not-Done

pub words-smaller : goal.words-smaller
words-smaller c =
    let x = c.words.invariant in
    let j = c.in-Ok.ensures.exact x.s x.shows in
    reached_nearer c.args.memory.now c.args.segments.now c.args.image.now c.in-Ok.ensures.valid c.words.words c.words.place c.words.earlier c.add.new.self c.words.w c.following-next.result c.in-Ok.item x j.1 c.in_default.not-Done
    (c.in_ok-add.ensures (swap_page c.args.image.now.mode) x.s) c.following-next.ensures.next

pub words-preserved : goal.words-preserved
words-preserved c =
    let x = c.words.invariant in
    let j = c.in-Ok.ensures.exact x.s x.shows in
    reached_next c.args.memory.now c.args.segments.now c.args.image.now c.in-Ok.ensures.valid c.words.words c.words.place c.words.earlier c.add.new.self c.words.w c.word-w.result c.following-next.result c.in-Ok.item x j.0 j.1 c.in_default.not-Done
    (c.in_ok-add.ensures (swap_page c.args.image.now.mode) x.s) c.following-next.ensures.next c.following-next.ensures.place c.word-w.ensures
