use Rattle.std.proofs.Common.{refl, ◌∙◌}
use Rattle.page_memory.specs.Contents.{at}
use Rattle.kimage_list.proofs.open_list.OpenList.take.Goals as goal
use Rattle.kimage_list.proofs.InHand.{can_move, after, took_of, exchange_of_no_pairs}

pub settle-requires : goal.settle-requires
settle-requires c =
    let w = c.args.self.now in
    let d = c.requires.0 in
    let t = c.requires.1 in
    let k = took_of d.wanted c.args.wanted d.loading t c.in-Some.taken c.take_page.new.pool w.table c.take_page.new.table (c.in-Some.ensures.gives d.wanted d.loading c.requires.2.tracks) c.requires.3.gives in
    can_move d w.memory w.pool w.table w.next w.entries c.requires.2 c.args.wanted t c.requires.3 c.in-Some.taken.moved k.exchanged

pub returns-clause-given : goal.returns-clause-given
returns-clause-given c = λ d t h can.
    let w = c.args.self.now in
    let k = took_of d.wanted c.args.wanted d.loading t c.in-Some.taken c.take_page.new.pool w.table c.take_page.new.table (c.in-Some.ensures.gives d.wanted d.loading h.tracks) can.gives in
    (k.page, after d w.memory w.pool w.table w.next w.entries h c.args.wanted t can c.in-Some.taken c.settle.new.memory c.take_page.new.pool c.take_page.new.table k c.settle.ensures.value c.settle.ensures.stay, refl, refl, refl, λ z. c.settle.ensures.value ∙ exchange_of_no_pairs (at w.memory) c.in-Some.taken.moved d.loading.pairs t.1.pairs t.0 c.in-Some.taken.page w.table k.exchanged z)
