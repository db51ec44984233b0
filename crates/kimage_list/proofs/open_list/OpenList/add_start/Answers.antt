use Rattle.std.proofs.Common.{ap, ◌∙◌, ◌+◌, [], sym}
use Rattle.page_memory.specs.Contents.{at}
use Rattle.kimage_list.proofs.open_list.OpenList.add_start.Goals as goal
use Rattle.kimage_list.proofs.Entering.{entered, steady_start, same_writes}
use Rattle.kimage_list.specs.inner.Drafts.{with_start}
use Rattle.page_memory.specs.inner.Memory.{set_word}

pub returns-clause-written : goal.returns-clause-written
returns-clause-written c = λ d e h r.
    let s = c.make_room.new.self in
    let n = c.write_entry.new.self in
    let k = c.make_room.ensures.written d e h r in
    let o = c.write_entry.ensures.others in
    let x = c.write_entry.ensures.next in (
      same_writes (with_start e c.args.p) [] n.memory s.pool n.pool s.table n.table (s.next + 8) n.next (s.entries + 1) n.entries (sym o.0) (sym o.1) (sym x.0) (sym x.1)
          (entered e [] s.memory s.pool s.table s.next s.entries k.0 k.1 c.args.p n.memory (c.write_entry.ensures.value ∙ ap (set_word (at s.memory) s.next) c.destination_word.ensures) c.write_entry.ensures.stay),
      steady_start e [] s.memory s.pool s.table s.next s.entries k.0 k.1 c.args.p,
    )
