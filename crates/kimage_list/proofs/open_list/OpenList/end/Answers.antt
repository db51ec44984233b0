use Rattle.std.proofs.Common.{arith}
use Rattle.kimage_list.proofs.open_list.OpenList.end.Goals as goal
use Rattle.kimage_list.proofs.Finishing.{end_held, end_low, end_aligned, finished}

pub write_word-requires-clause-inside : goal.write_word-requires-clause-inside
write_word-requires-clause-inside c =
    let s = c.args.self in
    let low = end_low c.requires.0 s.memory s.pool s.table s.next s.entries c.requires.1 c.requires.2 in
    omega (arith, low)

pub write_word-requires-clause-aligned : goal.write_word-requires-clause-aligned
write_word-requires-clause-aligned c =
    let s = c.args.self in
    end_aligned c.requires.0 s.memory s.pool s.table s.next s.entries c.requires.1 c.requires.2

pub write_word-requires-clause-held : goal.write_word-requires-clause-held
write_word-requires-clause-held c =
    let s = c.args.self in
    end_held c.requires.0 s.memory s.pool s.table s.next s.entries c.requires.1 c.requires.2

pub returns-clause-memory : goal.returns-clause-memory
returns-clause-memory c = λ d w h.
    let s = c.args.self in
    finished d s.memory s.pool s.table s.next s.entries w h c.write_word.new.memory c.write_word.ensures.value
