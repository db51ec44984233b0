use Rattle.std.proofs.Common.{arith}
use Rattle.kimage_list.proofs.open_list.OpenList.write_entry.Goals as goal
use Rattle.kimage_list.proofs.Entering.{next_held, next_low, next_aligned, entries_low}

pub write_word-requires-clause-inside : goal.write_word-requires-clause-inside
write_word-requires-clause-inside c =
    let s = c.args.self.now in
    let low = next_low c.requires.0 c.requires.1 s.memory s.pool s.table s.next s.entries c.requires.2 c.requires.3 in
    omega (arith, low)

pub write_word-requires-clause-aligned : goal.write_word-requires-clause-aligned
write_word-requires-clause-aligned c =
    let s = c.args.self.now in
    next_aligned c.requires.0 c.requires.1 s.memory s.pool s.table s.next s.entries c.requires.2 c.requires.3

pub write_word-requires-clause-held : goal.write_word-requires-clause-held
write_word-requires-clause-held c =
    let s = c.args.self.now in
    next_held c.requires.0 c.requires.1 s.memory s.pool s.table s.next s.entries c.requires.2 c.requires.3

pub overflow_add-self : goal.overflow_add-self
overflow_add-self c =
    let s = c.args.self.now in
    let low = next_low c.requires.0 c.requires.1 s.memory s.pool s.table s.next s.entries c.requires.2 c.requires.3 in
    omega (arith, low)

pub overflow_add-self-2 : goal.overflow_add-self-2
overflow_add-self-2 c =
    let s = c.args.self.now in
    let low = entries_low c.requires.0 c.requires.1 s.memory s.pool s.table s.next s.entries c.requires.2 c.requires.3 in
    omega (arith, low)
