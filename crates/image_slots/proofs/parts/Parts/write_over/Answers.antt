use Rattle.std.proofs.Common.{◌∙◌, ℕ, ap, arith, drop, length, inl, inr, refl}
use Rattle.segments.specs.Values.{need}
use Rattle.image_slots.specs.States.{Normal}
use Rattle.image_slots.proofs.Moves.{back_unloaded, first_distinct, first_length, wrote_normal}
use Rattle.image_slots.proofs.parts.Parts.write_over.Goals as goal

pub write_normal-requires-clause-once : goal.write_normal-requires-clause-once
write_normal-requires-clause-once c = first_distinct (need c.args.wish c.args.segments) c.args.self.now.left c.args.pages c.requires.first c.requires.once

pub write_normal-requires-clause-few : goal.write_normal-requires-clause-few
write_normal-requires-clause-few c = omega (arith, first_length (need c.args.wish c.args.segments) c.args.self.now.left c.args.pages c.requires.first c.requires.enough, c.requires.enough, c.requires.few)

pub returns-in-Ok : goal.returns-in-Ok
returns-in-Ok c =
    let p = c.args.self.now in
    let pages = c.in-Ok.ensures.written.image in
    let drawn = rw c.set_memory.ensures at c.draw.ensures in
    let size = first_length (need c.args.wish c.args.segments) p.left c.args.pages c.requires.first c.requires.enough in
    record {
      exact = inl (rw (c.set_load.ensures, c.set_memory.ensures) (wrote_normal p c.replace-memory.result c.in-Ok.wrote.memory c.args.caller c.args.wish c.args.segments c.args.pages c.draw.new.self c.in-Ok.wrote.image c.replace-memory.ensures.value c.requires.first
          (drawn ∙ ap (λ (n : ℕ). drop n p.left) (c.count.ensures ∙ ap (λ (n : Normal). count_of n) pages ∙ size)) c.in-Ok.ensures.written));
    }
  where
    count_of : Normal → ℕ
    count_of n = length n.pages

pub returns-in-Err : goal.returns-in-Err
returns-in-Err c =
    record { exact = inr (refl, rw c.set_memory-in-Err.ensures (back_unloaded c.args.self.now c.replace-memory.result c.in-Err.memory c.replace-memory.ensures.value c.requires.none c.in-Err.ensures.memory_back)) }
