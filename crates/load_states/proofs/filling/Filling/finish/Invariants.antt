use Rattle.std.proofs.Common.{◌≡◌, ℕ, List}
use Rattle.kx_pages.specs.declared.image.Wish.{Wish}
use Rattle.kx_pages.specs.Bytes.{Mem}
use Rattle.kimage_list.specs.inner.Held.{HoldSame}
use Rattle.kimage_list.specs.Tracking.{whole_pool}
use Rattle.load_states.specs.inner.Fillings.{FillsFrom, left}
use Rattle.load_states.proofs.filling.Filling.finish.Given as goal

abbrev pub invariant-loop-self : goal.invariant-loop-self
invariant-loop-self l = record {
  fills : (M : Mem) (pool : List ℕ) (wish : Wish) → FillsFrom M pool wish l.fn.self → FillsFrom M pool wish l.self;
  segments : l.self.segments ≡ l.fn.self.segments;
  pages : whole_pool l.self.writer.pool ≡ whole_pool l.fn.self.writer.pool;
  held : HoldSame l.self.writer.memory l.fn.self.writer.memory;
}

abbrev pub decreases-loop-self : goal.decreases-loop-self
decreases-loop-self l = left l.self
