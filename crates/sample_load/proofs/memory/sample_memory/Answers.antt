use Rattle.std.proofs.Common.{◌≡◌, arith, subst}
use Rattle.page_memory.specs.Contents.{at}
use Rattle.page_memory.specs.Memory.{Agree}
use Rattle.sample_load.specs.Samples.{filled_before}
use Rattle.sample_load.proofs.Filled.{fill_more, filled_none}
use Rattle.sample_load.proofs.memory.sample_memory.Goals as goal
use Rattle.kx_pages.proofs.Bytes.{same_memory}

pub loop-number-init : goal.loop-number-init
loop-number-init c = record {
  held = c.in_ok-memory.ensures.held;
  filled = filled_none (at c.in_ok-memory.memory) c.in_ok-memory.ensures.zeros;
}

pub loop-number-preserved : goal.loop-number-preserved
loop-number-preserved c = record {
  held = λ q low high. c.fill_page.ensures.stay q (c.loop-number.invariant.held q low high);
  filled = fill_more (at c.loop-number.memory) (at c.fill_page.new.memory) c.loop-number.number (omega arith) c.loop-number.invariant.filled c.fill_page.ensures.value;
}

pub returns : goal.returns
returns c =
    let end : c.loop-number.number ≡ 20480 = omega arith in
    same_memory (at c.loop-number.memory) (filled_before 20480) (subst (λ n. Agree (at c.loop-number.memory) (filled_before n)) end c.loop-number.invariant.filled)
