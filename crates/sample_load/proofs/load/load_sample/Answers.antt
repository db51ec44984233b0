use Rattle.std.proofs.Common.{arith, ap, length}
use Rattle.kx_pages.specs.declared.image.Wish.TheVariants.{Plain}
use Rattle.segments.specs.Values.{need}
use Rattle.sample_load.proofs.Rising.{need-sample}
use Rattle.sample_load.proofs.Strides.{length-pool_pages}
use Rattle.sample_load.proofs.load.load_sample.Goals as goal

pub unreachable-requires : goal.unreachable-requires
unreachable-requires c =
    let few = rw c.in-NoPages.is at c.in-Err.ensures.why in
    omega (arith, few.0, ap length c.in_ok-pool.ensures.pages, length-pool_pages 16384, ap (λ ss. need Plain ss) c.in_ok-segments.ensures, need-sample c.args.number)
