use Rattle.std.proofs.Common.{ℕ, length, subst, arith, take, ◌++◌}
use Rattle.std.specs.Prelude.{◌⊎◌, ◌↔◌}
use Rattle.kx_pages.specs.Lists.{Has}
use Rattle.page_memory.specs.Contents.{at}
use Rattle.page_memory.specs.inner.Contents.{IsHeld}
use Rattle.page_pool.specs.Pages.{usable_of}
use Rattle.kimage_list.specs.inner.Calls.{Refuses}
use Rattle.segments.proofs.Laws.{AreSegments-from_IsBare}
use Rattle.load_states.proofs.FillSteps.{filling_begun, span_pages, need_same}
use Rattle.kx_pages.proofs.Counting.{count-append, count-from_Distinct}
use Rattle.load_states.proofs.Exact.{loads_exactly}
use Rattle.load_states.proofs.filling.Filling.begin.Goals as goal

pub begin-begun-requires-clause-some : goal.begin-begun-requires-clause-some
begin-begun-requires-clause-some c = let k = AreSegments-from_IsBare c.args.segments c.count-count.ensures.valid in omega (arith, k.some, c.count-count.ensures.value)

pub begin-begun-requires-clause-segments : goal.begin-begun-requires-clause-segments
begin-begun-requires-clause-segments c = let k = AreSegments-from_IsBare c.args.segments c.count-count.ensures.valid in omega (arith, k.few, c.count-count.ensures.value)

pub begin-begun-requires-clause-pages : goal.begin-begun-requires-clause-pages
begin-begun-requires-clause-pages c =
    let k = AreSegments-from_IsBare c.args.segments c.count-count.ensures.valid in
    omega (arith, k.small, span_pages c.args.segments c.pages_of.result.now k c.pages_of.ensures.apart c.pages_of.ensures.pages)

pub returns-in-Ok-clause-begun : goal.returns-in-Ok-clause-begun
returns-in-Ok-clause-begun c =
    let k = AreSegments-from_IsBare c.args.segments c.count-count.ensures.valid in
    filling_begun c.args.memory (usable_of c.args.pool) c.pages_of.result.now c.args.wish c.args.segments c.count-count.result c.in-Ok.writer k c.count-count.ensures.value c.pages_of.ensures.pages c.in-Ok.ensures.begun

pub invariant_of-result : goal.invariant_of-result
invariant_of-result c =
    let k = AreSegments-from_IsBare c.args.segments c.count-count.ensures.valid in
    (at c.args.memory, usable_of c.args.pool, c.args.wish, filling_begun c.args.memory (usable_of c.args.pool) c.pages_of.result.now c.args.wish c.args.segments c.count-count.result c.in-Ok.writer k c.count-count.ensures.value c.pages_of.ensures.pages c.in-Ok.ensures.begun)

pub returns-in-Ok-clause-enough : goal.returns-in-Ok-clause-enough
returns-in-Ok-clause-enough c =
    let k = AreSegments-from_IsBare c.args.segments c.count-count.ensures.valid in
    let e = need_same c.args.wish c.args.segments c.count-count.result _ c.count-count.ensures.value (span_pages c.args.segments c.pages_of.result.now k c.pages_of.ensures.apart c.pages_of.ensures.pages) in
    rw (← e) c.in-Ok.ensures.enough

pub returns-in-Err-clause-why : goal.returns-in-Err-clause-why
returns-in-Err-clause-why c =
    let k = AreSegments-from_IsBare c.args.segments c.count-count.ensures.valid in
    let e = need_same c.args.wish c.args.segments c.count-count.result _ c.count-count.ensures.value (span_pages c.args.segments c.pages_of.result.now k c.pages_of.ensures.apart c.pages_of.ensures.pages) in
    subst (Refuses c.in-Err.refused.why (length (usable_of c.args.pool))) e c.in-Err.ensures.why

pub returns-in-Ok-clause-exactly : goal.returns-in-Ok-clause-exactly
returns-in-Ok-clause-exactly c =
    loads_exactly c.args.wish c.args.segments (usable_of c.args.pool) (AreSegments-from_IsBare c.args.segments c.count-count.ensures.valid)
    (λ x. omega (arith, count-from_Distinct x (c.args.pool.drawn ++ usable_of c.args.pool) c.left-left.ensures.once, count-append x c.args.pool.drawn (usable_of c.args.pool)))

pub returns-in-Err-clause-exactly : goal.returns-in-Err-clause-exactly
returns-in-Err-clause-exactly c =
    loads_exactly c.args.wish c.args.segments (usable_of c.args.pool) (AreSegments-from_IsBare c.args.segments c.count-count.ensures.valid)
    (λ x. omega (arith, count-from_Distinct x (c.args.pool.drawn ++ usable_of c.args.pool) c.left-left.ensures.once, count-append x c.args.pool.drawn (usable_of c.args.pool)))

pub returns-in-Ok-clause-held : goal.returns-in-Ok-clause-held
returns-in-Ok-clause-held c =
    let k = AreSegments-from_IsBare c.args.segments c.count-count.ensures.valid in
    let e = need_same c.args.wish c.args.segments c.count-count.result _ c.count-count.ensures.value (span_pages c.args.segments c.pages_of.result.now k c.pages_of.ensures.apart c.pages_of.ensures.pages) in
    subst (λ n. (q : ℕ) → IsHeld c.in-Ok.writer.memory q ↔ (IsHeld c.args.memory q ⊎ Has q (take n (usable_of c.args.pool)))) e c.in-Ok.ensures.held

pub returns-in-Err-clause-held_only : goal.returns-in-Err-clause-held_only
returns-in-Err-clause-held_only c =
    let k = AreSegments-from_IsBare c.args.segments c.count-count.ensures.valid in
    let e = need_same c.args.wish c.args.segments c.count-count.result _ c.count-count.ensures.value (span_pages c.args.segments c.pages_of.result.now k c.pages_of.ensures.apart c.pages_of.ensures.pages) in
    subst (λ n. (q : ℕ) → IsHeld c.in-Err.refused.memory q → IsHeld c.args.memory q ⊎ Has q (take n (usable_of c.args.pool))) e c.in-Err.ensures.held_only
