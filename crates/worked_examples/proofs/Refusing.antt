-- A list with a fault is not accepted.
use Rattle.std.proofs.Common.{ℕ, List, Option, refl}
use Rattle.kx_pages.specs.Bytes.{Mem}
use Rattle.segments.specs.Values.{SegmentValue, want, pages}
use Rattle.segments.specs.Rules.{bare_refusal, shape_refusal}
use Rattle.list_checker.specs.inner.Laws.{ListsWanted}
use Rattle.list_checker.specs.declared.fault.Why.{Why}
use Rattle.list_checker.proofs.Ending.{check_ends}
use Rattle.list_checker.proofs.Wanted.{parts_listed}
use Rattle.worked_examples.specs.Kernels.{three_bytes, two_pages, no_bytes}
use Rattle.worked_examples.specs.Lists.{FirstFault, NoneAccepted}

pub three_bytes-listed : ListsWanted (want three_bytes) (pages three_bytes)
unfolding bare_refusal shape_refusal
three_bytes-listed = parts_listed three_bytes refl

pub two_pages-listed : ListsWanted (want (two_pages 2)) (pages (two_pages 2))
unfolding bare_refusal shape_refusal
two_pages-listed = parts_listed (two_pages 2) refl

pub two_more_pages-listed : ListsWanted (want (two_pages 3)) (pages (two_pages 3))
unfolding bare_refusal shape_refusal
two_more_pages-listed = parts_listed (two_pages 3) refl

pub no_bytes-listed : ListsWanted (want no_bytes) (pages no_bytes)
unfolding bare_refusal shape_refusal
no_bytes-listed = parts_listed no_bytes refl

pub fault_refuses_all : (M : Mem) (ss : List SegmentValue) (head control : ℕ) (swap : Option ℕ) (n : ℕ) (why : Why) → ListsWanted (want ss) (pages ss) → FirstFault M ss head control swap n why → NoneAccepted M ss head control swap
fault_refuses_all M ss head control swap n why listed fault = ((check_ends M (want ss) (pages ss) head control swap listed).1 n why fault).0
