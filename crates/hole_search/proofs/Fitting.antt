-- What fits, and what lies in one span of RAM.
use Rattle.std.proofs.Common.{◌≡◌, ℕ, ◌+◌, ◌*◌, ◌<◌, ◌≤◌, Bool, true, List, Option, Some, None, sym, ◌∙◌, arith}
use Rattle.kx_pages.specs.Spans.{Run, end, in_spans}
use Rattle.kx_pages.specs.inner.Spans.{IsMaximal}
use Rattle.hole_search.specs.declared.search.End.{End}
use Rattle.hole_search.specs.declared.search.Wanted.{Wanted}
use Rattle.hole_search.specs.inner.Holes.{EachPage, Fits, IsHole}
use Rattle.hole_search.specs.inner.Walk.{IsClear}
use Rattle.kx_pages.proofs.Spans.{inside}

-- what fits is clear
pub clear_of : (ram taken : ℕ → Bool) (w : Wanted) (x : ℕ) → Fits ram taken w x → IsClear taken w x
clear_of ram taken w x f = record { aligned = f.aligned; clear = f.not_taken }

-- what lies in one span of RAM has all its pages in RAM
pub in_room : (rs : List Run) (r : Run) (a size : ℕ) → 0 < size → IsMaximal rs r → 4096 * r.first ≤ a → a + size ≤ 4096 * end r → EachPage (λ q. in_spans rs q ≡ true) a size
in_room rs r a size s m h k = λ q x y. m.inside q (inside r q (omega arith) (omega arith))

-- ---- sets of the same pages
fits_there : (w : Wanted) (ram taken others gone : ℕ → Bool) → ((q : ℕ) → ram q ≡ others q) → ((q : ℕ) → taken q ≡ gone q) → (a : ℕ) → Fits ram taken w a → Fits others gone w a
fits_there w ram taken others gone r t a f = record {
  aligned = f.aligned;
  above = f.above;
  below = f.below;
  in_ram = λ q h k. sym (r q) ∙ f.in_ram q h k;
  not_taken = λ q h k. sym (t q) ∙ f.not_taken q h k;
}

pub same_hole : (end : End) (w : Wanted) (ram taken others gone : ℕ → Bool) (found : Option ℕ) → ((q : ℕ) → ram q ≡ others q) → ((q : ℕ) → taken q ≡ gone q) → IsHole end ram taken w found → IsHole end others gone w found
same_hole end w ram taken others gone (Some a) r t h =
    (fits_there w ram taken others gone r t a h.0, λ x f. h.1 x (fits_there w others gone ram taken (λ q. sym (r q)) (λ q. sym (t q)) x f))
same_hole end w ram taken others gone None r t h = λ x f.
    h x (fits_there w others gone ram taken (λ q. sym (r q)) (λ q. sym (t q)) x f)
