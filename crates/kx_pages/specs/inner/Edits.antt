-- What adding and cutting make of a list of spans (this project's own).
-- No clause of `kexec` reaches what stands here: it serves laws, and contracts inside the crates.
use Rattle.std.specs.Prelude.{ℕ, ◌-◌, Bool, if◌then◌else◌, nat_lt, List, [], ◌∷◌, ◌++◌, min, max, Option, Some, None}
use Rattle.std.specs.List.{find}
use Rattle.kx_pages.specs.Spans.{Run, end}

-- one span over both
abbrev pub hull : Run → Run → Run
hull a b = record { first = min a.first b.first; count = max (end a) (end b) - min a.first b.first }

-- s put among the spans: those that it meets or touches become one with it
unfoldable pub join : List Run → Run → List Run
join [] s = s ∷ []
join (r ∷ rs) s =
    if nat_lt (end r) s.first then r ∷ join rs s
    else (if nat_lt (end s) r.first then s ∷ r ∷ rs else join rs (hull r s))

-- the spans xs with what is still to be put among them
abbrev pub with_rest : Option Run → List Run → List Run
with_rest None xs = xs
with_rest (Some r) xs = join xs r

-- the pages of r before s
abbrev pub before : Run → Run → Run
before r s = record { first = r.first; count = min (end r) s.first - r.first }

-- the pages of r behind s
abbrev pub behind : Run → Run → Run
behind r s = record { first = max r.first (end s); count = end r - max r.first (end s) }

-- a span, if it has pages
abbrev pub if_some : Run → List Run
if_some r = if nat_lt 0 r.count then r ∷ [] else []

-- the pages of the spans that are not s's
unfoldable pub without : List Run → Run → List Run
without [] s = []
without (r ∷ rs) s = if_some (before r s) ++ if_some (behind r s) ++ without rs s

-- some page is both in r and in s
abbrev pub spans_meet : Run → Run → Bool
spans_meet r s = nat_lt (max r.first s.first) (min (end r) (end s))

-- the first span that ends behind page q
abbrev pub reaching : List Run → ℕ → Option Run
reaching rs q = find (λ r. nat_lt q (end r)) rs
