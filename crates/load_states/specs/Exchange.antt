-- What a run with context preserved does to memory: each pair's two pages exchange their bytes (as the kernel's
-- relocate_kernel does; the words are this project's own).
use Rattle.std.specs.Prelude.{ℕ, List, [], ◌∷◌, if◌then◌else◌, ◌==◌}
use Rattle.kx_pages.specs.Bytes.{Mem}

-- the page whose bytes page p gets: the other page of its pair of destination and source, or itself
abbrev pub partner : List (ℕ × ℕ) → ℕ → ℕ
partner [] p = p
partner (q ∷ qs) p = if q.0 == p then q.1 else if q.1 == p then q.0 else partner qs p

-- the source of the last pair, whose bytes the swap page keeps; the swap page itself where there is no pair
abbrev pub last_source : List (ℕ × ℕ) → ℕ → ℕ
last_source [] swap = swap
last_source (q ∷ qs) swap = last_source qs q.1

-- the exchange, for pairs that share no page and a swap page in none of them: each destination has what its source had,
-- each source what its destination had, the swap page what the last pair's source had, and every other page what it had
abbrev pub exchange : Mem → List (ℕ × ℕ) → ℕ → Mem
exchange M qs swap p = M (if p == swap then last_source qs swap else partner qs p)
