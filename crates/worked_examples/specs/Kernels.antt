-- The kernels of the examples, as segments (this project's own).
use Rattle.std.specs.Prelude.{ℕ, ◌*◌, ◌++◌, List, [], ◌∷◌, codes, replicate}
use Rattle.segments.specs.Values.{SegmentValue}

-- `abc` at page 2
abbrev pub three_bytes : List SegmentValue
three_bytes = record { bytes = codes "abc"; mem = 0x2000; memsz = 0x1000 } ∷ []

-- two pages from page p on, of which the first begins with `b` and the second with `c`
abbrev pub two_pages : ℕ → List SegmentValue
two_pages p =
    record { bytes = codes "b" ++ replicate 4095 0 ++ codes "c"; mem = 4096 * p; memsz = 0x2000 }
    ∷ []

-- a segment without memory at page 2
abbrev pub no_bytes : List SegmentValue
no_bytes = record { bytes = []; mem = 0x2000; memsz = 0 } ∷ []

-- n pages of zeros from page 2 on
abbrev pub zeros : ℕ → List SegmentValue
zeros n = record { bytes = []; mem = 0x2000; memsz = 4096 * n } ∷ []

-- a segment of n pages from page p on
abbrev pub pages_at : ℕ → ℕ → SegmentValue
pages_at p n = record { bytes = []; mem = 4096 * p; memsz = 4096 * n }
