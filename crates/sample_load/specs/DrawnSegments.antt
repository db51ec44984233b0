-- The segments of a sample, each from three draws (this project's own).
use Rattle.std.specs.Prelude.{ℕ, zero, suc, ◌+◌, ◌-◌, ◌*◌, ◌/◌, ◌%◌, List, [], ◌∷◌, map}
use Rattle.std.specs.List.{range_with_len}
use Rattle.segments.specs.Values.{SegmentValue}
use Rattle.sample_load.specs.declared.drawn_segments.Shape.{Shape}
use Rattle.sample_load.specs.Draws.{next_state, draw_from}

-- the states after the first, the second and the third draw
abbrev pub second_state : ℕ → ℕ
second_state x = next_state (next_state x)

abbrev pub third_state : ℕ → ℕ
third_state x = next_state (second_state x)

-- what three draws from this state on give: first the gap, then the count of pages, then how many
-- bytes are missing
abbrev pub shape_of : ℕ → Shape
shape_of x = record {
  gap = draw_from (next_state x) % 64;
  count = 1 + draw_from (second_state x) % 512;
  short = draw_from (third_state x) % 4096;
}

-- byte j of segment i
abbrev pub byte_of : (i j : ℕ) → ℕ
byte_of i j = (31 * i + 7 * j + j / 256) % 256

-- so many bytes of segment i
abbrev pub bytes_of : (i length : ℕ) → List ℕ
bytes_of i length = map (byte_of i) (range_with_len 0 length)

-- segment i of this shape, behind the pages before `next`
abbrev pub segment_of : (i next : ℕ) → Shape → SegmentValue
segment_of i next s = record {
  bytes = bytes_of i (4096 * s.count - s.short);
  mem = 4096 * (next + s.gap);
  memsz = 4096 * s.count;
}

-- the page behind it
abbrev pub page_behind : (next : ℕ) → Shape → ℕ
page_behind next s = next + (s.gap + s.count)

-- so many segments from number i on, drawn from the state x on, behind the pages before `next`
unfoldable pub segments_from : (left i x next : ℕ) → List SegmentValue
segments_from zero i x next = []
segments_from (suc left) i x next =
    let s = shape_of x in
    segment_of i next s ∷ segments_from left (i + 1) (third_state x) (page_behind next s)
