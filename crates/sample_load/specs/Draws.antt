-- Draws: a linear congruential generator of 64 bits, with the multiplier and the increment of Knuth's
-- MMIX, of whose state each draw gives the upper 31 bits. That samples are drawn so is this project's
-- own.
use Rattle.std.specs.Prelude.{ℕ, ◌+◌, ◌*◌, ◌/◌, ◌%◌, ◌^◌}

-- the state after a draw
abbrev pub next_state : ℕ → ℕ
next_state x = (x * 6364136223846793005 + 1442695040888963407) % 2 ^ 64

-- what the draw gives that leaves this state
abbrev pub draw_from : ℕ → ℕ
draw_from x = x / 2 ^ 33
