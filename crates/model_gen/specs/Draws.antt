-- The numbers that are drawn, by a linear congruential generator. Own to this project.
use Rattle.std.specs.Prelude.{ℕ, zero, suc, ◌+◌, ◌*◌, ◌/◌, ◌%◌, ◌^◌}

-- the state after one more draw
abbrev pub next_state : ℕ → ℕ
next_state state = (1664525 * state + 1013904223) % 2 ^ 32

-- the state after so many draws; it starts as the seed
abbrev pub state_after : ℕ → ℕ → ℕ
state_after seed zero = seed
state_after seed (suc count) = next_state (state_after seed count)

-- what is drawn at a state that was just made: a number below the bound
abbrev pub drawn_at : ℕ → ℕ → ℕ
drawn_at state bound = state / 256 % bound

-- the draw with this number, counted from 0
abbrev pub drawn : ℕ → ℕ → ℕ → ℕ
drawn seed number bound = drawn_at (next_state (state_after seed number)) bound
