-- Draws: numbers that follow from a first one.
use Rattle.std.specs.Prelude.{ℕ, zero, suc, ◌+◌, ◌*◌, ◌/◌, ◌%◌, ◌^◌}

-- a state of the generator, and the state after it
abbrev pub next_state : ℕ → ℕ
next_state x = (1664525 * x + 1013904223) % 2 ^ 32

-- the state after so many draws, from this one on
unfoldable pub state_after : ℕ → ℕ → ℕ
state_after x zero = x
state_after x (suc n) = next_state (state_after x n)

-- what the upper half of a state's 32 bits is worth
abbrev pub half : ℕ
half = 65536

-- the number that the draw with this number gives, the first from this state on having number 1: the upper half of the
-- state that it leads to
abbrev pub drawn : ℕ → ℕ → ℕ
drawn x n = state_after x n / half
