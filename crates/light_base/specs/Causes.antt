-- Counts of calls and of faults, which stand still at the end of their type.
use Rattle.std.specs.Prelude.{◌≡◌, ℕ, ◌+◌, ◌-◌, ◌^◌, ◌≤◌, min}

-- the next value of a count
abbrev pub next : ℕ → ℕ
next n = min (n + 1) (2 ^ 64 - 1)

-- a count rose by one: it has its next value now, which is no less
abbrev pub Rose : ℕ → ℕ → Type 0
Rose before now = (before ≤ now) × (now ≡ next before)
