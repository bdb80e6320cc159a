-- Rows of numbers, laid end to end.
use Rattle.std.specs.Prelude.{◌≡◌, ℕ, ◌+◌, ◌-◌, ◌<◌, ◌≤◌, List, length, map, take, drop, slice_index}
use Rattle.std.specs.List.{range_with_len}

-- the numbers from place a up to place b
abbrev pub cut : List ℕ → ℕ → ℕ → List ℕ
cut items a b = take (b - a) (drop a items)

-- row after row, each from its start up to the next one's
abbrev pub rows_of : List ℕ → List ℕ → List (List ℕ)
rows_of items starts = map (λ i. cut items (slice_index starts i) (slice_index starts (i + 1))) (range_with_len 0 (length starts - 1))

-- starts of rows: they begin at 0, do not fall, and stay among the items
pub record AreStarts (items starts : List ℕ) : Type 0 where
  pub some : 0 < length starts
  pub first : slice_index starts 0 ≡ 0
  pub rising : (i : ℕ) → i + 1 < length starts → slice_index starts i ≤ slice_index starts (i + 1)
  pub within : (i : ℕ) → i < length starts → slice_index starts i ≤ length items
