-- Bounds of numbers that stand in rows, each of the same width.
use Rattle.std.specs.Prelude.{◌≡◌, ℕ, ◌+◌, ◌-◌, ◌*◌, ◌<◌, ◌≤◌, List, length, slice_index}

-- where blocks of rows begin, one after the other, and at the end how many rows there are
pub record AreBlocks (blocks rows : ℕ) (starts : List ℕ) : Type 0 where
  pub size : length starts ≡ blocks + 1
  pub rise : (b : ℕ) → b < blocks → slice_index starts b ≤ slice_index starts (b + 1)
  pub within : (b : ℕ) → b < blocks → slice_index starts (b + 1) ≤ rows

-- no number is less than the one in the same place
abbrev pub NeverLess : List ℕ → List ℕ → Type 0
NeverLess xs ys = (k : ℕ) → slice_index ys k ≤ slice_index xs k

-- from one place to another none is less than the one so many places before
abbrev pub RiseBy : ℕ → List ℕ → ℕ → ℕ → Type 0
RiseBy step xs from to = (k : ℕ) → from ≤ k → k < to → slice_index xs (k - step) ≤ slice_index xs k

-- two rows of one block, the first of which doesn't stand behind the other
pub record IsOrdered (blocks : ℕ) (starts : List ℕ) (b i j : ℕ) : Type 0 where
  pub block : b < blocks
  pub begin : slice_index starts b ≤ i
  pub order : i ≤ j
  pub end : j < slice_index starts (b + 1)

-- what stands in a row is no more than the top in each later row of its block
pub record AreTops (width blocks : ℕ) (starts numbers tops : List ℕ) : Type 0 where
  pub size : length tops ≡ length numbers
  pub bound : (b i j t : ℕ) → t < width → IsOrdered blocks starts b i j → slice_index numbers (i * width + t) ≤ slice_index tops (j * width + t)

-- and no less than the floor in each earlier one
pub record AreFloors (width blocks : ℕ) (starts numbers floors : List ℕ) : Type 0 where
  pub size : length floors ≡ length numbers
  pub bound : (b i j t : ℕ) → t < width → IsOrdered blocks starts b i j → slice_index floors (i * width + t) ≤ slice_index numbers (j * width + t)
