-- From each place of a list of answers the next one that is yes.
use Rattle.std.specs.Prelude.{◌≡◌, ℕ, ◌+◌, ◌<◌, ◌≤◌, Bool, true, false, List, length, slice_index_or}

-- the first place from this one on that is set, or the number of places
pub record IsNextSet (set : List Bool) (from next : ℕ) : Type 0 where
  pub later : from ≤ next
  pub within : next ≤ length set
  pub unset : (k : ℕ) → from ≤ k → k < next → slice_index_or set k false ≡ false
  pub at : next < length set → slice_index_or set next false ≡ true

-- so it is for each place, and at the end
pub record AreNextSet (set : List Bool) (next : List ℕ) : Type 0 where
  pub many : length next ≡ length set + 1
  pub each : (i : ℕ) → i ≤ length set → IsNextSet set i (slice_index_or next i 0)
