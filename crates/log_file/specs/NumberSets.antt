-- What a set of numbers keeps beside their list.
use Rattle.std.specs.Prelude.{◌≡◌, ℕ, ◌/◌, ◌^◌, ◌<◌, ◌≤◌, Bool, true, ◌||◌, List, length, slice_index, nat_eq, Contains}
use Rattle.std.specs.Ordering.{nat_cmp}
use Rattle.std.specs.List.{list_any}
use Rattle.std.specs.BTreeSet.{BTreeSet, contains}

-- each number is below the end of its row, and the set has them all once they are gathered
pub record HasNumbers (numbers ends : List ℕ) (set : BTreeSet ℕ) (is_gathered : Bool) : Type 0 where
  pub below : (n : ℕ) → Contains numbers n → n / 2 ^ 28 < length ends → n < slice_index ends (n / 2 ^ 28)
  pub gathered : is_gathered ≡ true → (n : ℕ) → contains nat_cmp set n ≡ list_any (nat_eq n) numbers

-- no end fell, and that of the number's row is above it
pub record AreRaised (number : ℕ) (old new : List ℕ) : Type 0 where
  pub size : length new ≡ length old
  pub kept : (row : ℕ) → slice_index old row ≤ slice_index new row
  pub here : number / 2 ^ 28 < length old → number < slice_index new (number / 2 ^ 28)

-- the set has one more number, where it is to have them all
abbrev pub Puts : Bool → ℕ → BTreeSet ℕ → BTreeSet ℕ → Type 0
Puts is_gathered number old new = is_gathered ≡ true → (n : ℕ) → contains nat_cmp new n ≡ (contains nat_cmp old n || nat_eq n number)
