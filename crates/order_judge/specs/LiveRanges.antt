-- Live ranges of words, and which of them overlap.
use Rattle.std.specs.Prelude.{◌≡◌, ℕ, ◌<◌, List, ◌⊎◌, length, slice_index_or, Contains}
use Rattle.order_judge.specs.declared.live_ranges.LiveRange.{LiveRange}

-- stands where a list has no live range
abbrev pub no_range : LiveRange
no_range = record { word = 0; from = 0; to = 0 }

abbrev pub range_at : List LiveRange → ℕ → LiveRange
range_at ranges i = slice_index_or ranges i no_range

-- the one begins inside the other: it is of the same word, and begins after that has begun and before that ends
pub record BeginsInside (a b : LiveRange) : Type 0 where
  pub word : a.word ≡ b.word
  pub after : b.from < a.from
  pub before : a.from < b.to

-- one of the two begins inside the other
abbrev pub Overlap : LiveRange → LiveRange → Type 0
Overlap a b = BeginsInside a b ⊎ BeginsInside b a

-- the live ranges with these numbers overlap, and no earlier two, by the lesser number and then the greater one
pub record IsFirstOverlap (ranges : List LiveRange) (i j : ℕ) : Type 0 where
  pub rising : i < j
  pub below : j < length ranges
  pub here : Overlap (range_at ranges i) (range_at ranges j)
  pub first : (k l : ℕ) → k < i → l < length ranges → Overlap (range_at ranges k) (range_at ranges l) → ⊥
  pub second : (l : ℕ) → l < j → Overlap (range_at ranges i) (range_at ranges l) → ⊥

-- no two of them overlap
abbrev pub AreApart : List LiveRange → Type 0
AreApart ranges = (a b : LiveRange) → Contains ranges a → Contains ranges b → Overlap a b → ⊥
