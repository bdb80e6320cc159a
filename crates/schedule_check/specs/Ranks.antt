-- Entries and last tags by the places of their events.
use Rattle.std.specs.Prelude.{◌≡◌, ◌≢◌, ℕ, ◌+◌, ◌<◌, ◌≤◌, Option, Some, None, IfSome, List, length, slice_index, slice_index_or}
use Rattle.order_judge.specs.declared.live_ranges.LiveRange.{LiveRange}
use Rattle.order_judge.specs.LiveRanges.{range_at}
use Rattle.constraints.specs.declared.placed.Placed.{Placed}

-- how far down an order a tag stands, by the position of its event: 0 for the initial contents, else one more than the place
abbrev pub rank_in : List ℕ → Option ℕ → ℕ
rank_in places None = 0
rank_in places (Some p) = slice_index places p + 1

-- how long an entry's word keeps what the entry's source wrote, as far as the entry tells
abbrev pub range_in : List ℕ → Placed → LiveRange
range_in places entry = record { word = entry.word; from = rank_in places entry.source; to = rank_in places (Some entry.last) }

-- the source stands before the first
abbrev pub IsTimely : List ℕ → Placed → Type 0
IsTimely places entry = rank_in places entry.source < rank_in places (Some entry.first)

-- what the entry names has a place
pub record HasPlaces (places : List ℕ) (entry : Placed) : Type 0 where
  pub source : IfSome entry.source (λ p. p < length places)
  pub first : entry.first < length places
  pub last : entry.last < length places

-- the live range does not begin where its word's last tag stands, and ends after that
pub record IsTooLong (ends : List ℕ) (range : LiveRange) : Type 0 where
  pub other : range.from ≢ slice_index ends range.word
  pub after : slice_index ends range.word < range.to

-- of the first live ranges, so many, this is the first one of its word that is too long, and none of a lesser word is
pub record IsFirstTooLong (ranges : List LiveRange) (ends : List ℕ) (count word i : ℕ) : Type 0 where
  pub below : i < count
  pub of_word : (range_at ranges i).word ≡ word
  pub here : IsTooLong ends (range_at ranges i)
  pub words : (k : ℕ) → k < count → IsTooLong ends (range_at ranges k) → word ≤ (range_at ranges k).word
  pub first : (k : ℕ) → k < i → IsTooLong ends (range_at ranges k) → (range_at ranges k).word ≢ word

-- none of the first ones is too long
abbrev pub NoneIsTooLong : List LiveRange → List ℕ → ℕ → Type 0
NoneIsTooLong ranges ends count = (k : ℕ) → k < count → IsTooLong ends (range_at ranges k) → ⊥

-- stands where a list has no entry
abbrev pub no_placed : Placed
no_placed = record { word = 0; source = None; first = 0; last = 0 }

abbrev pub placed_at : List Placed → ℕ → Placed
placed_at entries i = slice_index_or entries i no_placed

-- of the first entries, so many, each one's source stands before its first
abbrev pub AreTimely : List ℕ → List Placed → ℕ → Type 0
AreTimely places entries count = (i : ℕ) → i < count → IsTimely places (placed_at entries i)

-- this one's does not, and it is the first such one
pub record IsFirstUntimely (places : List ℕ) (entries : List Placed) (i : ℕ) : Type 0 where
  pub below : i < length entries
  pub here : IsTimely places (placed_at entries i) → ⊥
  pub before : AreTimely places entries i

-- what was found is of a greater word, or nothing was found
abbrev pub IsLesser : ℕ → Option (ℕ × ℕ) → Type 0
IsLesser word None = Unit {0}
IsLesser word (Some p) = word < p.0
