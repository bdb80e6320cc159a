-- Live ranges by word and start, and what passes over them look for.
use Rattle.std.specs.Prelude.{◌≡◌, ℕ, ◌<◌, ◌≤◌, cond, eqb, nat_lt, max, List, ◌⊎◌, length, slice_index_or}
use Rattle.order_judge.specs.declared.live_ranges.LiveRange.{LiveRange}
use Rattle.order_judge.specs.declared.sorted.Numbered.{Numbered}
use Rattle.order_judge.specs.declared.passes.Front.{Front}
use Rattle.order_judge.specs.declared.passes.Back.{Back}
use Rattle.order_judge.specs.LiveRanges.{no_range, range_at, BeginsInside}

abbrev pub no_numbered : Numbered
no_numbered = record { range = no_range; number = 0 }

abbrev pub numbered_at : List Numbered → ℕ → Numbered
numbered_at sorted k = slice_index_or sorted k no_numbered

-- the live range at k
abbrev pub live_at : List Numbered → ℕ → LiveRange
live_at sorted k = (numbered_at sorted k).range

-- the live ranges with their numbers, in any order
pub record AreNumbered (ranges : List LiveRange) (list : List Numbered) : Type 0 where
  pub known : (k : ℕ) → k < length list → ((numbered_at list k).number < length ranges) × (live_at list k ≡ range_at ranges (numbered_at list k).number)
  pub all : (i : ℕ) → i < length ranges → (k : ℕ) × (k < length list) × ((numbered_at list k).number ≡ i)

-- they stand by rising word, and those of one word by rising start
pub record AreSorted (sorted : List Numbered) : Type 0 where
  pub words : (k l : ℕ) → k ≤ l → l < length sorted → (live_at sorted k).word ≤ (live_at sorted l).word
  pub starts : (k l : ℕ) → k ≤ l → l < length sorted → (live_at sorted k).word ≡ (live_at sorted l).word → (live_at sorted k).from ≤ (live_at sorted l).from

-- the least number of one of these that is so to another one of them; 2^32 - 1 where none is
pub record IsLeastNumber (IsSo : LiveRange → LiveRange → Type 0) (sorted : List Numbered) (number : ℕ) : Type 0 where
  pub found : (number ≡ 4294967295) ⊎ ((k l : ℕ) × (k < length sorted) × (l < length sorted) × ((numbered_at sorted k).number ≡ number) × IsSo (live_at sorted k) (live_at sorted l))
  pub least : (k l : ℕ) → k < length sorted → l < length sorted → IsSo (live_at sorted k) (live_at sorted l) → number ≤ (numbered_at sorted k).number

-- another one begins inside it
abbrev pub IsAround : LiveRange → LiveRange → Type 0
IsAround a b = BeginsInside b a

-- the front once this live range has come next
abbrev pub passed_front : Front → LiveRange → Front
passed_front front range = record {
  word = range.word;
  from = range.from;
  until = cond (eqb range.word front.word) (cond (nat_lt front.from range.from) front.end front.until) 0;
  end = max (cond (eqb range.word front.word) front.end 0) range.to;
}

-- the back once this live range has come before
abbrev pub passed_back : Back → LiveRange → Back
passed_back back range = record {
  word = range.word;
  from = range.from;
  next = cond (eqb range.word back.word) (cond (nat_lt range.from back.from) back.from back.next) 4294967295;
}
