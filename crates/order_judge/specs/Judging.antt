-- What an order of nodes owes to edges and reads.
use Rattle.std.specs.Prelude.{◌≡◌, ◌≢◌, ℕ, ◌≤◌, Option, Some, None, List, ◌++◌, ◌⊎◌, All, map, sum, slice_index, Contains}
use Rattle.std.specs.Global.{Vec}
use Rattle.plain_search.specs.declared.Edge.{Edge}
use Rattle.plain_search.specs.Chains.{chains_from}
use Rattle.plain_search.specs.Edges.{Holds}
use Rattle.order_judge.specs.declared.judging.Read.{Read}
use Rattle.order_judge.specs.declared.live_ranges.LiveRange.{LiveRange}
use Rattle.order_judge.specs.LiveRanges.{AreApart}
use Rattle.order_judge.specs.Places.{place, IsOrder}

-- when the source of s stands in the order, all last reads of the source of r are over, or the latest of them is that very node
abbrev pub IsOver : List Read → List ℕ → Read → Read → Type 0
IsOver reads order r s =
    (x : Read) → Contains reads x → x.word ≡ r.word → x.source ≡ r.source → place order x.last ≤ place order s.source

-- the order holds each node once and nothing else; chains and edges rise in it; no last read stands before its source; and of two
-- sources of one word, the last reads of the one are over when the other stands
pub record Respects (counts : List ℕ) (edges : List Edge) (reads : List Read) (order : List ℕ) : Type 0 where
  pub each_once : IsOrder (sum counts) order
  pub rising : Holds (place order) (chains_from 0 counts ++ edges)
  pub later : All (λ (r : Read). place order r.source ≤ place order r.last) reads
  pub turns : (r s : Read) → Contains reads r → Contains reads s → r.word ≡ s.word → r.source ≢ s.source →
      IsOver reads order r s ⊎ IsOver reads order s r

-- stands where a list has no read
abbrev pub no_read : Read
no_read = record { word = 0; source = 0; last = 0 }

-- the live range of a read, where these are the places of the nodes
abbrev pub range_of : List ℕ → Read → LiveRange
range_of places r = record { word = r.word; from = slice_index places r.source; to = slice_index places r.last }

abbrev pub IsLater : List ℕ → Read → Type 0
IsLater places r = slice_index places r.source ≤ slice_index places r.last

-- the live ranges of the reads; none where a last read comes before its source
abbrev pub AreRanges : List Read → List ℕ → Option (Vec LiveRange) → Type 0
AreRanges reads places None = All (IsLater places) reads → ⊥
AreRanges reads places (Some ranges) = All (IsLater places) reads × (ranges.items ≡ map (range_of places) reads)

-- no last read comes before its source, and no two live ranges overlap
abbrev pub TakeTurns : List ℕ → List Read → Type 0
TakeTurns places reads = All (IsLater places) reads × AreApart (map (range_of places) reads)
