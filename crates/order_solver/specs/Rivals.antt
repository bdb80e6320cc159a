-- What the search works on: nodes of threads, edges that have to hold, and for each word its sources, with those of them that are rivals.
use Rattle.std.specs.Prelude.{◌≡◌, ◌≢◌, ℕ, ◌+◌, ◌^◌, ◌<◌, ◌≤◌, Bool, true, false, List, [], ◌∷◌, ◌++◌, ◌⊎◌, length, map, filter, sum, slice_index, Contains}
use Rattle.std.specs.List.{flat_map, range_with_len}
use Rattle.plain_search.specs.declared.Edge.{Edge}
use Rattle.plain_search.specs.Edges.{Holds}
use Rattle.plain_search.specs.Searches.{Pair, PairProblem, problem_of}
use Rattle.plain_search.specs.Chains.{chains_from}
use Rattle.constraints.specs.Constraints.{edges_to}

pub record Rivalry : Type 0 where
  -- so many nodes of each thread, numbered thread after thread
  pub counts : List ℕ
  -- the edges that have to hold beside those of the threads' chains
  pub base : List Edge
  pub words : ℕ
  -- the sources of each word
  pub sources : ℕ → List ℕ
  -- the last reads of a source of a word: where it comes before another source, they do too, or are it
  pub last_reads : ℕ → ℕ → List ℕ
  -- whether two sources of a word are rivals: one of them comes first, with its last reads. Of others nothing is asked
  pub rival : ℕ → ℕ → ℕ → Bool
  -- the place among the sources of a word at which those of a thread begin
  pub start : ℕ → ℕ → ℕ

abbrev pub source_at : Rivalry → ℕ → ℕ → ℕ
source_at r word i = slice_index (r.sources word) i

-- two rivals of a word: one of them comes first, with its last reads
abbrev pub pair_in : Rivalry → ℕ → ℕ → ℕ → Pair
pair_in r word s t = record { lesser = edges_to (r.last_reads word s) t; greater = edges_to (r.last_reads word t) s }

-- each of a list with each later one, where the two pass the test
abbrev pub pairs_where : (ℕ → ℕ → Bool) → (ℕ → ℕ → Pair) → List ℕ → List Pair
pairs_where test pair [] = []
pairs_where test pair (s ∷ sources) = map (pair s) (filter (test s) sources) ++ pairs_where test pair sources

-- the pairs of so many words, from this one on
abbrev pub pairs_from : Rivalry → ℕ → ℕ → List Pair
pairs_from r word count = flat_map (λ w. pairs_where (r.rival w) (pair_in r w) (r.sources w)) (range_with_len word count)

abbrev pub edges_in : Rivalry → List Edge
edges_in r = chains_from 0 r.counts ++ r.base

-- the edges, and the pairs by word and by the places of their sources
abbrev pub problem_in : Rivalry → PairProblem
problem_in r = problem_of (edges_in r) (pairs_from r 0 r.words)

-- a is b, or ranks below it
abbrev pub AtMost : (ℕ → ℕ) → ℕ → ℕ → Type 0
AtMost rank a b = (a ≡ b) ⊎ (rank a < rank b)

-- the next place, from this one on, of a source of the word that is a rival of its i-th; none is left where it is past the sources
pub record IsNextRival (r : Rivalry) (word i from next : ℕ) : Type 0 where
  pub later : from ≤ next
  pub others : (k : ℕ) → from ≤ k → k < next → k < length (r.sources word) → r.rival word (source_at r word i) (source_at r word k) ≡ false
  pub rival : next < length (r.sources word) → r.rival word (source_at r word i) (source_at r word next) ≡ true

-- what the search relies on: numbers are those of nodes, and few enough; where the edges hold and the last reads of one source come
-- before another source, it does too; of two that are no rivals one comes before the other with its last reads wherever it does itself;
-- the sources of one thread on one word stand together, by rising rank
pub record AreRivals (r : Rivalry) : Type 0 where
  pub nodes_few : sum r.counts < 2 ^ 32
  pub threads_few : length r.counts < 2 ^ 8
  pub words_few : r.words < 2 ^ 16
  pub sources_few : (word : ℕ) → word < r.words → length (r.sources word) < 2 ^ 32
  pub base : (e : Edge) → Contains r.base e → (e.from < sum r.counts) × (e.to < sum r.counts)
  pub source : (word s : ℕ) → word < r.words → Contains (r.sources word) s → s < sum r.counts
  pub last : (word s l : ℕ) → word < r.words → Contains (r.sources word) s → Contains (r.last_reads word s) l → l < sum r.counts
  pub before : (rank : ℕ → ℕ) (word s t : ℕ) → Holds rank (edges_in r) → word < r.words → Contains (r.sources word) s → Contains (r.sources word) t → s ≢ t →
      Holds rank (edges_to (r.last_reads word s) t) → rank s < rank t
  pub others : (rank : ℕ → ℕ) (word s t : ℕ) → Holds rank (edges_in r) → word < r.words → Contains (r.sources word) s → Contains (r.sources word) t →
      r.rival word s t ≡ false → rank s < rank t → Holds rank (edges_to (r.last_reads word s) t)
  pub once : (word i j : ℕ) → word < r.words → i < j → j < length (r.sources word) → source_at r word i ≢ source_at r word j
  pub first : (word : ℕ) → word < r.words → r.start word 0 ≡ 0
  pub end : (word : ℕ) → word < r.words → r.start word (length r.counts) ≡ length (r.sources word)
  pub next : (word t : ℕ) → word < r.words → t < length r.counts → r.start word t ≤ r.start word (t + 1)
  pub rising : (rank : ℕ → ℕ) (word t i j : ℕ) → Holds rank (edges_in r) → word < r.words → t < length r.counts →
      r.start word t ≤ i → i < j → j < r.start word (t + 1) → rank (source_at r word i) < rank (source_at r word j)
