-- A place among the pairs, and what may be passed from there on.
use Rattle.std.specs.Prelude.{◌≡◌, ℕ, ◌+◌, ◌-◌, ◌<◌, ◌≤◌, true, false, nat_lt, List, [], ◌++◌, ◌⊎◌, Option, MatchOption, length, map, filter, drop, All, if◌then◌else◌}
use Rattle.plain_search.specs.declared.Edge.{Edge}
use Rattle.plain_search.specs.Edges.{is_acyclic, Holds, Implies}
use Rattle.plain_search.specs.Searches.{Pair}
use Rattle.order_solver.specs.declared.cursor.Cursor.{Cursor}
use Rattle.order_solver.specs.Rivals.{Rivalry, source_at, pair_in, pairs_where, pairs_from, edges_in}
use Rattle.constraints.specs.Constraints.{edges_to}

abbrev pub cursor : ℕ → ℕ → ℕ → Cursor
cursor word lesser greater = record { word = word; lesser = lesser; greater = greater }

-- the pairs from there on
abbrev pub pairs_at : Rivalry → Cursor → List Pair
pairs_at r c =
    if nat_lt c.word r.words then
    map (pair_in r c.word (source_at r c.word c.lesser)) (filter (r.rival c.word (source_at r c.word c.lesser)) (drop c.greater (r.sources c.word))) ++
    (pairs_where (r.rival c.word) (pair_in r c.word) (drop (c.lesser + 1) (r.sources c.word)) ++ pairs_from r (c.word + 1) (r.words - (c.word + 1)))
    else []

-- the next one of its source, and the first one of the next source of the word, or of the next word
abbrev pub next_of : Cursor → Cursor
next_of c = cursor c.word c.lesser (c.greater + 1)

abbrev pub next_row_of : Rivalry → Cursor → Cursor
next_row_of r c =
    if nat_lt (c.lesser + 1) (length (r.sources c.word)) then cursor c.word (c.lesser + 1) (c.lesser + 2) else cursor (c.word + 1) 0 1

-- it is a place in some row
pub record IsPlace (r : Rivalry) (c : Cursor) : Type 0 where
  pub lesser : c.lesser < c.greater
  pub row : c.lesser ≤ length (r.sources c.word)

-- it is the place of a pair
pub record IsAt (r : Rivalry) (c : Cursor) : Type 0 where
  pub word : c.word < r.words
  pub lesser : c.lesser < c.greater
  pub greater : c.greater < length (r.sources c.word)
  pub rival : r.rival c.word (source_at r c.word c.lesser) (source_at r c.word c.greater) ≡ true

-- the edges imply the lesser side, or they imply the greater one and shut the lesser one
abbrev pub IsSettled : List Edge → Pair → Type 0
IsSettled edges pair = Implies edges pair.lesser ⊎ (Implies edges pair.greater × (is_acyclic (pair.lesser ++ edges) ≡ false))

-- of the sources from one place to another the last reads of each come before the next one, or are it
abbrev pub Chained : Rivalry → (ℕ → ℕ) → ℕ → ℕ → ℕ → Type 0
Chained r rank word from end = (k : ℕ) → from ≤ k → k + 1 < end → Holds rank (edges_to (r.last_reads word (source_at r word k)) (source_at r word (k + 1)))

-- the edges imply those of the problem, and for sources of one thread on one word that the lesser one comes first
pub record IsRooted (r : Rivalry) (edges : List Edge) : Type 0 where
  pub base : Implies edges (edges_in r)
  pub chained : (rank : ℕ → ℕ) (word t : ℕ) → Holds rank edges → word < r.words → t < length r.counts →
      Chained r rank word (r.start word t) (r.start word (t + 1))

-- the sources from one place to another are those of one thread, by rising rank, and each comes before the next one with its last reads
pub record IsRun (r : Rivalry) (edges : List Edge) (word from end : ℕ) : Type 0 where
  pub bounds : from ≤ end
  pub within : end ≤ length (r.sources word)
  pub base : Implies edges (edges_in r)
  pub rising : (rank : ℕ → ℕ) (i j : ℕ) → Holds rank edges → from ≤ i → i < j → j < end →
      rank (source_at r word i) < rank (source_at r word j)
  pub chained : (rank : ℕ → ℕ) → Holds rank edges → Chained r rank word from end

-- the edges imply that the word's i-th source comes before its j-th, with its last reads
abbrev pub Precedes : Rivalry → List Edge → ℕ → ℕ → ℕ → Type 0
Precedes r edges word i j = Implies edges (edges_to (r.last_reads word (source_at r word i)) (source_at r word j))

-- and so does each of these sources
abbrev pub AreBefore : Rivalry → List Edge → ℕ → ℕ → ℕ → ℕ → Type 0
AreBefore r edges word i from end = (k : ℕ) → from ≤ k → k < end → Precedes r edges word k i

-- the pairs of a source with each of these that is its rival are settled
abbrev pub AreSettled : Rivalry → List Edge → ℕ → ℕ → ℕ → ℕ → Type 0
AreSettled r edges word i from end = (k : ℕ) → from ≤ k → k < end → r.rival word (source_at r word i) (source_at r word k) ≡ true →
    IsSettled edges (pair_in r word (source_at r word i) (source_at r word k))

-- those before the rival that was found are, or all of them where none was
abbrev pub AreSettledBefore : Rivalry → List Edge → ℕ → ℕ → ℕ → ℕ → Option ℕ → Type 0
AreSettledBefore r edges word i from end found = MatchOption found (AreSettled r edges word i from end)
    (λ k. (from ≤ k) × (k < end) × AreSettled r edges word i from k × (r.rival word (source_at r word i) (source_at r word k) ≡ true))

-- some pairs were passed, all of them settled
pub record Passes (edges : List Edge) (pairs rest : List Pair) : Type 0 where
  pub passed : List Pair
  pub all : pairs ≡ passed ++ rest
  pub settled : All (IsSettled edges) passed
