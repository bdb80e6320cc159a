-- The pairs of sources that a log leaves open, listed and counted.
use Rattle.std.specs.Prelude.{◌≡◌, ℕ, ◌+◌, Bool, List, [], ◌∷◌, ◌++◌, length, map, filter, take, drop}
use Rattle.std.specs.List.{sum_by, count_by, flat_map, range_with_len}
use Rattle.plain_search.specs.declared.Edge.{Edge}
use Rattle.plain_search.specs.Searches as abstract
use Rattle.plain_search.specs.Searches.{is_open, open_pairs}
use Rattle.plain_search.specs.Openness.{is_forced, is_stuck, forced_pairs, stuck_pairs}
use Rattle.replay_model.specs.Logs.{Log}
use Rattle.constraints.specs.Positions.{event_at}
use Rattle.constraints.specs.Constraints.{sources_of, pair_of, pairs_of, problem_of_log}
use Rattle.races.specs.declared.open.Open.{Open}
use Rattle.races.specs.declared.pair.Pair.{Pair}
use Rattle.races.specs.declared.tally.Tally.{Tally}
use Rattle.races.specs.Shut.{base_edges, source_at, shuts}

-- each of a list with each later one
abbrev pub couples : List ℕ → List (ℕ × ℕ)
couples [] = []
couples (s ∷ sources) = map (λ t. (s, t)) sources ++ couples sources

-- whether the word's sources at these positions are an open pair
abbrev pub is_open_couple : Log → ℕ → ℕ × ℕ → Bool
is_open_couple log word couple = is_open (base_edges log) (pair_of log word couple.0 couple.1)

-- the pair by its writes
abbrev pub pair_at : Log → ℕ → ℕ × ℕ → Pair
pair_at log word couple = record { word = word; lesser = event_at log couple.0; greater = event_at log couple.1 }

-- those of the word's i-th source with later ones
abbrev pub open_row : Log → ℕ → ℕ → List Pair
open_row log word i = map (pair_at log word) (filter (is_open_couple log word) (map (λ t. (source_at log word i, t)) (drop (i + 1) (sources_of log word))))

-- over each source of a word, before how many of them it may not come, itself among them
abbrev pub shut_total : Log → ℕ → ℕ
shut_total log word = sum_by (λ i. count_by (shuts log word i) (range_with_len 0 (length (sources_of log word)))) (range_with_len 0 (length (sources_of log word)))

-- the open pairs of a word, by lesser and greater tag
abbrev pub open_at : Log → ℕ → List Pair
open_at log word = map (pair_at log word) (filter (is_open_couple log word) (couples (sources_of log word)))

-- the open pairs, by word, lesser and greater tag
abbrev pub open_list : Log → List Pair
open_list log = flat_map (open_at log) (range_with_len 0 (length log.last_tags))

-- how many pairs there are, and how many of them are open, forced and stuck by these edges
pub record IsTally (edges : List Edge) (rivals : List abstract.Pair) (tally : Tally) : Type 0 where
  pub pairs : tally.pairs ≡ length rivals
  pub left_open : tally.left_open ≡ count_by (is_open edges) rivals
  pub forced : tally.forced ≡ count_by (is_forced edges) rivals
  pub stuck : tally.stuck ≡ count_by (is_stuck edges) rivals

-- the numbers of two lists of pairs
abbrev pub both : Tally → Tally → Tally
both one other = record {
  pairs = one.pairs + other.pairs;
  left_open = one.left_open + other.left_open;
  forced = one.forced + other.forced;
  stuck = one.stuck + other.stuck;
}

-- all rival pairs of the log, by the base edges alone, and so many first ones of those that are open
pub record IsOpen (log : Log) (most : ℕ) (result : Open) : Type 0 where
  pub pairs : result.pairs ≡ length (pairs_of log)
  pub left_open : result.left_open ≡ open_pairs (problem_of_log log)
  pub forced : result.forced ≡ forced_pairs (problem_of_log log)
  pub stuck : result.stuck ≡ stuck_pairs (problem_of_log log)
  pub first : result.first.items ≡ take most (open_list log)
