-- Which sources of a word may not come before which others, by the base edges alone.
use Rattle.std.specs.Prelude.{◌≡◌, ℕ, ◌<◌, ◌≤◌, Bool, true, false, List, slice_index}
use Rattle.plain_search.specs.declared.Edge.{Edge}
use Rattle.plain_search.specs.Edges.{Implies}
use Rattle.plain_search.specs.Openness.{is_shut}
use Rattle.order_graph.specs.Graphs.{GraphState, edges_of}
use Rattle.replay_model.specs.Logs.{Log}
use Rattle.constraints.specs.Positions.{counts_of}
use Rattle.constraints.specs.Constraints.{sources_of, last_reads_from, edges_to, problem_of_log}

-- the base edges, thread order first
abbrev pub base_edges : Log → List Edge
base_edges log = (problem_of_log log).edges

-- a graph of the log's events that holds under the same rankings as the base edges
pub record IsBase (log : Log) (g : GraphState) : Type 0 where
  pub counts : g.counts ≡ counts_of log
  pub base : Implies (edges_of g) (base_edges log)
  pub all : Implies (base_edges log) (edges_of g)

-- the word's i-th source, and whether it may not come before the j-th
abbrev pub source_at : Log → ℕ → ℕ → ℕ
source_at log word i = slice_index (sources_of log word) i

abbrev pub shuts : Log → ℕ → ℕ → ℕ → Bool
shuts log word i j = is_shut (base_edges log) (edges_to (last_reads_from log word (source_at log word i)) (source_at log word j))

-- of numbers from one to another those that pass the test are the ones before the end
pub record IsFront (test : ℕ → Bool) (from to end : ℕ) : Type 0 where
  pub low : from ≤ end
  pub high : end ≤ to
  pub before : (j : ℕ) → from ≤ j → j < end → test j ≡ true
  pub after : (j : ℕ) → end ≤ j → j < to → test j ≡ false
