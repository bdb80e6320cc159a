-- The problem of a placing, as what a search works on: of two writes to a word, one of which was read, one comes first with its last reads.
use Rattle.std.specs.Prelude.{◌≡◌, ℕ, ◌<◌, ◌^◌, List, length, nat_lt}
use Rattle.std.specs.List.{count_by}
use Rattle.replay_model.specs.Steps.{Step}
use Rattle.replay_model.specs.Threads.{Threads, StaysWithin}
use Rattle.replay_model.specs.Logs.{Log}
use Rattle.replay_model.specs.RunLogs.{Tallies}
use Rattle.replay_model.specs.Fitting.{Fits}
use Rattle.replay_model.specs.WellFormed.{IsWellFormed}
use Rattle.order_solver.specs.Rivals.{Rivalry, AreRivals, problem_in}
use Rattle.audit.specs.Positions.{placed_list, placed_counts, placed_at}
use Rattle.audit.specs.Constraints.{writes_to, last_reads_of, base_of, one_is_read, placing_problem}

-- how many of the word's writes are of threads below this one
abbrev pub start_of : Log → List (List Step) → ℕ → ℕ → ℕ
start_of log runs word t = count_by (λ p. nat_lt (placed_at log runs p).thread t) (writes_to log runs word)

-- positions are the nodes, and the sources of a word are all writes to it
abbrev pub rivalry_of : Log → List (List Step) → Rivalry
rivalry_of log runs = record {
  counts = placed_counts log runs;
  base = base_of log runs;
  words = length log.last_tags;
  sources = writes_to log runs;
  last_reads = λ word s. last_reads_of log runs s;
  rival = λ word s t. one_is_read log runs s t;
  start = start_of log runs;
}

-- what is searched is the problem of a placing
abbrev pub PlacingsAreSearched : Type 0
PlacingsAreSearched = (log : Log) (runs : List (List Step)) → problem_in (rivalry_of log runs) ≡ placing_problem log runs

-- where runs fit a log, and few enough steps have a place, it is what a search relies on
abbrev pub WritesAreRivals : Type 0
WritesAreRivals = (threads : Threads) (tallies : Tallies) (initial : List ℕ) (log : Log) (runs : List (List Step)) → StaysWithin threads (length initial) →
    Fits threads tallies initial log runs → IsWellFormed log → length (placed_list log runs) < 2 ^ 32 → AreRivals (rivalry_of log runs)
