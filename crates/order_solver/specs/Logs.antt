-- What a log gives the search to work on, and what an answer says of the log.
use Rattle.std.specs.Prelude.{ℕ, true, nat_lt, length}
use Rattle.std.specs.List.{count_by}
use Rattle.replay_model.specs.Logs.{Log}
use Rattle.constraints.specs.Positions.{event_at, counts_of}
use Rattle.constraints.specs.Constraints.{sources_of, last_reads_from, base_of}
use Rattle.order_solver.specs.Rivals.{Rivalry}

-- how many of the word's sources are of threads below this one
abbrev pub start_of : Log → ℕ → ℕ → ℕ
start_of log word t = count_by (λ p. nat_lt (event_at log p).thread t) (sources_of log word)

-- positions of events are the nodes, and each two sources are rivals
abbrev pub rivalry_of : Log → Rivalry
rivalry_of log = record {
  counts = counts_of log;
  base = base_of log;
  words = length log.last_tags;
  sources = sources_of log;
  last_reads = last_reads_from log;
  rival = λ word s t. true;
  start = start_of log;
}
