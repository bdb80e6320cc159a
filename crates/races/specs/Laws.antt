-- What holds in the orders that respect a log of its pairs that are not open.
use Rattle.std.specs.Prelude.{◌≡◌, false, List, Contains}
use Rattle.light_base.specs.declared.tag.Event.{Event}
use Rattle.plain_search.specs.Searches.{Pair, Side, is_open}
use Rattle.plain_search.specs.Openness.{is_stuck, HoldsOnly}
use Rattle.replay_model.specs.Logs.{Log}
use Rattle.replay_model.specs.WellFormed.{IsWellFormed}
use Rattle.replay_model.specs.Orders.{Respects}
use Rattle.constraints.specs.Constraints.{pairs_of, problem_of_log}
use Rattle.constraints.specs.Laws.{places_in}

-- where an order respects the log and a pair isn't open, all orders that respect the log have all edges of the same one side of
-- that pair, and none has all edges of the other
abbrev pub NotOpenIsDecided : Type 0
NotOpenIsDecided = (log : Log) (pair : Pair) (some : List Event) → IsWellFormed log → Respects log some → Contains (pairs_of log) pair →
    is_open (problem_of_log log).edges pair ≡ false →
    (side : Side) × ((order : List Event) → Respects log order → HoldsOnly (places_in log order) pair side)

-- where an order respects the log, no pair is stuck
abbrev pub RespectedIsNotStuck : Type 0
RespectedIsNotStuck = (log : Log) (pair : Pair) (order : List Event) → IsWellFormed log → Respects log order → Contains (pairs_of log) pair →
    is_stuck (problem_of_log log).edges pair ≡ false
