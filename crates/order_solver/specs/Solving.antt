-- What an answer says of a log.
use Rattle.std.specs.Prelude.{ℕ, ◌^◌, ◌<◌, ◌≤◌, Result, Ok, Err, List, All, length}
use Rattle.light_base.specs.declared.memory.Memory.{Memory}
use Rattle.light_base.specs.declared.tag.Event.{Event}
use Rattle.light_base.specs.Tags.{HasTag}
use Rattle.replay_model.specs.Logs.{Log}
use Rattle.replay_model.specs.Orders.{Respects}
use Rattle.plain_search.specs.Searches.{open_pairs}
use Rattle.constraints.specs.Constraints.{problem_of_log, dead}
use Rattle.order_solver.specs.declared.solving.Answer.{Answer}
use Rattle.order_solver.specs.declared.solving.Answer.TheVariants as answer

-- the order respects the log; each of its events has a tag, and they are few enough to be written as a schedule
pub record IsFound (log : Log) (order : List Event) : Type 0 where
  pub respects : Respects log order
  pub tags : All HasTag order
  pub few : length order < 2 ^ 28

-- there is such an order, no order respects the log, or the plain search meets more dead ends
abbrev pub Solved : Log → ℕ → Result Answer Memory → Type 0
Solved log budget (Ok (answer.Found order)) = IsFound log order.items
Solved log budget (Ok answer.NoSchedule) = (order : List Event) → Respects log order → ⊥
Solved log budget (Ok answer.Spent) = budget < dead log
Solved log budget (Err _) = Unit {0}

-- the plain search of a log meets at most 2 to the number of open pairs dead ends
abbrev pub DeadEndsAreFew : Type 0
DeadEndsAreFew = (log : Log) → dead log ≤ 2 ^ open_pairs (problem_of_log log)
