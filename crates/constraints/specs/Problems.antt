-- What a problem keeps of the log that it was made of.
use Rattle.std.specs.Prelude.{◌≡◌, ℕ, Bool, List, length}
use Rattle.light_base.specs.declared.tag.Event.{Event}
use Rattle.plain_search.specs.declared.Edge.{Edge}
use Rattle.replay_model.specs.Logs.{Log}
use Rattle.replay_model.specs.WellFormed.{IsWellFormed}
use Rattle.constraints.specs.Positions.{event_list, counts_of}
use Rattle.constraints.specs.Constraints.{base_of, impossible}
use Rattle.constraints.specs.Building.{starts_of, source_rows, last_rows}

pub record IsProblem (log : Log) (events : List Event) (starts counts : List ℕ) (base : List Edge) (sources last_reads : List (List ℕ)) (is_impossible : Bool) : Type 0 where
  pub formed : IsWellFormed log
  pub listed : events ≡ event_list log
  pub begun : starts ≡ starts_of (event_list log) (length log.threads)
  pub counted : counts ≡ counts_of log
  pub edges : base ≡ base_of log
  pub written : sources ≡ source_rows log
  pub read : last_reads ≡ last_rows log
  pub never : is_impossible ≡ impossible log
