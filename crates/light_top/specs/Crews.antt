-- Which workers run the threads of a program.
use Rattle.std.specs.Prelude.{ℕ, ◌≤◌, nat_lt, ◌&&◌, Option, Some, None, if◌then◌else◌}

-- the most workers
abbrev pub most_workers : ℕ
most_workers = 15

-- some workers, and no more than there may be
abbrev pub AreWorkers : ℕ → Type 0
AreWorkers workers = (1 ≤ workers) × (workers ≤ most_workers)

abbrev pub workers_or_none : ℕ → Option ℕ
workers_or_none workers = if nat_lt 0 workers then Some workers else None

-- so many workers, and so many memory steps of a thread in its turn
pub record CrewValue : Type 0 where
  pub workers : ℕ
  pub slice : ℕ

pub record IsCrew (crew : CrewValue) : Type 0 where
  pub some_worker : 1 ≤ crew.workers
  pub workers : crew.workers ≤ most_workers
  pub some_step : 1 ≤ crew.slice

-- neither is 0
abbrev pub crew_or_none : ℕ → ℕ → Option CrewValue
crew_or_none workers slice =
    if nat_lt 0 workers && nat_lt 0 slice then Some (record { workers = workers; slice = slice }) else None
