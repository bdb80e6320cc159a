use Rattle.machine.proofs.laws.machine_law.Goals as goal
use Rattle.machine.proofs.Keeping.{keeps_limits}
use Rattle.machine.proofs.Runs.{stays_within, has_only, ends_within, counts_steps, keeps_thread, after_step, settled_pending, settled_stays, compares_after_loads}

pub returns : goal.returns
returns c = record {
  within = stays_within;
  only = has_only;
  ends = ends_within;
  steps = counts_steps;
  thread = keeps_thread;
  step = after_step;
  pending = settled_pending;
  stays = settled_stays;
  keeps = keeps_limits;
  compares = compares_after_loads;
}
