use Rattle.stopper.proofs.laws.stop_law.Goals as goal
use Rattle.stopper.proofs.Stops.{stops_step, stops_settle, stops_ran}

pub returns-clause-step : goal.returns-clause-step
returns-clause-step c = stops_step

pub returns-clause-settle : goal.returns-clause-settle
returns-clause-settle c = stops_settle

pub returns-clause-ran : goal.returns-clause-ran
returns-clause-ran c = stops_ran
