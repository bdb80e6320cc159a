use Rattle.constraints.proofs.laws.position_law.Goals as goal
use Rattle.constraints.proofs.Shapes.{events_are_listed, sources_rise, edges_are_within}

pub returns-clause-listed : goal.returns-clause-listed
returns-clause-listed c = events_are_listed

pub returns-clause-rise : goal.returns-clause-rise
returns-clause-rise c = sources_rise

pub returns-clause-within : goal.returns-clause-within
returns-clause-within c = edges_are_within
