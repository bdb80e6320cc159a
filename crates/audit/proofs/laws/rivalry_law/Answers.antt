use Rattle.audit.proofs.laws.rivalry_law.Goals as goal
use Rattle.audit.proofs.Rivaling.{placings_are_searched, writes_are_rivals}

pub returns-clause-problem : goal.returns-clause-problem
returns-clause-problem c = placings_are_searched

pub returns-clause-rivals : goal.returns-clause-rivals
returns-clause-rivals c = writes_are_rivals
