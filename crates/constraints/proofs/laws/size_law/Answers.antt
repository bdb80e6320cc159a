use Rattle.constraints.proofs.laws.size_law.Goals as goal
use Rattle.constraints.proofs.Groups.{logs_are_small, sources_are_grouped}

pub returns-clause-small : goal.returns-clause-small
returns-clause-small c = logs_are_small

pub returns-clause-groups : goal.returns-clause-groups
returns-clause-groups c = sources_are_grouped
