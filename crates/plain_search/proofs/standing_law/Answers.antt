use Rattle.plain_search.proofs.standing_law.Goals as goal
use Rattle.plain_search.proofs.Standing.{ends, turns, forces}

pub returns-clause-ends : goal.returns-clause-ends
returns-clause-ends c = ends

pub returns-clause-turns : goal.returns-clause-turns
returns-clause-turns c = turns

pub returns-clause-forces : goal.returns-clause-forces
returns-clause-forces c = forces
