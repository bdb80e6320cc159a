use Rattle.races.proofs.laws.decided_law.Goals as goal
use Rattle.races.proofs.Decided.{not_open_is_decided, respected_is_not_stuck}

pub returns-clause-decided : goal.returns-clause-decided
returns-clause-decided c = not_open_is_decided c.order_law.ensures.solving c.openness_law.ensures.decided

pub returns-clause-stuck : goal.returns-clause-stuck
returns-clause-stuck c = respected_is_not_stuck c.order_law.ensures.solving c.openness_law.ensures.solved
