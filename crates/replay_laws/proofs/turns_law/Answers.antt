use Rattle.replay_laws.proofs.turns_law.Goals as goal
use Rattle.replay_laws.proofs.Rounds.{turns_legal, rounded, followed}

pub returns-clause-turns : goal.returns-clause-turns
returns-clause-turns c = turns_legal

pub returns-clause-rounds : goal.returns-clause-rounds
returns-clause-rounds c = rounded

pub returns-clause-follow : goal.returns-clause-follow
returns-clause-follow c = followed
