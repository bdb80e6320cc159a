use Rattle.replay_laws.proofs.log_law.Goals as goal
use Rattle.replay_laws.proofs.WellFormedLog.{history_formed}

pub returns : goal.returns
returns c = history_formed
