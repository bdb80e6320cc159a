use Rattle.batch.proofs.Alike.{alike}
use Rattle.batch.proofs.laws.verdict_law.Goals as goal

pub returns : goal.returns
returns c = alike c.history_log_law.ensures.unique
