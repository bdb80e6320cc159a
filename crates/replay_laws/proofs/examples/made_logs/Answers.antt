use Rattle.replay_laws.proofs.examples.made_logs.Goals as goal
use Rattle.replay_laws.proofs.WorkedExamples as Worked
use Rattle.replay_laws.proofs.NoFit.{no_fit}

pub returns-clause-forced : goal.returns-clause-forced
returns-clause-forced c = Worked.forced_between

pub returns-clause-no_fit : goal.returns-clause-no_fit
returns-clause-no_fit c = no_fit
