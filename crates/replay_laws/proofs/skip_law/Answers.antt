use Rattle.replay_laws.proofs.skip_law.Goals as goal
use Rattle.replay_laws.proofs.Shown.{fit_shown, fit_unique}

pub returns-clause-shows : goal.returns-clause-shows
returns-clause-shows c = fit_shown

pub returns-clause-unique : goal.returns-clause-unique
returns-clause-unique c = fit_unique
