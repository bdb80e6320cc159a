use Rattle.replay_laws.proofs.verdict_law.Goals as goal
use Rattle.replay_laws.proofs.Verdict.{skipped_fit, verdict_exact, verdict_same}

pub returns-clause-fits : goal.returns-clause-fits
returns-clause-fits c threads tallies initial log order within only stops has = skipped_fit threads tallies initial log order within only stops has

pub returns-clause-exact : goal.returns-clause-exact
returns-clause-exact c = verdict_exact

pub returns-clause-same : goal.returns-clause-same
returns-clause-same c = verdict_same
