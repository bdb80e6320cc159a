use Rattle.replay_laws.proofs.history_law.Goals as goal
use Rattle.replay_laws.proofs.HistoryLog.{history_fits, history_shows, history_respects, history_replayed, histories_alike}

pub returns-clause-fits : goal.returns-clause-fits
returns-clause-fits c = history_fits

pub returns-clause-shows : goal.returns-clause-shows
returns-clause-shows c = history_shows

pub returns-clause-respects : goal.returns-clause-respects
returns-clause-respects c = history_respects

pub returns-clause-replayed : goal.returns-clause-replayed
returns-clause-replayed c threads tallies digest limits initial count history order within only stops whole respects =
    history_replayed threads tallies digest limits initial count history within only whole order stops respects

pub returns-clause-alike : goal.returns-clause-alike
returns-clause-alike c = histories_alike
