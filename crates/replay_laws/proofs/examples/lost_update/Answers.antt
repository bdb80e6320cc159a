use Rattle.replay_laws.proofs.examples.lost_update.Goals as goal
use Rattle.replay_laws.proofs.WorkedExamples as Worked

pub returns-clause-shows : goal.returns-clause-shows
returns-clause-shows c = Worked.lost_update

pub returns-clause-refused : goal.returns-clause-refused
returns-clause-refused c = Worked.lost_update_refused

pub returns-clause-rounds : goal.returns-clause-rounds
returns-clause-rounds c = Worked.lost_update_rounds

pub returns-clause-bridge : goal.returns-clause-bridge
returns-clause-bridge c = Worked.lost_update_bridge
