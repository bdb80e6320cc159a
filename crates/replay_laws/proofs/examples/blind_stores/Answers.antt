use Rattle.replay_laws.proofs.examples.blind_stores.Goals as goal
use Rattle.replay_laws.proofs.WorkedExamples as Worked

pub returns-clause-shows : goal.returns-clause-shows
returns-clause-shows c = Worked.blind_stores

pub returns-clause-refused : goal.returns-clause-refused
returns-clause-refused c = Worked.blind_stores_refused

pub returns-clause-no_event : goal.returns-clause-no_event
returns-clause-no_event c = Worked.blind_stores_no_event
