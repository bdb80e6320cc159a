use Rattle.replay_laws.proofs.examples.round_another_read.Goals as goal
use Rattle.replay_laws.proofs.WorkedExamples as Worked

pub returns-clause-shows : goal.returns-clause-shows
returns-clause-shows c = Worked.round_another_read

pub returns-clause-refused : goal.returns-clause-refused
returns-clause-refused c = Worked.round_another_read_refused
