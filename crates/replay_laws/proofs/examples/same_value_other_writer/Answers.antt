use Rattle.replay_laws.proofs.examples.same_value_other_writer.Goals as goal
use Rattle.replay_laws.proofs.WorkedExamples as Worked

pub returns-clause-shows : goal.returns-clause-shows
returns-clause-shows c = Worked.same_value_other_writer

pub returns-clause-refused : goal.returns-clause-refused
returns-clause-refused c = Worked.same_value_other_writer_refused
