use Rattle.replay_laws.proofs.examples.message_passing.Goals as goal
use Rattle.replay_laws.proofs.WorkedExamples as Worked

pub returns-clause-shows : goal.returns-clause-shows
returns-clause-shows c = Worked.message_passing

pub returns-clause-sooner : goal.returns-clause-sooner
returns-clause-sooner c = Worked.message_passing_sooner

pub returns-clause-elsewise : goal.returns-clause-elsewise
returns-clause-elsewise c = Worked.message_passing_elsewise

pub returns-clause-between : goal.returns-clause-between
returns-clause-between c = Worked.message_passing_between

pub returns-clause-too_early : goal.returns-clause-too_early
returns-clause-too_early c = Worked.message_passing_too_early
