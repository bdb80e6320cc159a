use Rattle.replay_laws.proofs.examples.one_entry.Goals as goal
use Rattle.replay_laws.proofs.WorkedExamples as Worked

pub returns : goal.returns
returns c = Worked.one_entry
