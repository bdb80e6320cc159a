use Rattle.audit.proofs.examples.forced_between.Goals as goal
use Rattle.audit.proofs.WorkedExamples as Worked

pub returns : goal.returns
returns c = Worked.forced_between
