use Rattle.constraints.proofs.examples.two_dead_ends.Goals as goal
use Rattle.constraints.proofs.WorkedExamples as Worked

pub returns : goal.returns
returns c = Worked.two_dead_ends
