use Rattle.plain_search.proofs.examples.settled_but_open.Goals as goal
use Rattle.plain_search.proofs.WorkedExamples as Worked

pub returns : goal.returns
returns c = Worked.settled_but_open
