use Rattle.plain_search.proofs.examples.not_begun.Goals as goal
use Rattle.plain_search.proofs.WorkedExamples as Worked

pub returns-clause-cycle : goal.returns-clause-cycle
returns-clause-cycle c = Worked.not_begun

pub returns-clause-impossible : goal.returns-clause-impossible
returns-clause-impossible c = Worked.impossible
