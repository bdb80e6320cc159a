use Rattle.plain_search.proofs.examples.small_problems.Goals as goal
use Rattle.plain_search.proofs.WorkedExamples as Worked

pub returns-clause-exchanges : goal.returns-clause-exchanges
returns-clause-exchanges c = Worked.three_exchanges

pub returns-clause-between : goal.returns-clause-between
returns-clause-between c = Worked.forced_between

pub returns-clause-many : goal.returns-clause-many
returns-clause-many c = Worked.many_edges
