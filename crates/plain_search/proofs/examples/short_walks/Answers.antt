use Rattle.plain_search.proofs.examples.short_walks.Goals as goal
use Rattle.plain_search.proofs.WorkedExamples as Worked

pub returns : goal.returns
returns c = Worked.short_walks
