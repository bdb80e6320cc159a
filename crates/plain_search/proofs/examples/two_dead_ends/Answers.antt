use Rattle.plain_search.proofs.examples.two_dead_ends.Goals as goal
use Rattle.plain_search.proofs.WorkedExamples as Worked

pub returns-clause-comes : goal.returns-clause-comes
returns-clause-comes c = Worked.two_dead_ends

pub returns-clause-stands : goal.returns-clause-stands
returns-clause-stands c = Worked.two_dead_ends_stand

pub returns-clause-forced : goal.returns-clause-forced
returns-clause-forced c = Worked.two_dead_ends_forced
