use Rattle.cut_laws.proofs.search_law.Goals as goal
use Rattle.cut_laws.proofs.Searches.{started, went_on, ended}

pub returns-clause-begins : goal.returns-clause-begins
returns-clause-begins c = started

pub returns-clause-goes_on : goal.returns-clause-goes_on
returns-clause-goes_on c = λ log thread step numbers nexts t entry well is there here begun.
    went_on log thread step numbers nexts t entry is there here begun well

pub returns-clause-ends : goal.returns-clause-ends
returns-clause-ends c = ended
