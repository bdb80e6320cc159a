use Rattle.plain_search.proofs.forcing_law.Goals as goal
use Rattle.plain_search.proofs.Forcing.{forced-outcome, alike-outcome, other-lesser, other-greater, passed-outcome}

pub returns-clause-forced : goal.returns-clause-forced
returns-clause-forced c = forced-outcome

pub returns-clause-alike : goal.returns-clause-alike
returns-clause-alike c = alike-outcome

pub returns-clause-shut : goal.returns-clause-shut
returns-clause-shut c = λ problem pair rank within s.
    (other-greater problem problem.edges pair rank within s.sides s.base, other-lesser problem problem.edges pair rank within s.sides s.base)

pub returns-clause-settled : goal.returns-clause-settled
returns-clause-settled c = passed-outcome
