use Rattle.cut_laws.proofs.cut_law.Goals as goal
use Rattle.cut_laws.proofs.Cuts.{logged_closed, cut_stays, cut_unique, cut_own, reads_within}

pub returns-clause-closed : goal.returns-clause-closed
returns-clause-closed c = logged_closed

pub returns-clause-stays : goal.returns-clause-stays
returns-clause-stays c = cut_stays

pub returns-clause-unique : goal.returns-clause-unique
returns-clause-unique c = cut_unique

pub returns-clause-own : goal.returns-clause-own
returns-clause-own c = cut_own

pub returns-clause-within : goal.returns-clause-within
returns-clause-within c = λ threads tallies initial log runs thread step cut fits closed.
    reads_within threads tallies initial log runs fits thread step cut closed
