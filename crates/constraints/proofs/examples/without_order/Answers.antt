use Rattle.constraints.proofs.examples.without_order.Goals as goal
use Rattle.constraints.proofs.WorkedExamples as Worked

pub returns-clause-no_order : goal.returns-clause-no_order
returns-clause-no_order c = Worked.no_order

pub returns-clause-stale_read : goal.returns-clause-stale_read
returns-clause-stale_read c = Worked.stale_read

pub returns-clause-never_over : goal.returns-clause-never_over
returns-clause-never_over c = Worked.never_over

pub returns-clause-own_source : goal.returns-clause-own_source
returns-clause-own_source c = Worked.own_source
