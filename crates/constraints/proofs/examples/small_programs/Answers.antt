use Rattle.constraints.proofs.examples.small_programs.Goals as goal
use Rattle.constraints.proofs.WorkedExamples as Worked

pub returns-clause-own_write : goal.returns-clause-own_write
returns-clause-own_write c = Worked.own_write

pub returns-clause-initial_value : goal.returns-clause-initial_value
returns-clause-initial_value c = Worked.initial_value

pub returns-clause-lost_update : goal.returns-clause-lost_update
returns-clause-lost_update c = Worked.lost_update

pub returns-clause-message_passing : goal.returns-clause-message_passing
returns-clause-message_passing c = Worked.message_passing

pub returns-clause-exchange_chain : goal.returns-clause-exchange_chain
returns-clause-exchange_chain c = Worked.exchange_chain
