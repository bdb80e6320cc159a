use Rattle.replay_laws.proofs.examples.exchange_chain.Goals as goal
use Rattle.replay_laws.proofs.WorkedExamples as Worked

pub returns-clause-shows : goal.returns-clause-shows
returns-clause-shows c = Worked.exchange_chain

pub returns-clause-refused : goal.returns-clause-refused
returns-clause-refused c = Worked.exchange_chain_refused
