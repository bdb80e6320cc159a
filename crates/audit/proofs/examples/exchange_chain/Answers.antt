use Rattle.audit.proofs.examples.exchange_chain.Goals as goal
use Rattle.audit.proofs.WorkedExamples as Worked

pub returns : goal.returns
returns c = Worked.exchange_chain
