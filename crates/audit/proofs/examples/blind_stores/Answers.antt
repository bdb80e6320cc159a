use Rattle.audit.proofs.examples.blind_stores.Goals as goal
use Rattle.audit.proofs.WorkedExamples as Worked

pub returns : goal.returns
returns c = Worked.blind_stores
