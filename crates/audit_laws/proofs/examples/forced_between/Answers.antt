use Rattle.audit_laws.proofs.examples.forced_between.Goals as goal
use Rattle.audit_laws.proofs.WorkedExamples as Worked

pub returns : goal.returns
returns c = Worked.forced_between
