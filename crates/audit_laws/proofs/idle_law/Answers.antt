use Rattle.audit_laws.proofs.idle_law.Goals as goal
use Rattle.audit_laws.proofs.IdlePairs.{idle_same}

pub returns : goal.returns
returns c = idle_same
