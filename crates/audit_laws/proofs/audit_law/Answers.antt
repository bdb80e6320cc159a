use Rattle.audit_laws.proofs.audit_law.Goals as goal
use Rattle.audit_laws.proofs.Audit.{legal_respected, legal_judged}

pub returns-clause-respected : goal.returns-clause-respected
returns-clause-respected c = legal_respected

pub returns-clause-judged : goal.returns-clause-judged
returns-clause-judged c = legal_judged
