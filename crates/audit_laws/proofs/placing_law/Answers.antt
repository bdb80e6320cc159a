use Rattle.audit_laws.proofs.placing_law.Goals as goal
use Rattle.audit_laws.proofs.Audit.{history_places, placing_history, legal_placing}

pub returns-clause-places : goal.returns-clause-places
returns-clause-places c = history_places

pub returns-clause-history : goal.returns-clause-history
returns-clause-history c = placing_history

pub returns-clause-legal : goal.returns-clause-legal
returns-clause-legal c = legal_placing
