use Rattle.audit_laws.proofs.pair_law.Goals as goal
use Rattle.audit_laws.proofs.Pairs.{places_pairs}

pub returns : goal.returns
returns c = places_pairs
