use Rattle.audit.proofs.laws.constraint_law.Goals as goal
use Rattle.audit.proofs.Thinning.{idle_pairs_may_stay}
use Rattle.audit.proofs.Placings.{places_is_solving, lines_are_placings}

pub returns-clause-solving : goal.returns-clause-solving
returns-clause-solving c = places_is_solving

pub returns-clause-lines : goal.returns-clause-lines
returns-clause-lines c = lines_are_placings

pub returns-clause-idle : goal.returns-clause-idle
returns-clause-idle c = idle_pairs_may_stay
