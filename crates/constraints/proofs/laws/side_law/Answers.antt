use Rattle.constraints.proofs.laws.side_law.Goals as goal
use Rattle.constraints.proofs.Shapes.{sides_exclude, sources_are_read}

pub returns-clause-exclude : goal.returns-clause-exclude
returns-clause-exclude c = sides_exclude

pub returns-clause-read : goal.returns-clause-read
returns-clause-read c = sources_are_read
