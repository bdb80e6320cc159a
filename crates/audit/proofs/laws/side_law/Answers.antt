use Rattle.audit.proofs.laws.side_law.Goals as goal
use Rattle.audit.proofs.Reading.{writes_are_read, sides_exclude}

pub returns-clause-read : goal.returns-clause-read
returns-clause-read c = writes_are_read

pub returns-clause-exclude : goal.returns-clause-exclude
returns-clause-exclude c = sides_exclude
