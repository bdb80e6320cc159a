use Rattle.light_top.proofs.Continuing.{continued}
use Rattle.light_top.proofs.top.light.Goals as goal

pub returns-in-Some-clause-continues : goal.returns-in-Some-clause-continues
returns-in-Some-clause-continues g c = continued _ _ c.in-Some.command c.obey.result c.obey.ensures.ends
