use Rattle.std.proofs.Common.{◌∙◌}
use Rattle.constraints.proofs.Parts.{seen, source-row-at}
use Rattle.constraints.proofs.problem.Problem.sources.Goals as goal

pub row-requires : goal.row-requires
row-requires c = (source-row-at c.args.self.now c.self.inside.sources c.args.word c.from.result c.from.ensures (seen c.self.view_is c.self.invariant).written c.requires).0

pub returns : goal.returns
returns c = c.row.ensures ∙ (source-row-at c.args.self.now c.self.inside.sources c.args.word c.from.result c.from.ensures (seen c.self.view_is c.self.invariant).written c.requires).1
