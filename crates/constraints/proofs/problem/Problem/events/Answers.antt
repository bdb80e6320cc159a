use Rattle.constraints.proofs.Parts.{seen}
use Rattle.constraints.proofs.Placing.{few-as}
use Rattle.std.proofs.Common.{◌∙◌}
use Rattle.constraints.proofs.problem.Problem.events.Goals as goal

pub returns-clause-small : goal.returns-clause-small
returns-clause-small c =
    let k = seen c.self.view_is c.self.invariant in
    few-as c.args.self.now c.deref.result.now k.formed (c.deref.ensures.value ∙ k.listed)
