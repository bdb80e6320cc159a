use Rattle.std.proofs.Common.{arith}
use Rattle.order_solver.proofs.OfLogs.{counts-length}
use Rattle.order_solver.proofs.problems.ProblemRivals.group.Goals as goal

pub group-requires-clause-thread : goal.group-requires-clause-thread
group-requires-clause-thread c = let e = counts-length c.args.self.now in let l = c.requires.thread in omega (arith, e, l)
