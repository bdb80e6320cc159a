use Rattle.std.proofs.Common.{Ok, subst}
use Rattle.replay_model.specs.Logs.{Log}
use Rattle.order_solver.specs.declared.solving.Answer.{Answer}
use Rattle.order_solver.specs.declared.solving.Answer.TheVariants as answer
use Rattle.order_solver.specs.Solving.{Solved}
use Rattle.audit.proofs.judging.judge.Goals as goal

pub returns-in-NoSchedule : goal.returns-in-NoSchedule
returns-in-NoSchedule c =
    c.legal_law.ensures.order c.args.program.now c.args.log.now
    (subst (λ (log : Log). Solved log c.args.budget (Ok answer.NoSchedule)) c.in_ok-problem.ensures
    (subst (λ (a : Answer). Solved c.in_ok-problem.problem c.args.budget (Ok a)) c.in-NoSchedule.is c.in_ok-order.ensures))
