use Rattle.std.proofs.Common.{arith}
use Rattle.order_solver.proofs.Forced.{forces_goes, forces_none, lacks-after, forces-err}
use Rattle.order_solver.proofs.Beginning.{run-within}
use Rattle.order_solver.proofs.Windows.{counted}
use Rattle.order_solver.proofs.forcing.force_row.Goals as goal

pub force_run-requires-clause-end : goal.force_run-requires-clause-end
force_run-requires-clause-end g c =
    let r = g.R.Rivals.rivalry c.args.rivals.now in
    run-within r c.args.word c.loop-thread.thread c.group-end.result.1 c.requires.rivals c.requires.word
    (counted c.counts-thread-end.result.now r.counts c.loop-thread.thread c.counts-thread-end.ensures c.loop-thread-test.true) c.group-end.ensures.end

pub returns-in_default : goal.returns-in_default
returns-in_default g c = forces_none (g.R.Rivals.rivalry c.args.rivals.now) c.args.graph.now c.loop-thread.graph c.force_run.new.graph c.in_ok-forced.field-0 c.loop-thread.invariant.on c.in_ok-forced.ensures c.in_default.is

pub loop-thread-preserved : goal.loop-thread-preserved
loop-thread-preserved g c = record {
  from = (let a = c.loop-thread.invariant.from in let e = c.max-from.ensures in grind (arith, a, e));
  on = forces_goes (g.R.Rivals.rivalry c.args.rivals.now) c.args.graph.now c.loop-thread.graph c.force_run.new.graph c.in_ok-forced.field-0 c.in-Some.forced c.loop-thread.invariant.on c.in_ok-forced.ensures c.in-Some.is;
}

pub returns-in_err-forced : goal.returns-in_err-forced
returns-in_err-forced g c = forces-err (g.R.Rivals.rivalry c.args.rivals.now) c.args.graph.now c.force_run.new.graph _ c.from_residual.ensures.0
    (lacks-after (g.R.Rivals.rivalry c.args.rivals.now) c.args.graph.now c.loop-thread.graph c.loop-thread.invariant.on c.in_err-forced.ensures)
