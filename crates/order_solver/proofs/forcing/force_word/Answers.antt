use Rattle.order_solver.proofs.Forced.{forces_goes, forces_none, lacks-after, forces-err}
use Rattle.order_solver.proofs.forcing.force_word.Goals as goal

pub returns-in_default : goal.returns-in_default
returns-in_default g c = forces_none (g.R.Rivals.rivalry c.args.rivals.now) c.args.graph.now c.loop-source.graph c.force_row.new.graph c.in_ok-forced.field-0 c.loop-source.invariant c.in_ok-forced.ensures c.in_default.is

pub loop-source-preserved : goal.loop-source-preserved
loop-source-preserved g c = forces_goes (g.R.Rivals.rivalry c.args.rivals.now) c.args.graph.now c.loop-source.graph c.force_row.new.graph c.in_ok-forced.field-0 c.in-Some.forced c.loop-source.invariant c.in_ok-forced.ensures c.in-Some.is

pub returns-in_err-forced : goal.returns-in_err-forced
returns-in_err-forced g c = forces-err (g.R.Rivals.rivalry c.args.rivals.now) c.args.graph.now c.force_row.new.graph _ c.from_residual.ensures.0
    (lacks-after (g.R.Rivals.rivalry c.args.rivals.now) c.args.graph.now c.loop-source.graph c.loop-source.invariant c.in_err-forced.ensures)
