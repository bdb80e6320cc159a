use Rattle.order_solver.proofs.Forced.{forces_goes, forces_none, lacks-after, forces_all-err}
use Rattle.order_solver.proofs.forcing.force.Goals as goal

pub returns-in_default : goal.returns-in_default
returns-in_default g c = forces_none (g.R.Rivals.rivalry c.args.rivals.now) c.args.graph.now c.loop.graph c.force_words.new.graph c.in_ok-forced.field-0 c.loop.invariant c.in_ok-forced.ensures c.in_default.is

pub returns-then-not-forced : goal.returns-then-not-forced
returns-then-not-forced g c = forces_goes (g.R.Rivals.rivalry c.args.rivals.now) c.args.graph.now c.loop.graph c.force_words.new.graph c.in_ok-forced.field-0 c.in-Some.forced c.loop.invariant c.in_ok-forced.ensures c.in-Some.is

pub loop-preserved : goal.loop-preserved
loop-preserved g c = forces_goes (g.R.Rivals.rivalry c.args.rivals.now) c.args.graph.now c.loop.graph c.force_words.new.graph c.in_ok-forced.field-0 c.in-Some.forced c.loop.invariant c.in_ok-forced.ensures c.in-Some.is

pub returns-in_err-forced : goal.returns-in_err-forced
returns-in_err-forced g c = forces_all-err (g.R.Rivals.rivalry c.args.rivals.now) c.args.graph.now c.force_words.new.graph _ c.from_residual.ensures.0
    (lacks-after (g.R.Rivals.rivalry c.args.rivals.now) c.args.graph.now c.loop.graph c.loop.invariant c.in_err-forced.ensures)
