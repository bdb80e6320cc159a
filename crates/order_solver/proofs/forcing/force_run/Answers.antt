use Rattle.order_solver.proofs.Forced.{stays, forces_goes, forces_none, lacks-after, forces-err}
use Rattle.order_solver.proofs.forcing.force_run.Goals as goal

pub returns-in_default-2 : goal.returns-in_default-2
returns-in_default-2 g c = forces_none (g.R.Rivals.rivalry c.args.rivals.now) c.args.graph.now c.force_first.new.graph c.force_last.new.graph c.in_ok-last.field-0
    (forces_goes (g.R.Rivals.rivalry c.args.rivals.now) c.args.graph.now c.args.graph.now c.force_first.new.graph c.in_ok-first.field-0 c.in-Some.first (stays (g.R.Rivals.rivalry c.args.rivals.now) c.args.graph.now) c.in_ok-first.ensures c.in-Some.is) c.in_ok-last.ensures c.in_default-2.is

pub returns : goal.returns
returns g c = forces_goes (g.R.Rivals.rivalry c.args.rivals.now) c.args.graph.now c.force_first.new.graph c.force_last.new.graph c.in_ok-last.field-0 c.in-Some-2.last
    (forces_goes (g.R.Rivals.rivalry c.args.rivals.now) c.args.graph.now c.args.graph.now c.force_first.new.graph c.in_ok-first.field-0 c.in-Some.first (stays (g.R.Rivals.rivalry c.args.rivals.now) c.args.graph.now) c.in_ok-first.ensures c.in-Some.is) c.in_ok-last.ensures c.in-Some-2.is

pub returns-in_err-last : goal.returns-in_err-last
returns-in_err-last g c = forces-err (g.R.Rivals.rivalry c.args.rivals.now) c.args.graph.now c.force_last.new.graph _ c.from_residual-in_err-last.ensures.0
    (lacks-after (g.R.Rivals.rivalry c.args.rivals.now) c.args.graph.now c.force_first.new.graph
    (forces_goes (g.R.Rivals.rivalry c.args.rivals.now) c.args.graph.now c.args.graph.now c.force_first.new.graph c.in_ok-first.field-0 c.in-Some.first (stays (g.R.Rivals.rivalry c.args.rivals.now) c.args.graph.now) c.in_ok-first.ensures c.in-Some.is) c.in_err-last.ensures)
