use Rattle.order_solver.proofs.Forced.{forces_goes, forces_none, lacks-after, forces-err}
use Rattle.order_solver.proofs.forcing.force_words.Goals as goal

pub returns-in_default : goal.returns-in_default
returns-in_default g c = forces_none (g.R.Rivals.rivalry c.args.rivals.now) c.args.graph.now c.loop-word.graph c.force_word.new.graph c.in_ok-forced.field-0 c.loop-word.invariant c.in_ok-forced.ensures c.in_default.is

pub loop-word-preserved : goal.loop-word-preserved
loop-word-preserved g c = forces_goes (g.R.Rivals.rivalry c.args.rivals.now) c.args.graph.now c.loop-word.graph c.force_word.new.graph c.in_ok-forced.field-0 c.in-Some.forced c.loop-word.invariant c.in_ok-forced.ensures c.in-Some.is

pub returns-in_err-forced : goal.returns-in_err-forced
returns-in_err-forced g c = forces-err (g.R.Rivals.rivalry c.args.rivals.now) c.args.graph.now c.force_word.new.graph _ c.from_residual.ensures.0
    (lacks-after (g.R.Rivals.rivalry c.args.rivals.now) c.args.graph.now c.loop-word.graph c.loop-word.invariant c.in_err-forced.ensures)
