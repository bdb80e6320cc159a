use Rattle.std.proofs.Common.{◌-◌, refl, arith}
use Rattle.order_solver.proofs.Adding.{side-step, side-skip, side-cycle, side-all, side-none}
use Rattle.order_solver.proofs.Spending.{spends-none, side-spends, side-skips, side-short, side-spent, on_err}
use Rattle.order_solver.proofs.sides.add_side.Goals as goal

pub loop-left-init : goal.loop-left-init
loop-left-init c = record { within = omega arith; narrower = side-none c.args.source _ c.args.last_reads.now c.args.graph.now refl; spends = spends-none _ c.args.graph.now }

pub returns-in_err-add_edge-clause-memory : goal.returns-in_err-add_edge-clause-memory
returns-in_err-add_edge-clause-memory c =
    on_err _ _ c.from_residual.ensures.0
    (side-short c.args.source c.loop-left.left (c.loop-left.left - 1) c.args.last_reads.now c.args.graph.now c.loop-left.graph (omega arith) (omega arith) c.if-last_reads-left.true c.loop-left.invariant.spends c.in_err-add_edge.ensures.memory)

pub returns-in-Cycle-clause-narrows : goal.returns-in-Cycle-clause-narrows
returns-in-Cycle-clause-narrows c =
    side-cycle c.args.source c.loop-left.left (c.loop-left.left - 1) c.args.last_reads.now c.args.graph.now c.loop-left.graph c.add_edge.new.graph c.in_ok-add_edge.field-0 (omega arith) (omega arith)
    c.if-last_reads-left.true c.loop-left.invariant.narrower c.in_ok-add_edge.ensures.narrows c.in-Cycle.is

pub returns-in-Cycle-clause-spends : goal.returns-in-Cycle-clause-spends
returns-in-Cycle-clause-spends c =
    side-spent c.args.source (c.loop-left.left - 1) c.args.last_reads.now c.args.graph.now c.add_edge.new.graph
    (side-spends c.args.source c.loop-left.left (c.loop-left.left - 1) c.args.last_reads.now c.args.graph.now c.loop-left.graph c.add_edge.new.graph (omega arith) (omega arith) c.if-last_reads-left.true c.loop-left.invariant.spends
    c.in_ok-add_edge.ensures.spends)

pub loop-left-preserved-in-In : goal.loop-left-preserved-in-In
loop-left-preserved-in-In c = record {
  within = omega arith;
  narrower = side-step c.args.source c.loop-left.left (c.loop-left.left - 1) c.args.last_reads.now c.args.graph.now c.loop-left.graph c.add_edge.new.graph c.in_ok-add_edge.field-0 (omega arith) (omega arith)
      c.if-last_reads-left.true c.loop-left.invariant.narrower c.in_ok-add_edge.ensures.narrows c.in-In.is;
  spends = side-spends c.args.source c.loop-left.left (c.loop-left.left - 1) c.args.last_reads.now c.args.graph.now c.loop-left.graph c.add_edge.new.graph (omega arith) (omega arith) c.if-last_reads-left.true c.loop-left.invariant.spends
      c.in_ok-add_edge.ensures.spends;
}

pub loop-left-preserved : goal.loop-left-preserved
loop-left-preserved c = record {
  within = omega arith;
  narrower = side-skip c.args.source c.loop-left.left (c.loop-left.left - 1) c.args.last_reads.now c.args.graph.now c.loop-left.graph (omega arith) (omega arith) c.if-last_reads-left.false c.loop-left.invariant.narrower;
  spends = side-skips c.args.source c.loop-left.left (c.loop-left.left - 1) c.args.last_reads.now c.args.graph.now c.loop-left.graph (omega arith) (omega arith) c.if-last_reads-left.false c.loop-left.invariant.spends;
}

pub returns-clause-narrows : goal.returns-clause-narrows
returns-clause-narrows c = side-all c.args.source c.loop-left.left c.args.last_reads.now c.args.graph.now c.loop-left.graph (omega arith) c.loop-left.invariant.narrower

pub returns-clause-spends : goal.returns-clause-spends
returns-clause-spends c = side-spent c.args.source c.loop-left.left c.args.last_reads.now c.args.graph.now c.loop-left.graph c.loop-left.invariant.spends
