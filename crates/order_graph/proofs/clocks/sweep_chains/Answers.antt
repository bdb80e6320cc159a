use Rattle.std.proofs.Common.{ℕ, ◌+◌, Bool, List, sym, subst, arith}
use Rattle.order_graph.specs.Shapes.{shape}
use Rattle.order_graph.proofs.Sweeping.{ChainsSwept, chains-more, chains-pass, swept-none, chains-closed, or-then, or-else}
use Rattle.order_graph.proofs.clocks.sweep_chains.Goals as goal
use Rattle.order_graph.proofs.clocks.sweep_chains.Goals.{then-lanes-node+then-changed, then-lanes-node+else-changed, else-lanes-node}

pub loop-k-init : goal.loop-k-init
loop-k-init c = record { swept = swept-none (shape c.args.lanes.now c.args.edges.now) c.args.threads c.args.clocks.now; rises = λ z u v n e. absurd (let m = e.node in omega (arith, n, m)) }

pub loop-k-preserved : goal.loop-k-preserved
loop-k-preserved c =
    let more = λ (new : List ℕ) (moved after : Bool). chains-more c.args.threads c.args.lanes.now c.args.edges.now c.loop-k.k c.args.clocks.now c.loop-k.clocks new
    c.loop-k.changed moved after c.loop-k.auto.k c.loop-k-test.true in
    let P = λ (clocks : List ℕ). ChainsSwept c.args.threads c.args.lanes.now c.args.edges.now (c.loop-k.k + 1) c.args.clocks.now clocks c.if-lanes-node.changed in
    elim c.if-lanes-node.branch [
      | then-lanes-node+then-changed w ↦ subst P (sym w.clocks-is) (more w.lower-moved.new.clocks w.lower-moved.result _ w.if-lanes-node.true c.loop-k.invariant w.lower-moved.ensures (or-then _ _ _ w.if-changed.true w.changed-is))
      | then-lanes-node+else-changed w ↦ subst P (sym w.clocks-is) (more w.lower-moved.new.clocks w.lower-moved.result _ w.if-lanes-node.true c.loop-k.invariant w.lower-moved.ensures (or-else _ _ _ w.if-changed.false w.changed-is))
      | else-lanes-node w ↦ subst P (sym w.clocks-is) (subst (λ (y : Bool). ChainsSwept c.args.threads c.args.lanes.now c.args.edges.now (c.loop-k.k + 1) c.args.clocks.now c.loop-k.clocks y) (sym w.changed-is)
          (chains-pass c.args.threads c.args.lanes.now c.args.edges.now c.loop-k.k c.args.clocks.now c.loop-k.clocks c.loop-k.changed c.loop-k.auto.k c.loop-k-test.true w.if-lanes-node.false c.loop-k.invariant))
    ]

pub returns-clause-closed : goal.returns-clause-closed
returns-clause-closed c = λ z. chains-closed c.args.threads c.args.lanes.now c.loop-k.k c.loop-k.clocks c.loop-k-test.false (c.loop-k.invariant.rises z)
