use Rattle.order_graph.proofs.Sweeping.{told-smaller}
use Rattle.order_graph.proofs.clocks.settle.Goals as goal

pub sweeps-preserved : goal.sweeps-preserved
sweeps-preserved c = λ o. c.sweep_edges-outer.ensures.swept.opening (c.sweep_chains-inner.ensures.swept.opening (c.sweeps.invariant o))

pub sweeps-smaller : goal.sweeps-smaller
sweeps-smaller c = told-smaller c.sweeps.clocks c.sweep_chains-inner.new.clocks c.sweep_edges-outer.new.clocks c.sweep_chains-inner.result c.sweep_edges-outer.result
    c.sweep_chains-inner.ensures.swept.told c.sweep_edges-outer.ensures.swept.told c.else-not-inner.either
