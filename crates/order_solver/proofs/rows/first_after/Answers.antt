use Rattle.std.proofs.Common.{◌≡◌, ℕ, ◌<◌, subst, ◌+◌, ◌-◌, ◌/◌, refl, arith}
use Rattle.order_graph.specs.Graphs.{edges_of}
use Rattle.plain_search.specs.Edges.{Implies}
use Rattle.constraints.specs.Constraints.{edges_to}
use Rattle.order_solver.specs.Rivals.{source_at}
use Rattle.order_solver.proofs.Windows.{before-more}
use Rattle.order_solver.proofs.rows.first_after.Goals as goal

pub loop-low-preserved-then-precedes : goal.loop-low-preserved-then-precedes
loop-low-preserved-then-precedes g c =
    let a = c.loop-low.invariant.low in
    let b = c.loop-low.invariant.high in
    record {
      low = omega (arith, a);
      order = omega arith;
      high = b;
      before = before-more (g.R.Rivals.rivalry c.args.rivals.now) (edges_of c.args.graph.now) c.args.word c.args.source c.args.from c.args.end (c.loop-low.low + (c.loop-low.high - c.loop-low.low) / 2)
          c.requires.rivals c.requires.word c.requires.source c.requires.run (omega (arith, b)) (c.if-precedes.ensures.0 refl);
      last = c.loop-low.invariant.last;
    }

pub returns-clause-last : goal.returns-clause-last
returns-clause-last g c =
    let r = g.R.Rivals.rivalry c.args.rivals.now in
    let F : ℕ → Type 0 = λ n. n < c.args.end → Implies (edges_of c.args.graph.now) (edges_to (r.last_reads c.args.word (source_at r c.args.word n)) (source_at r c.args.word c.args.source)) → ⊥ in
    let o = c.loop-low.invariant.order in
    let e : c.loop-low.high ≡ c.loop-low.low = omega (arith, o) in
    subst F e c.loop-low.invariant.last
