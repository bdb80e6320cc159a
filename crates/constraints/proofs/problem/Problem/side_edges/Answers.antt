use Rattle.std.proofs.Common.{◌∙◌, ap, arith}
use Rattle.constraints.proofs.SideEdges.{side_edges_up_to, side_edges-next, side_edges-all}
use Rattle.constraints.proofs.problem.Problem.side_edges.Goals as goal

pub overflow_add-total : goal.overflow_add-total
overflow_add-total c =
    let i = c.loop-word.invariant in
    let e = i.end in
    let f = i.few in
    let s = c.side_edges_at-total.ensures.small in
    let w = c.events-events.ensures.rules.range.words in
    omega (arith, e, f, s, w)

pub loop-word-preserved : goal.loop-word-preserved
loop-word-preserved c =
    let i = c.loop-word.invariant in
    let t = i.total in
    let f = i.few in
    let s = c.side_edges_at-total.ensures.small in
    let v = c.side_edges_at-total.ensures.value in
    let n = side_edges-next c.args.self.now c.loop-word.word in
    record {
      end = i.end;
      total = omega (arith, t, v, n);
      few = omega (arith, f, s);
    }

pub returns : goal.returns
returns c =
    let i = c.loop-word.invariant in
    i.total ∙ ap (side_edges_up_to c.args.self.now) (let e = i.end in omega (arith, e)) ∙ side_edges-all c.args.self.now
