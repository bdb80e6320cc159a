use Rattle.std.proofs.Common.{◌≡◌, ℕ, ◌<◌, ◌+◌, ◌*◌, length, ◌∙◌, subst, get_or, arith}
use Rattle.order_graph.proofs.Kept.{nodes-kept, leads-kept, place-kept}
use Rattle.order_graph.proofs.thread_graph.Graph.leads.Goals as goal

pub index-requires : goal.index-requires
index-requires c =
    let e = nodes-kept c.args.self.now c.self.inside.counts.items c.self.inside.lanes.items c.self.inside.edges.items c.self.inside.spare c.self.inside.clocks.items c.self.inside.heads.items c.self.inside.older.items
    c.self.view_is c.self.invariant.0 in
    let m = c.requires.v in let s = c.self.inside.lanes.ok.0 in omega (arith, m, s, e)

-- the place of the clock, in the vector
place : (c : goal.After-len) → c.args.u * c.len.result + c.index.result.now < length c.self.inside.clocks.items
place c = place-kept c.args.self.now c.self.inside.counts.items c.self.inside.lanes.items c.self.inside.edges.items c.self.inside.spare c.self.inside.clocks.items c.self.inside.heads.items c.self.inside.older.items
    c.args.u c.args.v c.index.result.now c.len.result c.self.view_is c.self.invariant.0 c.requires.u c.requires.v c.index.ensures (c.len.ensures ∙ c.self.inside.counts.ok.0)

pub overflow_mul-u : goal.overflow_mul-u
overflow_mul-u c = let m = place c in let s = c.self.inside.clocks.ok in omega (arith, m, s)

pub overflow_add-u : goal.overflow_add-u
overflow_add-u c = let m = place c in let s = c.self.inside.clocks.ok in omega (arith, m, s)

pub index-requires-2 : goal.index-requires-2
index-requires-2 c = let m = place c in let s = c.self.inside.clocks.ok in omega (arith, m, s)

pub returns : goal.returns
returns c =
    let e = nodes-kept c.args.self.now c.self.inside.counts.items c.self.inside.lanes.items c.self.inside.edges.items c.self.inside.spare c.self.inside.clocks.items c.self.inside.heads.items c.self.inside.older.items
    c.self.view_is c.self.invariant.0 in
    let t = c.len.ensures ∙ c.self.inside.counts.ok.0 in
    leads-kept c.args.self.now c.self.inside.counts.items c.self.inside.lanes.items c.self.inside.edges.items c.self.inside.spare c.self.inside.clocks.items c.self.inside.heads.items c.self.inside.older.items
    c.args.u c.args.v c.index.result.now c.index-2.result.now c.self.view_is c.self.invariant.0 (let m = c.requires.u in omega (arith, m, e)) (let m = c.requires.v in omega (arith, m, e))
    c.index.ensures (subst (λ (n : ℕ). c.index-2.result.now ≡ get_or c.self.inside.clocks.items (c.args.u * n + c.index.result.now) c.index-2.result.now) t c.index-2.ensures)
