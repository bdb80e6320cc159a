use Rattle.std.proofs.Common.{◌≤◌, length, take}
use Rattle.order_graph.specs.Links.{AreLinked}
use Rattle.order_graph.proofs.links.unlink.Given as goal

abbrev pub invariant-loop-at : goal.invariant-loop-at
invariant-loop-at l = record {
  low : l.mark ≤ l.at;
  high : l.at ≤ length l.edges.items;
  linked : AreLinked (length l.fn.heads.items) (take l.at l.edges.items) l.heads.items (take l.at l.older.items);
}

abbrev pub decreases-loop-at : goal.decreases-loop-at
decreases-loop-at l = l.at
