use Rattle.std.proofs.Common.{refl}
use Rattle.races.specs.Shut.{base_edges, IsBase}
use Rattle.races.proofs.Opened.{cyclic-open, none-cyclic}
use Rattle.races.proofs.open.open_pairs.Goals as goal

pub returns-in-None : goal.returns-in-None
returns-in-None c = cyclic-open c.args.problem.now c.args.most _ (none-cyclic (base_edges c.args.problem.now) (IsBase c.args.problem.now) c.in_ok-graph.field-0 c.in_ok-graph.ensures c.in-None.is)
    c.pair_total-pairs.ensures refl refl refl c.new.ensures.items
