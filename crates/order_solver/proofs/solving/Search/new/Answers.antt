use Rattle.order_solver.proofs.OfOrders.{rivals_of}
use Rattle.order_solver.proofs.solving.Search.new.Goals as goal

pub prepare-requires : goal.prepare-requires
prepare-requires c = rivals_of c.args.problem.now c.events-events.ensures.rules
