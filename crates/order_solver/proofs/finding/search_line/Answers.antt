use Rattle.order_solver.proofs.Lines.{explored-found, found-line}
use Rattle.order_solver.proofs.finding.search_line.Goals as goal

pub returns-in-Found-clause-finds : goal.returns-in-Found-clause-finds
returns-in-Found-clause-finds g c =
    let r = g.R.Rivals.rivalry c.args.rivals.now in
    let k = explored-found r c.args.budget c.in_ok-explore.field-0 c.explore.new.graph c.in_ok-explore.ensures.explored c.in-Found.is in
    found-line r c.explore.new.graph c.fill_order.new.out.items k.0 k.1 c.fill_order.ensures.order c.ends_law.ensures
