use Rattle.audit.proofs.Rowing.{rows-are}
use Rattle.audit.proofs.rows.rows_of.Goals as goal

pub returns : goal.returns
returns c = rows-are c.args.count c.args.marks.now c.in_ok-rows.rows.items c.fill.new.rows.items c.order_all.new.rows.items c.in_ok-rows.ensures c.in_ok-fill.ensures c.order_all.ensures
