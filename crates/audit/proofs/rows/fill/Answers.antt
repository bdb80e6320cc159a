use Rattle.audit.proofs.Rowing.{filled-none}
use Rattle.audit.proofs.rows.fill.Goals as goal

pub loop-mark-init : goal.loop-mark-init
loop-mark-init c = filled-none c.args.rows.now.items
