use Rattle.std.proofs.Common.{arith}
use Rattle.constraints.proofs.Points.{starts_rise}
use Rattle.constraints.proofs.events.thread_counts.Goals as goal

pub overflow_sub-thread_start : goal.overflow_sub-thread_start
overflow_sub-thread_start c = let r = starts_rise c.args.events.now c.loop-t.t in omega (arith, r, c.thread_start.ensures, c.thread_start-in-loop-t.ensures)
