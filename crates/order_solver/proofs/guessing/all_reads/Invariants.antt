use Rattle.std.proofs.Common.{◌≡◌}
use Rattle.order_solver.specs.Readings.{reads_up_to}
use Rattle.order_solver.proofs.guessing.all_reads.Given as goal

abbrev pub invariant-loop-word : goal.invariant-loop-word
invariant-loop-word g l = l.reads.items ≡ reads_up_to (g.R.Rivals.rivalry l.rivals) l.word
