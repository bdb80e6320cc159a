use Rattle.std.proofs.Common.{◌≡◌, ◌++◌, take}
use Rattle.order_solver.specs.Readings.{reads_of}
use Rattle.order_solver.proofs.guessing.put_last_reads.Given as goal

abbrev pub invariant-loop-last : goal.invariant-loop-last
invariant-loop-last l = l.reads.items ≡ l.initial.reads.items ++ reads_of l.word l.source (take l.last-index l.last_reads)
