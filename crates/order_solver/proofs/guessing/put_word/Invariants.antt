use Rattle.std.proofs.Common.{◌≡◌, ◌++◌, take}
use Rattle.std.specs.List.{flat_map}
use Rattle.order_solver.specs.Readings.{reads_of}
use Rattle.order_solver.proofs.guessing.put_word.Given as goal

abbrev pub invariant-loop-i : goal.invariant-loop-i
invariant-loop-i g l = l.reads.items ≡ l.initial.reads.items ++ flat_map (λ s. reads_of l.word s ((g.R.Rivals.rivalry l.rivals).last_reads l.word s)) (take l.i l.source-items)
