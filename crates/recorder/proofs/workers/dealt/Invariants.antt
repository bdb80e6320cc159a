use Rattle.std.proofs.Common.{◌≡◌, map}
use Rattle.recorder.specs.Gathered.{thread_of_hand}
use Rattle.recorder.specs.Grouped.{hands_in, shares}
use Rattle.recorder.proofs.workers.dealt.Given as goal

abbrev pub invariant-loop-hand : goal.invariant-loop-hand
invariant-loop-hand l = map hands_in l.groups.items ≡ shares thread_of_hand l.workers l.yielded
