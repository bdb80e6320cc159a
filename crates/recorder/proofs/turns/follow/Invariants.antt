use Rattle.std.proofs.Common.{◌≡◌, take}
use Rattle.history.specs.Played.{after_turns}
use Rattle.recorder.proofs.turns.follow.Given as goal

abbrev pub invariant-loop-thread : goal.invariant-loop-thread
invariant-loop-thread l = l.plain ≡ after_turns l.fn.plain (take l.thread-index l.order)
