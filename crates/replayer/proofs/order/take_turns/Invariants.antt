use Rattle.std.proofs.Common.{take}
use Rattle.replayer.specs.Replays.{IsBy}
use Rattle.replayer.proofs.order.take_turns.Given as goal

abbrev pub invariant-loop-event : goal.invariant-loop-event
invariant-loop-event l = IsBy l.program l.fn.replay.log (take l.event-index l.order) l.replay
