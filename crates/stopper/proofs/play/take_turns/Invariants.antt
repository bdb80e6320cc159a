use Rattle.std.proofs.Common.{take}
use Rattle.stopper.specs.Plays.{TurnsTaken}
use Rattle.stopper.proofs.play.take_turns.Given as goal

abbrev pub invariant-loop-event : goal.invariant-loop-event
invariant-loop-event l = TurnsTaken l.plan.program.now l.plan.log.now l.plan.numbers.now (take l.event-index l.order) l.fn.words l.fn.seats.items l.words l.seats.items
