use Rattle.std.proofs.Common.{◌≡◌}
use Rattle.worked_examples.proofs.tests.replays.answer_by_turns.Given as goal

abbrev pub invariant-loop-event : goal.invariant-loop-event
invariant-loop-event g l = l.replay.program ≡ l.program
