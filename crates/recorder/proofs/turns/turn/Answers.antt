use Rattle.history.proofs.Turns.{step-turn}
use Rattle.recorder.proofs.turns.turn.Goals as goal

pub returns-in-Ok : goal.returns-in-Ok
returns-in-Ok c = step-turn c.args.plain.now c.args.thread c.in-Ok.field-0 c.step.new.self c.in-Ok.ensures.ok
