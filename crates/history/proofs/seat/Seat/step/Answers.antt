use Rattle.std.proofs.Common.{List, ◌++◌, ◌∷◌, [], ◌∙◌, ap}
use Rattle.replay_model.specs.declared.Access.{Access}
use Rattle.history.proofs.Seats.{seat-took}
use Rattle.history.proofs.seat.Seat.step.Goals as goal

pub returns-in-Took-clause-ok : goal.returns-in-Took-clause-ok
returns-in-Took-clause-ok c = λ steps is ready.
    seat-took c.args.on.now.program.now c.args.on.now.limits.now c.args.on.now.inputs.now c.args.self.now.thread.core.thread steps c.args.words.now c.step.new.words c.args.self.now c.step.new.self c.in_ok-step.field-0 c.push_reserved.new.self
    is (c.in_ok-step.ensures.ok steps is.runs ready) c.in-Took.step c.in-Took.want c.in-Took.found c.access_of-access.result c.in-Took.is c.access_of-access.ensures
    (c.push_reserved.ensures.items ∙ ap (λ (l : List Access). l ++ c.access_of-access.result ∷ []) c.reserve.ensures.items)
