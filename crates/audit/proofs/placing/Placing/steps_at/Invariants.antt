use Rattle.std.proofs.Common.{◌≡◌, map, take}
use Rattle.audit.specs.Positions.{placed_at}
use Rattle.audit.specs.Tables.{runs_in}
use Rattle.audit.proofs.placing.Placing.steps_at.Given as goal

abbrev pub invariant-loop-position : goal.invariant-loop-position
invariant-loop-position l = l.order.items ≡ map (placed_at l.fn.self.log (runs_in l.fn.self)) (take l.position-index l.line)
