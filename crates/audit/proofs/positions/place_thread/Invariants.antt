use Rattle.std.proofs.Common.{◌≡◌, ◌++◌, take, map}
use Rattle.constraints.specs.Building.{placed_in}
use Rattle.audit.proofs.positions.place_thread.Given as goal

abbrev pub invariant-loop-entry : goal.invariant-loop-entry
invariant-loop-entry l = l.placed.items ≡ l.fn.placed.items ++ map (placed_in l.steps l.thread) (take l.entry-index l.entries)
