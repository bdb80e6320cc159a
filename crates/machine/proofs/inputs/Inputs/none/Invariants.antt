use Rattle.std.proofs.Common.{◌≡◌, [], replicate}
use Rattle.machine.specs.Inputs.{input_lists}
use Rattle.machine.proofs.inputs.Inputs.none.Given as goal

abbrev pub invariant-loop : goal.invariant-loop
invariant-loop l = input_lists l.lists.items ≡ replicate l.counter []
