use Rattle.std.proofs.Common.{◌≡◌, ◌++◌, ◌*◌, ◌≤◌, drop, length, sum}
use Rattle.machine.specs.Inputs.{input_lists}
use Rattle.machine.specs.InputTexts.{lists_at}
use Rattle.machine.proofs.input_reading.lists_of.Given as goal

abbrev pub invariant-loop-count : goal.invariant-loop-count
invariant-loop-count l = record {
  read : input_lists l.lists.items ++ lists_at (drop l.count-index l.counts) l.rest ≡ lists_at l.counts l.fn.bytes;
  there : 4 * sum (drop l.count-index l.counts) ≤ length l.rest;
}
