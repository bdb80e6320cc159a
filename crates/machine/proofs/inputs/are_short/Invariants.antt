use Rattle.std.proofs.Common.{◌≡◌, drop}
use Rattle.std.specs.List.{list_all}
use Rattle.machine.specs.Inputs.{input_lists, is_short_list}
use Rattle.machine.proofs.inputs.are_short.Given as goal

abbrev pub invariant-loop-list : goal.invariant-loop-list
invariant-loop-list l = list_all is_short_list (input_lists (drop l.list-index l.threads)) ≡ list_all is_short_list (input_lists l.threads)
