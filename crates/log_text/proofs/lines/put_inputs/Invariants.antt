use Rattle.std.proofs.Common.{◌≡◌, ◌++◌, drop}
use Rattle.std.specs.List.{flat_map}
use Rattle.log_text.specs.ShowTexts.{input_line}
use Rattle.log_text.proofs.lines.put_inputs.Given as goal

abbrev pub invariant-loop-value : goal.invariant-loop-value
invariant-loop-value l = l.initial.text.items ++ flat_map input_line l.taken ≡ l.text.items ++ flat_map input_line (drop l.value-index l.taken)
