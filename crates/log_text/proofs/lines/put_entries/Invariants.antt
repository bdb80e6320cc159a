use Rattle.std.proofs.Common.{◌≡◌, ◌++◌, drop}
use Rattle.std.specs.List.{flat_map}
use Rattle.log_text.specs.ShowTexts.{entry_line}
use Rattle.log_text.proofs.lines.put_entries.Given as goal

abbrev pub invariant-loop-entry : goal.invariant-loop-entry
invariant-loop-entry l = l.initial.text.items ++ flat_map entry_line l.entries ≡ l.text.items ++ flat_map entry_line (drop l.entry-index l.entries)
