use Rattle.std.proofs.Common.{◌≡◌, ◌++◌, drop}
use Rattle.log_text.specs.ShowTexts.{last_lines}
use Rattle.log_text.proofs.lines.put_last_tags.Given as goal

abbrev pub invariant-loop-word : goal.invariant-loop-word
invariant-loop-word l = l.initial.text.items ++ last_lines 0 l.last_tags ≡ l.text.items ++ last_lines l.word (drop l.word l.last_tags)
