use Rattle.std.proofs.Common.{◌≡◌, ◌-◌, length}
use Rattle.log_file.specs.Rows.{rows_after}
use Rattle.log_file.specs.LogReading.{next_last, last_tags_in}
use Rattle.log_file.proofs.log_reading.last_tags_of.Given as goal

abbrev pub invariant-loop-word : goal.invariant-loop-word
invariant-loop-word l = record {
  read : rows_after (next_last l.steps l.bytes l.at) l.last_tags.items (l.words - l.word) ≡ last_tags_in l.steps l.bytes l.at l.words;
  count : length l.last_tags.items ≡ l.word;
}
