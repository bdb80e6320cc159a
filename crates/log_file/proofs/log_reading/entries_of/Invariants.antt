use Rattle.std.proofs.Common.{◌≡◌, ◌-◌, length}
use Rattle.log_file.specs.Rows.{rows_after}
use Rattle.log_file.specs.Seen.{IsKept}
use Rattle.log_file.specs.LogReading.{next_entry, entries_at}
use Rattle.log_file.proofs.log_reading.entries_of.Given as goal

abbrev pub invariant-loop-i : goal.invariant-loop-i
invariant-loop-i l = record {
  read : rows_after (next_entry l.words l.steps l.own l.bytes l.at) l.seen.entries.items (l.count - l.i) ≡ entries_at l.words l.steps l.own l.bytes l.at l.count;
  count : length l.seen.entries.items ≡ l.i;
  kept : IsKept l.seen;
  words : length l.seen.ends.items ≡ l.words;
}
