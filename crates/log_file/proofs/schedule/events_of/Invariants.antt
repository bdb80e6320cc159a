use Rattle.std.proofs.Common.{◌≡◌, ◌-◌, length}
use Rattle.log_file.specs.Rows.{rows_after}
use Rattle.log_file.specs.Schedules.{next_event, events_in}
use Rattle.log_file.proofs.schedule.events_of.Given as goal

abbrev pub invariant-loop-place : goal.invariant-loop-place
invariant-loop-place l = record {
  read : rows_after (next_event l.bytes) l.events.items (l.count - l.place) ≡ events_in l.bytes l.count;
  count : length l.events.items ≡ l.place;
}
