use Rattle.std.proofs.Common.{◌≡◌, ◌+◌, ◌-◌, ◌*◌, length, drop}
use Rattle.log_file.specs.Rows.{rows_after}
use Rattle.log_file.specs.Spelling.{entry_count, taken_count}
use Rattle.log_file.specs.LogReading.{next_thread, threads_in, header_entries, header_taken}
use Rattle.log_file.proofs.log_reading.threads_of.Given as goal

abbrev pub invariant-loop-header : goal.invariant-loop-header
invariant-loop-header l = record {
  read : rows_after (next_thread l.words l.headers l.bytes l.entries_place l.taken_place) l.threads.items (length l.headers - l.header-index) ≡ threads_in l.words l.headers l.bytes l.entries_place l.taken_place;
  count : length l.threads.items ≡ l.header-index;
  at : l.at ≡ l.entries_place + 14 * entry_count l.threads.items;
  from : l.from ≡ l.taken_place + 4 * taken_count l.threads.items;
  entries_left : l.at + 14 * header_entries (drop l.header-index l.headers) ≡ l.entries_place + 14 * header_entries l.headers;
  taken_left : l.from + 4 * header_taken (drop l.header-index l.headers) ≡ l.taken_place + 4 * header_taken l.headers;
}
