use Rattle.std.proofs.Common.{◌≡◌, ◌-◌, length}
use Rattle.std.specs.Prelude.{All}
use Rattle.log_file.specs.Rows.{rows_after}
use Rattle.log_file.specs.LogReading.{IsSmall, next_header, headers_in}
use Rattle.log_file.proofs.heads.headers_of.Given as goal

abbrev pub invariant-loop-thread : goal.invariant-loop-thread
invariant-loop-thread l = record {
  read : rows_after (next_header l.version l.head l.bytes) l.headers.items (l.head.threads - l.thread) ≡ headers_in l.version l.head l.bytes;
  count : length l.headers.items ≡ l.thread;
  small : All IsSmall l.headers.items;
}
