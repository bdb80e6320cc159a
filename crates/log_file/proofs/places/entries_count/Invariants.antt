use Rattle.std.proofs.Common.{◌≡◌, ◌*◌, ◌≤◌, take}
use Rattle.log_file.specs.LogReading.{header_entries}
use Rattle.log_file.proofs.places.entries_count.Given as goal

abbrev pub invariant-loop-header : goal.invariant-loop-header
invariant-loop-header l = record {
  value : l.count ≡ header_entries (take l.header-index l.headers);
  most : l.count ≤ 16384 * l.header-index;
}
