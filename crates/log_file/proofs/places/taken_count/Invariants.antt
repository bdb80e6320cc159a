use Rattle.std.proofs.Common.{◌≡◌, ◌*◌, ◌≤◌, take}
use Rattle.log_file.specs.LogReading.{header_taken}
use Rattle.log_file.proofs.places.taken_count.Given as goal

abbrev pub invariant-loop-header : goal.invariant-loop-header
invariant-loop-header l = record {
  value : l.count ≡ header_taken (take l.header-index l.headers);
  most : l.count ≤ 65536 * l.header-index;
}
