use Rattle.std.proofs.Common.{◌≡◌, ◌*◌, ◌≤◌, true, sum, take}
use Rattle.std.specs.List.{list_all}
use Rattle.machine.specs.Inputs.{is_short_count}
use Rattle.machine.proofs.input_reading.total_of.Given as goal

abbrev pub invariant-loop-count : goal.invariant-loop-count
invariant-loop-count l = record {
  total : l.total ≡ sum (take l.count-index l.counts);
  short : list_all is_short_count (take l.count-index l.counts) ≡ true;
  most : l.total ≤ 65536 * l.count-index;
}
