use Rattle.std.proofs.Common.{◌≡◌, ◌*◌, ◌≤◌, true, sum, take}
use Rattle.std.specs.List.{list_all}
use Rattle.machine.specs.Faults.{is_short_length}
use Rattle.machine.proofs.image.total_of.Given as goal

abbrev pub invariant-loop-len : goal.invariant-loop-len
invariant-loop-len l = record {
  total : l.total ≡ sum (take l.len-index l.lengths);
  short : list_all is_short_length (take l.len-index l.lengths) ≡ true;
  most : l.total ≤ 4096 * l.len-index;
}
