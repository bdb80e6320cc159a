use Rattle.std.proofs.Common.{◌≡◌, ◌≤◌, ◌+◌, length}
use Rattle.std.specs.Prelude.{vec_capacity}
use Rattle.assembler.specs.Lines.{lines_of}
use Rattle.batch.specs.Jobs.{most_jobs}
use Rattle.light_top.specs.Lists.{pairs_from}
use Rattle.light_top.proofs.Listing.{and_those}
use Rattle.light_top.proofs.list.read_list.Given as goal

abbrev pub invariant-loop-rest : goal.invariant-loop-rest
invariant-loop-rest l = record {
  read : pairs_from 1 (lines_of l.fn.text) ≡ and_those l.pairs.items (pairs_from l.line (lines_of l.rest));
  count : l.line ≡ length l.pairs.items + 1;
  few : l.line ≤ most_jobs + 1;
  room : most_jobs ≤ vec_capacity l.pairs;
}

abbrev pub decreases-loop-rest : goal.decreases-loop-rest
decreases-loop-rest l = length l.rest
