use Rattle.std.proofs.Common.{◌≡◌, length}
use Rattle.constraints.specs.Constraints.{sources_of}
use Rattle.races.specs.Tables.{AreEnds}
use Rattle.races.proofs.table.ends_of.Given as goal

abbrev pub invariant-loop-place : goal.invariant-loop-place
invariant-loop-place l = record {
  end : l.place-end ≡ length (sources_of l.problem l.word);
  ends : AreEnds l.problem l.word (length l.problem.threads) l.place l.ends.items;
}
