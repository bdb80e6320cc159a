use Rattle.std.proofs.Common.{◌≡◌, length}
use Rattle.cut_laws.specs.Searches.{IsSearched}
use Rattle.stopper.proofs.Searching.{entries_left}
use Rattle.stopper.proofs.cut.cut_of.Given as goal

abbrev pub invariant-loop-next : goal.invariant-loop-next
invariant-loop-next l = record {
  searched : IsSearched l.log l.thread l.step l.numbers.items l.nexts.items;
  counted : length l.nexts.items ≡ length l.log.threads;
}

abbrev pub decreases-loop-next : goal.decreases-loop-next
decreases-loop-next l = entries_left l.log.threads l.nexts.items
