use Rattle.std.proofs.Common.{◌≡◌, ◌-◌, map}
use Rattle.std.specs.List.{range_with_len}
use Rattle.tagged_words.specs.Rule.{seat_of}
use Rattle.tagged_words.specs.Hands.{new_hand}
use Rattle.tagged_words.proofs.words.Words.deal.Given as goal

abbrev pub invariant-loop-thread : goal.invariant-loop-thread
invariant-loop-thread l = record {
  own : l.seat.table_id ≡ l.self.table;
  rest : l.seat.me ≡ seat_of l.self.start l.thread (l.threads - l.thread);
  dealt : l.hands.items ≡ map (new_hand l.self) (range_with_len 0 l.thread);
}
