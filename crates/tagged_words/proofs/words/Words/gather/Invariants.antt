use Rattle.std.proofs.Common.{◌≡◌, List, ◌++◌, vec_len}
use Rattle.std.specs.Prelude.{All}
use Rattle.tagged_words.specs.Views.{Progress}
use Rattle.tagged_words.specs.Rule.{HasPart}
use Rattle.tagged_words.specs.Hands.{IsOf}
use Rattle.tagged_words.proofs.words.Words.gather.Given as goal

abbrev pub invariant-loop-hand : goal.invariant-loop-hand
invariant-loop-hand l = record {
  own : l.seat.table_id ≡ l.self.table;
  rest : All (IsOf l.self) l.hands.items;
  gathered : (done : List Progress) × (l.fn.hands.items ≡ l.hands.items ++ done) × All (HasPart l.seat.me.0) done;
}

abbrev pub decreases-loop-hand : goal.decreases-loop-hand
decreases-loop-hand l = vec_len l.hands
