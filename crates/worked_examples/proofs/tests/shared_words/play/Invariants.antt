use Rattle.std.proofs.Common.{◌≡◌, ◌*◌, length}
use Rattle.worked_examples.proofs.tests.shared_words.play.Given as goal

abbrev pub invariant-loop-round : goal.invariant-loop-round
invariant-loop-round l = record {
  own : l.hand.words ≡ l.words;
  thread : l.hand.thread ≡ l.fn.hand.thread;
  count : length l.hand.steps ≡ 5 * l.round;
}
