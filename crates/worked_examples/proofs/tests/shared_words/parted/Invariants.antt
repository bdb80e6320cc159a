use Rattle.std.proofs.Common.{◌≡◌, map}
use Rattle.worked_examples.proofs.tests.shared_words.parted.Given as goal

abbrev pub invariant-loop-one : goal.invariant-loop-one
invariant-loop-one l = l.hands.items ≡ map (λ p. p.hand) l.yielded
