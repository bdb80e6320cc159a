use Rattle.tagged_words.proofs.Hands.{all_there}
use Rattle.worked_examples.proofs.tests.shared_words.closed.Goals as goal

pub close-requires-clause-all : goal.close-requires-clause-all
close-requires-clause-all c = all_there c.args.words c.args.hands.items c.requires.count c.requires.each
