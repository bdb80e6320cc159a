use Rattle.recorder.proofs.Runners.{ready-for}
use Rattle.recorder.proofs.hand_words.HandWordsStepWords.take.Goals as goal

pub take_step-requires-clause-ready : goal.take_step-requires-clause-ready
take_step-requires-clause-ready c = ready-for c.args.self.now c.requires.0 c.args._event c.requires.1 c.requires.2 c.args.want.now c.requires.3
