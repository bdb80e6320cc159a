use Rattle.replay_laws.proofs.bridge_law.Goals as goal
use Rattle.replay_laws.proofs.Bridge.{word_steps_played}

pub returns : goal.returns
returns c = word_steps_played
