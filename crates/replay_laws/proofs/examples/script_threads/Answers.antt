use Rattle.replay_laws.proofs.examples.script_threads.Goals as goal
use Rattle.replay_laws.proofs.Scripts as Worked

pub returns : goal.returns
returns c = Worked.scripts_meet
