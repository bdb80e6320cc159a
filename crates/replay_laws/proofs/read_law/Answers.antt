use Rattle.replay_laws.proofs.read_law.Goals as goal
use Rattle.replay_model.proofs.MoreReads.{thread_log-push, thread_log-quiet}

pub returns-clause-read : goal.returns-clause-read
returns-clause-read c = thread_log-push

pub returns-clause-write : goal.returns-clause-write
returns-clause-write c = thread_log-quiet
