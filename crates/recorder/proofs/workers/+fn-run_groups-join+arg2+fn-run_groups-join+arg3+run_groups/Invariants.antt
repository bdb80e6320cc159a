use Rattle.std.proofs.Common.{vec_len}
use Rattle.recorder.proofs.workers.+fn-run_groups-join+arg2+fn-run_groups-join+arg3+run_groups.Given as goal

abbrev pub decreases-join+arg2 : goal.decreases-join+arg2
decreases-join+arg2 g l = vec_len l.groups

abbrev pub decreases-join+arg3 : goal.decreases-join+arg3
decreases-join+arg3 g l = vec_len l.others

abbrev pub decreases-run_groups : goal.decreases-run_groups
decreases-run_groups g l = vec_len l.groups
