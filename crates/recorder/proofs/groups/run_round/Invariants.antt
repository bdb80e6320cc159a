use Rattle.recorder.proofs.Rounds.{IsInRound}
use Rattle.recorder.proofs.groups.run_round.Given as goal

abbrev pub invariant-loop-k : goal.invariant-loop-k
invariant-loop-k g l = IsInRound l.slice l.fn.runners.items l.runners.items l.k l.left
