use Rattle.history.proofs.Turns.{IsInRound}
use Rattle.history.proofs.plain.Plain.round.Given as goal

abbrev pub invariant-loop-thread : goal.invariant-loop-thread
invariant-loop-thread l = IsInRound l.initial.self l.thread l.went l.self
