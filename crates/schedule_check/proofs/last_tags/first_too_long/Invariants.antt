use Rattle.std.proofs.Common.{MatchOption}
use Rattle.schedule_check.specs.Ranks.{IsFirstTooLong, NoneIsTooLong}
use Rattle.schedule_check.proofs.last_tags.first_too_long.Given as goal

abbrev pub invariant-loop-i : goal.invariant-loop-i
invariant-loop-i l = MatchOption l.found (NoneIsTooLong l.ranges l.ends l.i) (λ p. IsFirstTooLong l.ranges l.ends l.i p.0 p.1)
