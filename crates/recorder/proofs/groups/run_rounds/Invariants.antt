use Rattle.recorder.specs.Grouped.{AreSame, RanInRounds, steps_left}
use Rattle.recorder.proofs.groups.run_rounds.Given as goal

abbrev pub invariant-loop : goal.invariant-loop
invariant-loop g l = record { same : AreSame l.fn.runners.items l.runners.items; rounds : RanInRounds l.slice l.fn.runners.items l.runners.items }

abbrev pub decreases-loop : goal.decreases-loop
decreases-loop g l = steps_left l.runners.items
