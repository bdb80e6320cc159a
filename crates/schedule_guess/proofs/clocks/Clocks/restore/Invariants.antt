use Rattle.schedule_guess.proofs.clocks.Clocks.restore.Given as goal

abbrev pub decreases-loop-old : goal.decreases-loop-old
decreases-loop-old l = goal.left-loop-old l
