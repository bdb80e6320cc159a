use Rattle.schedule_guess.proofs.links.Links.restore.Given as goal

abbrev pub decreases-loop-self : goal.decreases-loop-self
decreases-loop-self l = goal.left-loop-self l
