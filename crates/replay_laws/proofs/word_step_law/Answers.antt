use Rattle.replay_laws.proofs.word_step_law.Goals as goal
use Rattle.std.specs.Prelude.{[]}
use Rattle.replay_model.proofs.WordSteps.{Folds-push, part_push, part_push_other}

pub returns-clause-folds : goal.returns-clause-folds
returns-clause-folds c list first last e folds n f = Folds-push list [] first last e folds n f

pub returns-clause-part : goal.returns-clause-part
returns-clause-part c list e = (part_push e list, λ t n. part_push_other t e list n)
