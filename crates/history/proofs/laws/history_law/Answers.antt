use Rattle.history.proofs.Whole.{turns-whole, rounds-whole}
use Rattle.history.proofs.laws.history_law.Goals as goal

pub returns : goal.returns
returns c = record { rounds = λ p limits inputs. rounds-whole p limits inputs; follow = λ p limits inputs order. turns-whole p limits inputs order }
