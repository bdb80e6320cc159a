use Rattle.std.proofs.Common.{ℕ, List, subst}
use Rattle.std.specs.Prelude.{Option, Some}
use Rattle.stopper.specs.declared.stray.Stray.{Stray}
use Rattle.stopper.specs.Strays.{SeatsCompared}
use Rattle.stopper.proofs.stop.answer.Goals as goal

pub returns-in-Some : goal.returns-in-Some
returns-in-Some c =
    let P : List ℕ → Type 0 = λ numbers. SeatsCompared c.args.log.now numbers c.args.seats.now (Some c.in-Some.stray) in
    let Q : Option Stray → Type 0 = λ o. SeatsCompared c.args.log.now c.deref.result.now c.args.seats.now o in
    subst P c.deref.ensures.value (subst Q c.in-Some.is c.in_ok-stray.ensures)
