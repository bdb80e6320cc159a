use Rattle.std.proofs.Common.{◌≡◌, Ok, sym, subst}
use Rattle.machine.specs.InputTexts.{inputs_read}
use Rattle.machine.proofs.InputLaws.{inputs_take, inputs_again}
use Rattle.machine.proofs.input_reading.inputs_law.Goals as goal

pub returns : goal.returns
returns c bytes inputs are = (inputs_take bytes inputs are, λ is. subst (λ spelled. inputs_read spelled ≡ Ok inputs) (sym is.spelled) (inputs_again inputs is.rules is.numbers))
