use Rattle.std.proofs.Common.{arith, sym, ◌∙◌}
use Rattle.assembler.specs.SeenProgress.{progress_of}
use Rattle.assembler.proofs.Steps.{value_set}
use Rattle.assembler.proofs.assembly.Assembly.take_init.Goals as goal

pub returns-else-value-gt4294967295 : goal.returns-else-value-gt4294967295
returns-else-value-gt4294967295 c =
    value_set 18446744073709551615 (progress_of c.args.self.now) _ c.in-Some.word c.in-Some.value (sym c.in-Some.is ∙ c.two_numbers.ensures) (omega arith) (omega arith) (omega arith) (omega arith)
