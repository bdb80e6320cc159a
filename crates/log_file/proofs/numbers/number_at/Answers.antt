use Rattle.std.proofs.Common.{sym, ◌∙◌}
use Rattle.std.specs.Int.{w32}
use Rattle.light_base.proofs.Numbers.{big_endian_at-within}
use Rattle.log_file.proofs.numbers.number_at.Goals as goal

pub returns : goal.returns
returns c = sym (big_endian_at-within w32 c.args.bytes.now c.args.at c.unwrap.result (sym c.u32_at.ensures.value ∙ c.unwrap.ensures)).1
