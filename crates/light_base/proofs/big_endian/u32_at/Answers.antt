use Rattle.std.proofs.Common.{Some, sym, ap, ◌∙◌, arith}
use Rattle.std.specs.Int.{w32, from_be_bytes}
use Rattle.light_base.proofs.Numbers.{big_endian_at-there, big_endian_at-short, big_endian_at-spelled_4, big_number_4}
use Rattle.light_base.proofs.big_endian.u32_at.Goals as goal

pub returns-in_err-field_at-clause-value : goal.returns-in_err-field_at-clause-value
returns-in_err-field_at-clause-value c =
    c.from_residual.ensures ∙ sym (big_endian_at-short w32 c.args.bytes.now c.args.at c.in_err-field_at.ensures)

pub returns-clause-value : goal.returns-clause-value
returns-clause-value c =
    let field = c.in_ok-field_at.ensures in
    ap Some (c.read_u32.ensures ∙ big_number_4 c.in_ok-field_at.field-0.now ∙ ap (from_be_bytes w32) field.1)
    ∙ sym (big_endian_at-there w32 c.args.bytes.now c.args.at field.0)

pub returns-clause-spelled : goal.returns-clause-spelled
returns-clause-spelled c = λ n small.
    let law = big_endian_at-spelled_4 c.args.bytes.now c.args.at n (λ i. omega (arith, c.type_inv.bytes i)) small in
    let value = returns-clause-value c in
    (λ e. law.0 (sym value ∙ e), λ e. value ∙ law.1 e)
