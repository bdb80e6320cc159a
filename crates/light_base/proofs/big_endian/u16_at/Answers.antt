use Rattle.std.proofs.Common.{Some, sym, ap, ◌∙◌}
use Rattle.std.specs.Int.{w16, from_be_bytes}
use Rattle.light_base.proofs.Numbers.{big_endian_at-there, big_endian_at-short, big_number_2}
use Rattle.light_base.proofs.big_endian.u16_at.Goals as goal

pub returns-in_err-field_at-clause-value : goal.returns-in_err-field_at-clause-value
returns-in_err-field_at-clause-value c =
    c.from_residual.ensures ∙ sym (big_endian_at-short w16 c.args.bytes.now c.args.at c.in_err-field_at.ensures)

pub returns-clause-value : goal.returns-clause-value
returns-clause-value c =
    let field = c.in_ok-field_at.ensures in
    ap Some (c.read_u16.ensures ∙ big_number_2 c.in_ok-field_at.field-0.now ∙ ap (from_be_bytes w16) field.1)
    ∙ sym (big_endian_at-there w16 c.args.bytes.now c.args.at field.0)
