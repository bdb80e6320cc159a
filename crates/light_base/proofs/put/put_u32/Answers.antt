use Rattle.std.proofs.Common.{◌++◌, List, ℕ, length, ap, ◌∙◌}
use Rattle.std.specs.Int.{w32}
use Rattle.light_base.specs.Numbers.{big_endian_at}
use Rattle.light_base.proofs.Appended.{big_endian_at-appended_4}
use Rattle.light_base.proofs.put.put_u32.Goals as goal

pub returns-clause-read : goal.returns-clause-read
returns-clause-read c =
    let front = c.args.out.now.items in
    ap (λ (bytes : List ℕ). big_endian_at w32 bytes (length front)) (c.in_ok-extend_from_slice.ensures.items ∙ ap (λ (bytes : List ℕ). front ++ bytes) c.to_be_bytes.ensures)
    ∙ big_endian_at-appended_4 front c.args.n c.ranges.n.fits
