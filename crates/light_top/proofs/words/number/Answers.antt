use Rattle.std.proofs.Common.{◌≡◌, true, false, sym, ap, ◌∙◌}
use Rattle.light_top.specs.Words.{is_plain, number_of}
use Rattle.light_top.proofs.Numbers.{not_plain, parsed, not_parsed, number_of-decimal, above}
use Rattle.light_top.proofs.words.number.Goals as goal

pub returns-then-not-is_plain : goal.returns-then-not-is_plain
returns-then-not-is_plain c =
    let e : is_plain c.args.word.now ≡ false = sym (c.if-not-is_plain.ensures ∙ ap is_plain c.as_bytes.ensures.value) in
    sym (not_plain c.args.most c.args.word.now c.ranges.most.fits e)

pub returns-then-n-most : goal.returns-then-n-most
returns-then-n-most c =
    let e : is_plain c.args.word.now ≡ true = sym (c.if-not-is_plain.ensures ∙ ap is_plain c.as_bytes.ensures.value) in
    let p = parsed c.args.word.now c.parse.result c.in-Ok.n e c.parse.ensures.value.0 c.in-Ok.is in
    sym (ap (number_of c.args.most) p.0 ∙ number_of-decimal c.args.most c.in-Ok.n c.if-n-most.true c.ranges.most.fits)

pub returns-else-n-most : goal.returns-else-n-most
returns-else-n-most c =
    let e : is_plain c.args.word.now ≡ true = sym (c.if-not-is_plain.ensures ∙ ap is_plain c.as_bytes.ensures.value) in
    let p = parsed c.args.word.now c.parse.result c.in-Ok.n e c.parse.ensures.value.0 c.in-Ok.is in
    sym (above c.args.most c.args.word.now c.in-Ok.n p.0 p.1 c.if-n-most.false)

pub returns-in-Err : goal.returns-in-Err
returns-in-Err c =
    let e : is_plain c.args.word.now ≡ true = sym (c.if-not-is_plain.ensures ∙ ap is_plain c.as_bytes.ensures.value) in
    sym (not_parsed c.args.most c.args.word.now c.parse.result _ c.ranges.most.fits e c.parse.ensures.value.0 c.in-Err.is)
