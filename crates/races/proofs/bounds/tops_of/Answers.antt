use Rattle.std.proofs.Common.{refl, arith}
use Rattle.races.proofs.Chained.{tops-none, tops-more, tops-done, block-within}
use Rattle.races.proofs.bounds.tops_of.Goals as goal

pub loop-block-init : goal.loop-block-init
loop-block-init c = tops-none c.args.width c.args.starts.now c.args.numbers.now c.in_ok-tops.tops.items c.in_ok-tops.ensures.items

pub raise-requires-clause-to : goal.raise-requires-clause-to
raise-requires-clause-to c =
    let r = c.requires.rows in
    let b = block-within c.args.width r.0 c.loop-block.block c.args.starts.now c.args.numbers.now r.2 r.3 c.loop-block-test.true in
    let s = c.loop-block.invariant.size in
    omega (arith, b, s)

pub loop-block-preserved : goal.loop-block-preserved
loop-block-preserved c =
    let r = c.requires.rows in
    tops-more c.args.width r.0 c.loop-block.block _ c.args.starts.now c.args.numbers.now c.loop-block.tops.items c.raise.new.tops.items r.2 c.loop-block-test.true refl
    record { size = c.raise.ensures.length; least = c.raise.ensures.least; rise = c.raise.ensures.rise; before = c.raise.ensures.before } c.loop-block.invariant

pub returns : goal.returns
returns c =
    let z = c.loop-block-test.false in
    let y = c.loop-block.auto.block-end in
    tops-done c.args.width c.args.starts.now c.args.numbers.now c.loop-block.tops.items c.loop-block.block (omega (arith, z, y)) c.loop-block.invariant
