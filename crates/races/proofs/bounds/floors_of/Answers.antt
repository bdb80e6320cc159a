use Rattle.std.proofs.Common.{◌+◌, ℕ, Vec, Global, arith, subst, sym, ap}
use Rattle.races.proofs.Chained.{floors-none, floors-more, floors-same, floors-done, AreFloorsTo}
use Rattle.races.proofs.bounds.floors_of.Goals as goal
use Rattle.races.proofs.bounds.floors_of.Goals.{then-from-to, else-from-to}

pub loop-block-init : goal.loop-block-init
loop-block-init c = floors-none c.args.width c.args.starts.now c.args.numbers.now c.in_ok-floors.floors.items c.in_ok-floors.ensures.items

pub loop-block-preserved : goal.loop-block-preserved
loop-block-preserved c =
    let r = c.requires.rows in
    elim c.if-from-to.branch [
      | then-from-to w ↦ subst (AreFloorsTo c.args.width (c.loop-block.block + 1) c.args.starts.now c.args.numbers.now) (sym (ap (λ (v : Vec ℕ Global). v.items) w.floors-is))
          (floors-more c.args.width r.0 c.loop-block.block c.args.starts.now c.args.numbers.now c.loop-block.floors.items w.lower.new.floors.items r.2 c.loop-block-test.true w.if-from-to.true
          record { size = w.lower.ensures.length; most = w.lower.ensures.most; rise = w.lower.ensures.rise; before = w.lower.ensures.before } c.loop-block.invariant)
      | else-from-to w ↦ subst (AreFloorsTo c.args.width (c.loop-block.block + 1) c.args.starts.now c.args.numbers.now) (sym (ap (λ (v : Vec ℕ Global). v.items) w.floors-is))
          (floors-same c.args.width c.loop-block.block c.args.starts.now c.args.numbers.now c.loop-block.floors.items w.if-from-to.false c.loop-block.invariant)
    ]

pub returns : goal.returns
returns c =
    let z = c.loop-block-test.false in
    let y = c.loop-block.auto.block-end in
    floors-done c.args.width c.args.starts.now c.args.numbers.now c.loop-block.floors.items c.loop-block.block (omega (arith, z, y)) c.loop-block.invariant
