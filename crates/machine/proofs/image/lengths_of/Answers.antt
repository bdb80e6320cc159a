use Rattle.std.proofs.Common.{◌≡◌, ◌*◌, sym, ◌∙◌, arith, rules}
use Rattle.machine.specs.Reading.{numbers_at}
use Rattle.std.specs.Int.{w16}
use Rattle.machine.proofs.ImageHead.{numbers_push}
use Rattle.machine.proofs.image.lengths_of.Goals as goal

pub loop-i-init : goal.loop-i-init
unfolding numbers_at
loop-i-init c = search rules

pub loop-i-preserved : goal.loop-i-preserved
loop-i-preserved c =
    let place : 2 * c.loop-i.i ≡ c.loop-i.i * 2 = omega arith in
    record {
      read = numbers_push w16 c.loop-i.i (2 * c.loop-i.i) c.args.bytes.now c.loop-i.lengths.items c.push.new.self.items c.unwrap.result place (sym c.u16_at.ensures.value ∙ c.unwrap.ensures) c.loop-i.invariant.read c.in_ok-push.ensures.items;
      count = search rules;
    }
