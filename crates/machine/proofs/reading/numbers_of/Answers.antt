use Rattle.std.proofs.Common.{◌≡◌, ◌*◌, sym, ◌∙◌, arith, rules}
use Rattle.machine.specs.Reading.{numbers_at}
use Rattle.std.specs.Int.{w32}
use Rattle.machine.proofs.ImageHead.{numbers_push}
use Rattle.machine.proofs.reading.numbers_of.Goals as goal

pub loop-i-init : goal.loop-i-init
unfolding numbers_at
loop-i-init c = search rules

pub loop-i-preserved : goal.loop-i-preserved
loop-i-preserved c =
    let place : 4 * c.loop-i.i ≡ c.loop-i.i * 4 = omega arith in
    numbers_push w32 c.loop-i.i (4 * c.loop-i.i) c.args.bytes.now c.loop-i.numbers.items c.push.new.self.items c.unwrap.result place (sym c.u32_at.ensures.value ∙ c.unwrap.ensures) c.loop-i.invariant c.in_ok-push.ensures.items
