use Rattle.std.proofs.Common.{arith}
use Rattle.stopper.proofs.Strays.{all-from}
use Rattle.stopper.proofs.stray.first_other.Goals as goal

pub returns : goal.returns
returns c = all-from c.args.number c.args.logged.now c.args.seen.now (λ k a b. c.loop-place.invariant k (omega (arith, a, b, c.min-common.ensures, c.loop-place-test.false)))
