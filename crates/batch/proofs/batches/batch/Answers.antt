use Rattle.std.proofs.Common.{arith, rules}
use Rattle.batch.proofs.Joining.{joined_ok}
use Rattle.batch.proofs.batches.batch.Goals as goal

pub returns : goal.returns
returns g c =
    let each = c.in_ok-parts.ensures.each in
    joined_ok c.args.budget c.args.jobs.now c.args.workers (omega (arith, c.requires.workers.0)) c.in_ok-parts.parts.items c.deref.result.now c.joined.result c.deref.ensures.value
    (omega (arith, c.in_ok-parts.ensures.len, c.from.ensures)) c.joined.ensures.done c.joined.ensures.order
    (λ i d within. let r = (each i d (omega (arith, c.from.ensures))).1 in search rules)
