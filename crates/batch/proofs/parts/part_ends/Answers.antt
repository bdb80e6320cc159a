use Rattle.std.proofs.Common.{◌+◌, arith}
use Rattle.batch.proofs.Joining.{start_rises, start_within}
use Rattle.batch.proofs.parts.part_ends.Goals as goal

pub returns-clause-rising : goal.returns-clause-rising
returns-clause-rising c = start_rises c.args.jobs c.from-workers.result c.args.worker (omega (arith, c.from-workers.ensures))

pub returns-clause-within : goal.returns-clause-within
returns-clause-within c =
    start_within c.args.jobs c.from-workers.result (c.args.worker + 1) (omega (arith, c.from-workers.ensures)) (omega (arith, c.from-workers.ensures))
