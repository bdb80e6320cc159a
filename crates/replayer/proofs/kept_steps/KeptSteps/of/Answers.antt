use Rattle.std.proofs.Common.{subst, sym}
use Rattle.std.proofs.lemmas.List.Filters.{dedup_is}
use Rattle.replayer.specs.KeptSteps.{AreLeft}
use Rattle.replayer.proofs.Adding.{left_at_start}
use Rattle.replayer.proofs.kept_steps.KeptSteps.of.Goals as goal

pub returns : goal.returns
returns c =
    subst (AreLeft c.args.log.now c.args.thread 0) (sym (dedup_is _ _ _ c.dedup.ensures.filtered))
    (left_at_start c.args.log.now c.args.thread _ _ c.in_ok-steps.ensures c.in_ok-sort.ensures.permutation c.in_ok-sort.ensures.sorted)
