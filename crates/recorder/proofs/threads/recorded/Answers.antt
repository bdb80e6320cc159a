use Rattle.std.proofs.Common.{List, sym, subst}
use Rattle.replay_model.specs.Steps.{Tag}
use Rattle.replay_model.specs.WellFormed.{IsWellFormed}
use Rattle.recorder.specs.Records.{no_digest}
use Rattle.recorder.proofs.threads.recorded.Goals as goal

pub new-log-requires : goal.new-log-requires
new-log-requires c =
    let P : List Tag → Type 0 = λ tags. IsWellFormed (record { digest = no_digest; limits = c.args.limits.now; threads = c.args.logs.items; last_tags = tags }) in
    subst P (sym c.in_ok-tags.ensures) c.requires
