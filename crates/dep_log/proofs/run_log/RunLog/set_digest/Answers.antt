use Rattle.dep_log.proofs.Digests.{formed-kept}
use Rattle.dep_log.proofs.run_log.RunLog.set_digest.Goals as goal

pub invariant_of-self : goal.invariant_of-self
invariant_of-self c =
    let i = c.self.inside in
    formed-kept (record { digest = i.digest; limits = i.limits; threads = i.threads.items; last_tags = i.last_tags.items }) c.args.digest c.self.invariant
