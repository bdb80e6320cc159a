use Rattle.std.proofs.Common.{ap, subst}
use Rattle.replay_model.specs.Logs.{Log}
use Rattle.replay_model.specs.Histories.{World}
use Rattle.replayer.specs.Notes.{AreWrites}
use Rattle.replayer.specs.Replays.{Replaying, replay_by, ended, IsBy}
use Rattle.replayer.specs.Verdicts.{IsVerdict}
use Rattle.replayer.proofs.Exactness.{by-all, end-by, exactly, if-ok}
use Rattle.replayer.proofs.order.replay_noting.Goals as goal

pub returns-clause-verdict : goal.returns-clause-verdict
returns-clause-verdict c =
    let p = c.args.program.now in
    let log = c.args.log.now in
    let order = c.args.order.now in
    let r : Replaying = c.take_turns.new.replay in
    let by : IsBy p log order r = subst (λ (l : Log). IsBy p l order r) (ap (λ (x : Replaying). x.log) c.in_ok-replay.ensures) c.in_ok-take_turns.ensures in
    if-ok _ _ c.finish_noted.result (λ noted h. by-all p log order r noted.0 by h) c.finish_noted.ensures.verdict

pub returns-clause-exact : goal.returns-clause-exact
returns-clause-exact c =
    let p = c.args.program.now in
    let log = c.args.log.now in
    let order = c.args.order.now in
    if-ok _ _ c.finish_noted.result (λ noted h respects. exactly p log order noted.0 c.requires.threads respects h) (returns-clause-verdict c)

pub returns-clause-writes : goal.returns-clause-writes
returns-clause-writes c =
    let p = c.args.program.now in
    let log = c.args.log.now in
    let order = c.args.order.now in
    let r : Replaying = c.take_turns.new.replay in
    let by : IsBy p log order r = subst (λ (l : Log). IsBy p l order r) (ap (λ (x : Replaying). x.log) c.in_ok-replay.ensures) c.in_ok-take_turns.ensures in
    if-ok _ _ c.finish_noted.result (λ noted h. subst (λ (w : World). AreWrites w.threads noted.1.items) (end-by p log order r by) h) c.finish_noted.ensures.writes
