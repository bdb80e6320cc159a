use Rattle.std.proofs.Common.{ap, subst}
use Rattle.replay_model.specs.Logs.{Log}
use Rattle.replay_model.specs.Orders.{Respects}
use Rattle.replayer.specs.Replays.{Replaying, replay_by, ended, IsBy}
use Rattle.replayer.specs.Verdicts.{IsVerdict}
use Rattle.replayer.proofs.Exactness.{by-all, exactly, if-ok}
use Rattle.replayer.proofs.order.replay_order.Goals as goal

pub returns-clause-verdict : goal.returns-clause-verdict
returns-clause-verdict c =
    let p = c.args.program.now in
    let log = c.args.log.now in
    let order = c.args.order.now in
    let r : Replaying = c.take_turns.new.replay in
    let by : IsBy p log order r = subst (λ (l : Log). IsBy p l order r) (ap (λ (x : Replaying). x.log) c.in_ok-replay.ensures) c.in_ok-take_turns.ensures in
    if-ok (IsVerdict r.program r.log (ended r)) (IsVerdict p log (replay_by p log order)) c.finish.result (λ replayed h. by-all p log order r replayed by h) c.finish.ensures.verdict

pub returns-clause-exact : goal.returns-clause-exact
returns-clause-exact c =
    let p = c.args.program.now in
    let log = c.args.log.now in
    let order = c.args.order.now in
    if-ok (IsVerdict p log (replay_by p log order)) _ c.finish.result (λ replayed h respects. exactly p log order replayed c.requires.threads respects h) (returns-clause-verdict c)

pub returns-clause-history : goal.returns-clause-history
returns-clause-history c =
    let p = c.args.program.now in
    let log = c.args.log.now in
    let order = c.args.order.now in
    if-ok (IsVerdict p log (replay_by p log order)) _ c.finish.result
    (λ replayed h respects limits inputs digest history whole same.
    let P : Log → Type 0 = λ l. IsVerdict p l (replay_by p l order) replayed in
    c.replay_law.ensures.history p limits inputs digest history order replayed whole (subst (λ (l : Log). Respects l order) same respects) (subst P same h)) (returns-clause-verdict c)
