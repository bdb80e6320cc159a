use Rattle.std.proofs.Common.{Result, subst}
use Rattle.light_top.specs.Statuses.{status_of}
use Rattle.light_top.specs.Outside.{◌and◌}
use Rattle.light_top.specs.Ends.{Ends}
use Rattle.light_top.specs.declared.status.Status.{Status}
use Rattle.light_top.specs.declared.status.Status.TheVariants as status
use Rattle.light_top.proofs.Headline.{recorded}
use Rattle.light_top.proofs.Replaying.{replayed}
use Rattle.light_top.proofs.top.obey.Goals as goal

pub returns-in-Ok-clause-records : goal.returns-in-Ok-clause-records
returns-in-Ok-clause-records g c =
    let before = g.S.Store.told c.args.store.now and g.K.Sink.told c.args.out.now in
    let now = g.S.Store.told c.carry_out.new.store and g.K.Sink.told c.carry_out.new.out in
    recorded c.args.command before now status.Ok
    (subst (λ (r : Result (Prim.Unit {0}) Status). Ends c.args.command before now (status_of r)) c.in-Ok.is c.carry_out.ensures)

pub returns-in-Ok-clause-replays : goal.returns-in-Ok-clause-replays
returns-in-Ok-clause-replays g c =
    let before = g.S.Store.told c.args.store.now and g.K.Sink.told c.args.out.now in
    let now = g.S.Store.told c.carry_out.new.store and g.K.Sink.told c.carry_out.new.out in
    replayed c.history_log_law.ensures.fits c.history_log_law.ensures.respects c.args.command before now status.Ok
    (subst (λ (r : Result (Prim.Unit {0}) Status). Ends c.args.command before now (status_of r)) c.in-Ok.is c.carry_out.ensures)

pub returns-in-Err-clause-records : goal.returns-in-Err-clause-records
returns-in-Err-clause-records g c =
    let before = g.S.Store.told c.args.store.now and g.K.Sink.told c.args.out.now in
    let now = g.S.Store.told c.carry_out.new.store and g.K.Sink.told c.carry_out.new.out in
    recorded c.args.command before now c.in-Err.status
    (subst (λ (r : Result (Prim.Unit {0}) Status). Ends c.args.command before now (status_of r)) c.in-Err.is c.carry_out.ensures)

pub returns-in-Err-clause-replays : goal.returns-in-Err-clause-replays
returns-in-Err-clause-replays g c =
    let before = g.S.Store.told c.args.store.now and g.K.Sink.told c.args.out.now in
    let now = g.S.Store.told c.carry_out.new.store and g.K.Sink.told c.carry_out.new.out in
    replayed c.history_log_law.ensures.fits c.history_log_law.ensures.respects c.args.command before now c.in-Err.status
    (subst (λ (r : Result (Prim.Unit {0}) Status). Ends c.args.command before now (status_of r)) c.in-Err.is c.carry_out.ensures)
