use Rattle.std.proofs.Common.{subst, sym}
use Rattle.replay_model.specs.Orders.{Respects}
use Rattle.recorder.specs.Records.{no_digest}
use Rattle.replayer.specs.Verdicts.{IsHistoryAgain}
use Rattle.light_top.specs.Arenas.{arena_limits, arena_inputs}
use Rattle.light_top.proofs.ArenaEnds.{not_ended, arena_threads}
use Rattle.light_top.proofs.arenas.last_values.Goals as goal

pub returns-in-Err-clause-err : goal.returns-in-Err-clause-err
returns-in-Err-clause-err c =
    not_ended c.history_log_law.ensures.respects c.args.program.now c.args.log.now c.in-Err.status c.requires c.in-Err.ensures.err

pub replay_order-requires-clause-threads : goal.replay_order-requires-clause-threads
replay_order-requires-clause-threads c = arena_threads c.args.program.now c.args.log.now c.requires

pub returns-clause-ok : goal.returns-clause-ok
returns-clause-ok c =
    let again = subst (IsHistoryAgain c.args.program.now arena_limits arena_inputs c.requires.history) c.in-Same.is
    (c.in_ok-values.ensures.history (subst (Respects c.args.log.now) (sym c.as_slice.ensures) c.in-Ok.ensures.ok.respects) arena_limits arena_inputs no_digest c.requires.history c.requires.whole c.requires.told) in
    record { history = c.requires.history; whole = c.requires.whole; told = again.1 }
