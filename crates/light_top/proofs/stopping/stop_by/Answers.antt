use Rattle.std.proofs.Common.{subst}
use Rattle.stopper.specs.Stopping.{IsStopAt, IsAsItRan, TellsUnlike}
use Rattle.light_top.proofs.stopping.stop_by.Goals as goal

pub returns-in_ok-snap_text-in-At-clause-ok : goal.returns-in_ok-snap_text-in-At-clause-ok
returns-in_ok-snap_text-in-At-clause-ok c =
    record {
      snap = c.in-At.snap;
      stopped = subst (IsStopAt c.args.program.now c.args.log.now c.args.order.now c.args.thread c.args.step) c.in-At.is c.in_ok-snap.ensures.stopped;
      ran = subst (IsAsItRan c.args.program.now c.args.log.now c.args.thread c.args.step) c.in-At.is c.in_ok-snap.ensures.ran;
      told = cc (c.of.ensures, c.in_ok-snap_text-in-At.ensures);
    }

pub returns-in-Strays-clause-err : goal.returns-in-Strays-clause-err
returns-in-Strays-clause-err c = (
  subst TellsUnlike c.in-Strays.is c.in_ok-snap.ensures.unlike,
  record {
    order = c.args.order.now;
    respects = c.requires.order;
    strayed = subst (IsStopAt c.args.program.now c.args.log.now c.args.order.now c.args.thread c.args.step) c.in-Strays.is c.in_ok-snap.ensures.stopped;
    none = subst (IsAsItRan c.args.program.now c.args.log.now c.args.thread c.args.step) c.in-Strays.is c.in_ok-snap.ensures.ran;
  },
)
