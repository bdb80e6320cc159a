use Rattle.std.proofs.Common.{subst}
use Rattle.replayer.specs.Replays.{replay_by}
use Rattle.replayer.specs.Verdicts.{IsVerdict, IsExact, IsHistoryAgain}
use Rattle.batch.proofs.replays.told_by.Goals as goal

pub returns-in_ok-text_of-in-Same : goal.returns-in_ok-text_of-in-Same
returns-in_ok-text_of-in-Same c =
    let exact = subst (IsExact c.args.program.now c.args.log.now) c.in-Same.is (c.in_ok-reports.ensures.exact c.requires.order) in
    record {
      runs = exact.0;
      fits = exact.1;
      told = cc (c.in_ok-text_of-in-Same.ensures, c.deref.ensures.value, c.deref-in-Same.ensures.value, exact.2, exact.3);
      again = λ limits inputs digest history whole told.
          let same = subst (IsHistoryAgain c.args.program.now limits inputs history) c.in-Same.is (c.in_ok-reports.ensures.history c.requires.order limits inputs digest history whole told) in
          cc (c.in_ok-text_of-in-Same.ensures, c.deref.ensures.value, c.deref-in-Same.ensures.value, same.0, same.1);
    }

pub returns-in-Differs : goal.returns-in-Differs
returns-in-Differs c =
    let verdict = subst (IsVerdict c.args.program.now c.args.log.now (replay_by c.args.program.now c.args.log.now c.args.order.now)) c.in-Differs.is c.in_ok-reports.ensures.verdict in
    let exact = subst (IsExact c.args.program.now c.args.log.now) c.in-Differs.is (c.in_ok-reports.ensures.exact c.requires.order) in
    record { order = c.args.order.now; respects = c.requires.order; first = verdict.1; unequal = verdict.1.unequal; none = exact }
