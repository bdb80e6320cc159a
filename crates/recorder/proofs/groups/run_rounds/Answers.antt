use Rattle.machine.proofs.Turning.{on_err}
use Rattle.recorder.proofs.Rounds.{round-after, same-any, same-trans}
use Rattle.recorder.proofs.groups.run_rounds.Goals as goal

pub loop-preserved : goal.loop-preserved
loop-preserved g c = record {
  same = same-trans _ _ _ c.loop.invariant.same c.run_round.ensures.same;
  rounds = round-after c.args.slice c.args.runners.now.items c.loop.runners.items c.run_round.new.runners.items _ c.loop.invariant.rounds c.in_ok-run_round.ensures.ok;
}

pub returns-clause-rounds : goal.returns-clause-rounds
returns-clause-rounds g c =
    round-after c.args.slice c.args.runners.now.items c.loop.runners.items c.run_round.new.runners.items _ c.loop.invariant.rounds c.in_ok-run_round.ensures.ok

pub returns-in_err-run_round-clause-err : goal.returns-in_err-run_round-clause-err
returns-in_err-run_round-clause-err g c = on_err _ (same-any c.args.runners.now.items c.loop.runners.items c.loop.invariant.same c.in_err-run_round.ensures.err)
