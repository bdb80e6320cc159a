use Rattle.std.proofs.Common.{inr, sym}
use Rattle.recorder.proofs.Rounds.{same-runs}
use Rattle.recorder.proofs.Endings.{group-done, group-back, group-own, group-puts, none-begun}
use Rattle.recorder.proofs.groups.run_group.Goals as goal

pub returns-in-Ok-run_rounds-clause-each : goal.returns-in-Ok-run_rounds-clause-each
returns-in-Ok-run_rounds-clause-each g c =
    let runs = same-runs c.args.words.now c.args.program.now c.args.limits.now c.args.inputs.now c.in_ok-runners.runners.items c.run_rounds.new.runners.items c.in_ok-runners.ensures.each c.run_rounds.ensures.same in
    c.finish_all.ensures.each c.args.words.now c.args.program.now c.args.limits.now c.args.inputs.now runs

pub returns-in-Ok-run_rounds-clause-threads : goal.returns-in-Ok-run_rounds-clause-threads
returns-in-Ok-run_rounds-clause-threads g c =
    group-done c.args.hands.items c.in_ok-runners.runners.items c.run_rounds.new.runners.items c.in_ok-runners.ensures.order c.run_rounds.ensures.same c.finish_all.result.items c.finish_all.ensures.order

pub returns-in-Err-clause-own : goal.returns-in-Err-clause-own
returns-in-Err-clause-own g c =
    group-own c.args.hands.items c.in_ok-runners.runners.items c.run_rounds.new.runners.items c.in_ok-runners.ensures.order c.run_rounds.ensures.same c.in_ok-runners.hands.items c.hands_back.result.items c.in_ok-runners.ensures.left.0 c.hands_back.ensures.order
    c.args.words.now c.args.program.now c.args.limits.now c.args.inputs.now c.in_ok-runners.ensures.each

pub returns-in-Err-clause-back : goal.returns-in-Err-clause-back
returns-in-Err-clause-back g c =
    group-back c.args.hands.items c.in_ok-runners.runners.items c.run_rounds.new.runners.items c.in_ok-runners.ensures.order c.run_rounds.ensures.same c.in_ok-runners.hands.items c.hands_back.result.items c.in_ok-runners.ensures.left.0 c.hands_back.ensures.order

pub returns-in-Err-clause-memory : goal.returns-in-Err-clause-memory
returns-in-Err-clause-memory g c =
    inr (group-puts c.args.hands.items c.in_ok-runners.runners.items c.run_rounds.new.runners.items c.in_ok-runners.ensures.order c.run_rounds.ensures.same
    c.args.words.now c.args.program.now c.args.limits.now c.args.inputs.now c.in_ok-runners.ensures.each c.in-Err.ensures.err)

pub returns-in-Err-clause-begun : goal.returns-in-Err-clause-begun
returns-in-Err-clause-begun g c =
    let runs = same-runs c.args.words.now c.args.program.now c.args.limits.now c.args.inputs.now c.in_ok-runners.runners.items c.run_rounds.new.runners.items c.in_ok-runners.ensures.each c.run_rounds.ensures.same in
    c.hands_back.ensures.begun c.args.words.now c.args.program.now c.args.limits.now c.args.inputs.now runs (none-begun c.args.program.now c.args.limits.now c.args.inputs.now c.in_ok-runners.hands.items c.in_ok-runners.ensures.left.0)

pub returns-in-Ok-run_rounds-clause-rounds : goal.returns-in-Ok-run_rounds-clause-rounds
returns-in-Ok-run_rounds-clause-rounds g c = record {
  firsts = c.in_ok-runners.runners.items;
  lasts = c.run_rounds.new.runners.items;
  started = c.in_ok-runners.ensures.starts;
  begin = c.in_ok-runners.ensures.order;
  rounds = c.in-Ok-run_rounds.ensures.rounds;
  end = sym c.finish_all.ensures.order;
}
