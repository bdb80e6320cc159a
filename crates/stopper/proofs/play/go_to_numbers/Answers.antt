use Rattle.std.proofs.Common.{arith, refl, ◌<◌, ◌∙◌, length, length-set, subst, sym}
use Rattle.replay_model.specs.Histories.{World}
use Rattle.running_thread.specs.declared.thread.RunningThread.{RunningThread}
use Rattle.cut_laws.specs.Cuts.{number_of}
use Rattle.stopper.specs.Plays.{Goes}
use Rattle.stopper.proofs.Going.{end-none, end-more}
use Rattle.stopper.proofs.play.go_to_numbers.Goals as goal

pub loop-thread-init : goal.loop-thread-init
loop-thread-init c = record {
  reached = end-none c.args.plan.now.program.now c.args.plan.now.log.now c.args.plan.now.numbers.now c.args.words.now c.args.seats.now.items;
  counted = refl;
}

pub loop-thread-preserved : goal.loop-thread-preserved
loop-thread-preserved c =
    let i = c.loop-thread.invariant in
    let l : c.loop-thread.thread < length c.loop-thread.seats.items = (let n = i.counted in omega (arith, n, c.loop-thread-test.true, c.len-thread-end.ensures)) in
    record {
      reached = end-more c.args.plan.now.program.now c.args.plan.now.log.now c.args.plan.now.numbers.now c.loop-thread.thread c.args.words.now c.loop-thread.words c.go_to.new.words
          c.args.seats.now.items c.loop-thread.seats.items c.index_mut.result.now c.go_to.new.thread i.reached l c.index_mut.ensures.value c.in_ok-go_to.ensures;
      counted = length-set c.loop-thread.seats.items c.loop-thread.thread c.go_to.new.thread ∙ i.counted;
    }
