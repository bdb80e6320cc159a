use Rattle.std.proofs.Common.{◌≡◌, ◌<◌, length, arith, ap, ◌∙◌, List}
use Rattle.std.specs.Prelude.{slice_index_or}
use Rattle.replay_model.specs.Logs.{ThreadLog}
use Rattle.replayer.specs.Differences.{part_of}
use Rattle.replayer.specs.Seats.{seat_part}
use Rattle.replayer.proofs.Comparing.{threads-differ-at}
use Rattle.replayer.proofs.replay.threads_difference.Goals as goal

pub returns-in-Some : goal.returns-in-Some
returns-in-Some c =
    let l : c.loop-thread.thread < length c.args.log.now.threads = omega (arith, c.requires.counted, c.loop-thread-test.true) in
    let logged : c.index-threads-thread.result ≡ slice_index_or c.args.log.now.threads c.loop-thread.thread c.index-threads-thread.result =
    c.index-threads-thread.is ∙ ap (λ (threads : List ThreadLog). slice_index_or threads c.loop-thread.thread c.index-threads-thread.result) c.threads.ensures.value in
    threads-differ-at part_of seat_part c.args.log.now.threads c.args.seats.now c.loop-thread.thread c.index-threads-thread.result c.index-seats-thread.result c.logged_side-logged.result c.side.result c.in-Some.difference
    l c.loop-thread-test.true logged c.index-seats-thread.is c.logged_side-logged.ensures c.side.ensures c.loop-thread.invariant c.in-Some.ensures
