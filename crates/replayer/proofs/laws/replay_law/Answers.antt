use Rattle.std.proofs.Common.{sym, ◌∙◌}
use Rattle.machine.specs.Runs.{threads_of, tallies_of, world_after}
use Rattle.replay_model.proofs.RunLogs.{run_logs_from-length}
use Rattle.history.proofs.Playing.{threads_count}
use Rattle.replayer.proofs.Exactness.{exactly, again}
use Rattle.replayer.proofs.laws.replay_law.Goals as goal

pub returns : goal.returns
returns c = record {
  exact = exactly;
  history = λ p limits inputs digest history order replayed whole respects verdict.
      let runs = (world_after p limits inputs history).threads in
      again p limits inputs digest history order replayed (c.history_log_law.ensures.fits p limits inputs digest history whole)
      (c.history_log_law.ensures.replays p limits inputs digest history order whole respects)
      (sym (run_logs_from-length (threads_of p limits inputs) (tallies_of p limits inputs) 0 runs ∙ threads_count (record { program = p; limits = limits; inputs = inputs; taken = history })))
      respects verdict;
}
