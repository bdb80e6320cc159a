use Rattle.std.proofs.Common.{◌≡◌, ℕ, List, length, sym, ◌∙◌, arith}
use Rattle.replay_model.specs.Steps.{Step}
use Rattle.replay_model.specs.Histories.{World}
use Rattle.replay_model.specs.Logs.{Log}
use Rattle.replay_model.specs.SkipPlay.{ShowsRuns}
use Rattle.replay_laws.proofs.HistoryLog.{same_cells}
use Rattle.machine.specs.Laws.{taken_in}
use Rattle.machine.specs.Runs.{threads_of, tallies_of, world_after}
use Rattle.history.specs.HistoryLogs.{log_of_history}
use Rattle.history.proofs.laws.history_log_law.Goals as goal

-- two states that show the same runs of a log are one
alike : (initial : List ℕ) (log : Log) (runs : List (List Step)) (one two : World) → ShowsRuns initial log runs one → ShowsRuns initial log runs two → one ≡ two
alike initial log runs one two a b =
    let memory = same_cells one.memory two.memory (a.tags ∙ sym b.tags) (a.values ∙ sym b.values) in
    let threads = a.threads ∙ sym b.threads in
    λ j. record { memory = memory j; threads = threads j }

pub returns : goal.returns
returns c = record {
  well_formed = λ p limits inputs digest history rules bounds short whole.
      c.log_law.ensures (threads_of p limits inputs) (tallies_of p limits inputs) digest limits p.words (length p.threads) history
      (c.machine_law.ensures.within p limits inputs) (c.machine_law.ensures.only p limits inputs) (c.machine_law.ensures.ends p limits inputs) (c.machine_law.ensures.keeps p limits inputs short)
      (record {
        some_thread = rules.some_threads;
        threads = rules.most_threads;
        some_word = rules.some_words;
        words = rules.most_words;
        steps = let b = bounds.steps in omega arith;
        instr = let b = bounds.instr in omega arith;
        entries = bounds.entries;
      }) whole;
  fits = λ p limits inputs digest history whole.
      c.input_law.ensures.fits p limits inputs p.words (log_of_history p limits inputs digest history) (world_after p limits inputs history).threads
      (c.history_law.ensures.fits (threads_of p limits inputs) (tallies_of p limits inputs) digest limits p.words (length p.threads) history
      (c.machine_law.ensures.within p limits inputs) (c.machine_law.ensures.only p limits inputs) whole);
  respects = λ p limits inputs digest history whole.
      c.history_law.ensures.respects (threads_of p limits inputs) (tallies_of p limits inputs) digest limits p.words (length p.threads) history
      (c.machine_law.ensures.within p limits inputs) (c.machine_law.ensures.only p limits inputs) whole;
  replays = λ p limits inputs digest history order whole respects.
      let log = log_of_history p limits inputs digest history in
      let runs = (world_after p limits inputs history).threads in
      let within = c.machine_law.ensures.within p limits inputs in
      let only = c.machine_law.ensures.only p limits inputs in
      let fits = c.input_law.ensures.fits p limits inputs p.words log runs
      (c.history_law.ensures.fits (threads_of p limits inputs) (tallies_of p limits inputs) digest limits p.words (length p.threads) history within only whole) in
      alike p.words log runs _ _
      (c.skip_law.ensures.shows (threads_of p limits (taken_in log)) (tallies_of p limits (taken_in log)) p.words log runs order
      (c.machine_law.ensures.within p limits (taken_in log)) (c.machine_law.ensures.ends p limits (taken_in log)) fits respects)
      (c.history_law.ensures.shows (threads_of p limits inputs) (tallies_of p limits inputs) digest limits p.words (length p.threads) history within only whole);
  unique = λ p log one two order respects fits also.
      c.skip_law.ensures.unique (threads_of p log.limits (taken_in log)) (tallies_of p log.limits (taken_in log)) p.words log one two order
      (c.machine_law.ensures.within p log.limits (taken_in log)) (c.machine_law.ensures.ends p log.limits (taken_in log)) respects fits also;
}
