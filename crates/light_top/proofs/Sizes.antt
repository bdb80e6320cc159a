-- The log of a history has a tag for each word, and a log for each thread.
use Rattle.std.proofs.Common.{◌≡◌, ℕ, ◌+◌, List, [], ◌∷◌, length, suc, refl, ◌∙◌, ap}
use Rattle.std.proofs.lemmas.List.{length-map}
use Rattle.replay_model.specs.Steps.{Step}
use Rattle.replay_model.specs.Threads.{Threads}
use Rattle.replay_model.specs.RunLogs.{Tallies, run_logs_from}
use Rattle.machine.specs.Programs.{ProgramValue, LimitsValue}
use Rattle.machine.specs.Inputs.{InputsValue}
use Rattle.machine.specs.Runs.{threads_of, tallies_of, world_after, values_of}
use Rattle.history.specs.HistoryLogs.{log_of_history}
use Rattle.history.proofs.Playing.{threads_count, words_count}

logs_count : (threads : Threads) (tallies : Tallies) (t : ℕ) (runs : List (List Step)) → length (run_logs_from threads tallies t runs) ≡ length runs
logs_count threads tallies t [] = refl
logs_count threads tallies t (run ∷ runs) = ap suc (logs_count threads tallies (t + 1) runs)

module _ (p : ProgramValue) (limits : LimitsValue) (inputs : InputsValue) (digest history : List ℕ) where
  pub log_threads : length (log_of_history p limits inputs digest history).threads ≡ length p.threads
  log_threads = logs_count (threads_of p limits inputs) (tallies_of p limits inputs) 0 (world_after p limits inputs history).threads
      ∙ threads_count (record { program = p; limits = limits; inputs = inputs; taken = history })

  pub memory_count : length (world_after p limits inputs history).memory ≡ length p.words
  memory_count = words_count (record { program = p; limits = limits; inputs = inputs; taken = history })

  pub log_words : length (log_of_history p limits inputs digest history).last_tags ≡ length p.words
  log_words = length-map (world_after p limits inputs history).memory _ ∙ memory_count

  pub values_count : length (values_of (world_after p limits inputs history)) ≡ length p.words
  values_count = length-map (world_after p limits inputs history).memory _ ∙ memory_count
