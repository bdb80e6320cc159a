-- The log that comes of a play.
use Rattle.std.specs.Prelude.{◌≡◌, ℕ, ◌+◌, List, [], ◌∷◌, length, map}
use Rattle.replay_model.specs.Steps.{Tag, Cell, End, Want, Step, Load, Store, Swap, Cond, Ended}
use Rattle.replay_model.specs.declared.End.TheVariants.{Halted}
use Rattle.replay_model.specs.Threads.{Threads}
use Rattle.replay_model.specs.Histories.{World}
use Rattle.replay_model.specs.ThreadLogs.{thread_log}
use Rattle.replay_model.specs.Logs.{Limits, ThreadLog, Log}

-- what is counted of a thread beside its memory steps: how many instructions it has finished, and the input numbers that it has taken
pub record Tally : Type 0 where
  pub instr : ℕ
  pub taken : List ℕ

-- what each thread has counted, by its number and its memory steps so far
abbrev pub Tallies : Type 0
Tallies = ℕ → List Step → Tally

-- how a thread ended that wants nothing more
abbrev pub end_of : Want → End
end_of (Load word) = Halted
end_of (Store word value) = Halted
end_of (Swap word value) = Halted
end_of (Cond word seen value) = Halted
end_of (Ended end) = end

-- the log of thread t, which took these steps and then ended
abbrev pub run_log : Threads → Tallies → ℕ → List Step → ThreadLog
run_log threads tallies t steps = record {
  entries = thread_log steps;
  steps = length steps;
  instr = (tallies t steps).instr;
  end = end_of (threads t steps);
  taken = (tallies t steps).taken;
}

-- the logs of the threads from number t on
abbrev pub run_logs_from : Threads → Tallies → ℕ → List (List Step) → List ThreadLog
run_logs_from threads tallies t [] = []
run_logs_from threads tallies t (run ∷ runs) = run_log threads tallies t run ∷ run_logs_from threads tallies (t + 1) runs

-- the logs of all threads
abbrev pub run_logs : Threads → Tallies → List (List Step) → List ThreadLog
run_logs threads tallies runs = run_logs_from threads tallies 0 runs

-- who wrote each word
abbrev pub last_tags : List Cell → List Tag
last_tags memory = map (λ (cell : Cell). cell.tag) memory

-- the log of the state at the end of a play, with this digest and these limits
abbrev pub log_of : Threads → Tallies → List ℕ → Limits → World → Log
log_of threads tallies digest limits world = record {
  digest = digest;
  limits = limits;
  threads = run_logs threads tallies world.threads;
  last_tags = last_tags world.memory;
}

-- the state's entries, tails and last tags are those of the log
pub record HasLog (threads : Threads) (tallies : Tallies) (log : Log) (world : World) : Type 0 where
  pub logs : run_logs threads tallies world.threads ≡ log.threads
  pub last_tags : last_tags world.memory ≡ log.last_tags
