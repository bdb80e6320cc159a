-- Threads that keep to limits.
use Rattle.std.specs.Prelude.{◌≡◌, ℕ, ◌≤◌, true, false, List, length}
use Rattle.replay_model.specs.Bounds.{most_inputs}
use Rattle.replay_model.specs.Steps.{Step, Ended, reads}
use Rattle.replay_model.specs.declared.End.TheVariants.{BadAddress}
use Rattle.replay_model.specs.Threads.{Threads, IsRun}
use Rattle.replay_model.specs.ThreadLogs.{is_full}
use Rattle.replay_model.specs.Logs.{Limits}
use Rattle.replay_model.specs.RunLogs.{Tallies}

-- no run has more instructions than the limit, or takes more input numbers than a thread may; a thread reads only where its log is not full;
-- an address is bad only where no word has it
pub record KeepsLimits (threads : Threads) (tallies : Tallies) (size : ℕ) (limits : Limits) : Type 0 where
  pub counts : (t : ℕ) (steps : List Step) → IsRun threads t steps → (tallies t steps).instr ≤ limits.instr
  pub taken : (t : ℕ) (steps : List Step) → IsRun threads t steps → length (tallies t steps).taken ≤ most_inputs
  pub room : (t : ℕ) (steps : List Step) → reads (threads t steps) ≡ true → is_full limits.entries steps ≡ false
  pub addresses : (t : ℕ) (steps : List Step) (address : ℕ) → threads t steps ≡ Ended (BadAddress address) → size ≤ address
