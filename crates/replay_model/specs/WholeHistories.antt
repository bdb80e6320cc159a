-- Whole histories, their logs, and the order that they give to the events of their logs.
use Rattle.std.specs.Prelude.{ℕ, List, filter}
use Rattle.replay_model.specs.Steps.{Event}
use Rattle.replay_model.specs.Threads.{Threads}
use Rattle.replay_model.specs.Histories.{World, opening, play, IsLegal, IsWhole}
use Rattle.replay_model.specs.Logs.{Limits, Log}
use Rattle.replay_model.specs.RunLogs.{Tallies, log_of}
use Rattle.replay_model.specs.Events.{is_event, events_of}

-- the state at the end of a history that begins with the initial values
abbrev pub played : Threads → List ℕ → ℕ → List ℕ → World
played threads initial count history = play threads history (opening initial count)

-- a legal history at whose end every thread has ended
pub record IsWholeHistory (threads : Threads) (initial : List ℕ) (count : ℕ) (history : List ℕ) : Type 0 where
  pub legal : IsLegal threads history (opening initial count)
  pub whole : IsWhole threads (played threads initial count history)

-- the log of a history, with this digest and these limits
abbrev pub history_log : Threads → Tallies → List ℕ → Limits → List ℕ → ℕ → List ℕ → Log
history_log threads tallies digest limits initial count history = log_of threads tallies digest limits (played threads initial count history)

-- those steps of a history that are events of the log, in the history's order
abbrev pub history_order : Threads → List ℕ → ℕ → List ℕ → Log → List Event
history_order threads initial count history log = filter (is_event log) (events_of threads history (opening initial count))
