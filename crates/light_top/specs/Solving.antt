-- Orders that are found, and replays by them.
use Rattle.std.specs.Prelude.{◌≡◌, ℕ, ◌<◌, List, [], ◌∷◌, ◌++◌, codes, length, Some}
use Rattle.std.specs.Fmt.{decimal}
use Rattle.light_base.specs.declared.tag.Event.{Event}
use Rattle.replay_model.specs.Logs.{Log}
use Rattle.replay_model.specs.Orders.{Respects}
use Rattle.machine.specs.Programs.{ProgramValue}
use Rattle.constraints.specs.Constraints.{dead}
use Rattle.schedule_check.specs.declared.faults.Verdict.TheVariants as verdict
use Rattle.schedule_check.specs.Faults.{verdict_of}
use Rattle.batch.specs.Replays.{HasNoOrder, IsTranscript, IsUnlike}
use Rattle.log_file.specs.Schedules.{schedule_text}
use Rattle.light_top.specs.Outputs.{Output, Saved}
use Rattle.light_top.specs.declared.status.Status.{Status}
use Rattle.light_top.specs.declared.status.Status.TheVariants as status

-- why no order was found: none respects the log, or the plain search has more dead ends than the budget
abbrev pub Unsolved : Log → ℕ → Status → Type 0
Unsolved log budget status.NoSchedule = HasNoOrder log
Unsolved log budget status.Spent = budget < dead log
Unsolved log budget s = ⊥

-- so many events
abbrev pub events_line : ℕ → List ℕ
events_line count = codes "events " ++ decimal count ++ 10 ∷ []

-- the file of an order
abbrev pub order_file : List ℕ → List Event → Saved
order_file name order = record { name = name; bytes = schedule_text order }

-- the text of an order that respects the log is saved, and its length is printed
pub record IsSolved (log : Log) (schedule : List ℕ) (output : Output) : Type 0 where
  pub order : List Event
  pub respects : Respects log order
  pub done : output ≡ record { text = events_line (length order); saved = Some (order_file schedule order) }

-- such a transcript is printed, and the text of an order that respects the log is saved
pub record IsReplayed (p : ProgramValue) (log : Log) (schedule : List ℕ) (output : Output) : Type 0 where
  pub order : List Event
  pub respects : Respects log order
  pub transcript : IsTranscript p log output.text
  pub kept : output.saved ≡ Some (order_file schedule order)

-- the order does not respect the log, and this is its first fault
abbrev pub IsDisrespectful : Log → List Event → Status → Type 0
IsDisrespectful log order (status.Disrespects fault) = (Respects log order → ⊥) × (verdict_of log order ≡ verdict.Fault fault)
IsDisrespectful log order s = ⊥

-- why a log was not replayed: no order was found, or no runs fit it
abbrev pub Unreplayed : ProgramValue → Log → ℕ → Status → Type 0
Unreplayed p log budget (status.Differs difference) = IsUnlike p log difference
Unreplayed p log budget s = Unsolved log budget s
