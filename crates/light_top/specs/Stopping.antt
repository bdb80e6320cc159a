-- How a thread stands right after a step of a logged run.
use Rattle.std.specs.Prelude.{◌≡◌, ℕ, List}
use Rattle.light_base.specs.declared.tag.Event.{Event}
use Rattle.replay_model.specs.Steps.{Step}
use Rattle.replay_model.specs.Logs.{Log}
use Rattle.replay_model.specs.Orders.{Respects}
use Rattle.machine.specs.Programs.{ProgramValue}
use Rattle.history.specs.HistoryLogs.{FitsProgram}
use Rattle.stopper.specs.Snaps.{SnapValue}
use Rattle.stopper.specs.declared.stop.Stopped.TheVariants.{At, Strays}
use Rattle.stopper.specs.declared.stray.Stray.{Stray}
use Rattle.stopper.specs.Stopping.{IsStopAt, IsAsItRan}
use Rattle.stopper.specs.Texts.{snap_text}
use Rattle.light_top.specs.Solving.{Unsolved}
use Rattle.light_top.specs.declared.status.Status.{Status}
use Rattle.light_top.specs.declared.status.Status.TheVariants as status

-- the text of the thread right after its step, as the play up to the step's cut by this order leaves it; where runs fit the log it
-- is as in these
pub record IsSnapBy (p : ProgramValue) (log : Log) (thread step : ℕ) (order : List Event) (text : List ℕ) : Type 0 where
  pub snap : SnapValue
  pub stopped : IsStopAt p log order thread step (At snap)
  pub ran : IsAsItRan p log thread step (At snap)
  pub told : text ≡ snap_text thread step snap

-- so it is by an order that respects the log
pub record IsSnapText (p : ProgramValue) (log : Log) (thread step : ℕ) (text : List ℕ) : Type 0 where
  pub order : List Event
  pub respects : Respects log order
  pub shown : IsSnapBy p log thread step order text

-- the play up to the step's cut by some order that respects the log strays, and this is the first stray; no runs fit the log
pub record IsStrayIn (p : ProgramValue) (log : Log) (thread step : ℕ) (stray : Stray) : Type 0 where
  pub order : List Event
  pub respects : Respects log order
  pub strayed : IsStopAt p log order thread step (Strays stray)
  pub none : (runs : List (List Step)) → FitsProgram p log runs → ⊥

-- why the step was not reached by an order
abbrev pub Straying : ProgramValue → Log → ℕ → ℕ → Status → Type 0
Straying p log thread step (status.Strays stray) = IsStrayIn p log thread step stray
Straying p log thread step s = ⊥

-- why a thread was not shown: no order was found, or the play by one strays
abbrev pub Unstopped : ProgramValue → Log → ℕ → ℕ → ℕ → Status → Type 0
Unstopped p log thread step budget (status.Strays stray) = IsStrayIn p log thread step stray
Unstopped p log thread step budget s = Unsolved log budget s
