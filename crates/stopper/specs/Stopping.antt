-- What comes of a replay that stops at a step.
use Rattle.std.specs.Prelude.{◌≡◌, ℕ, ◌<◌, ◌≤◌, Some, None, List, [], length, take, replicate, slice_index_or}
use Rattle.replay_model.specs.Steps.{Event, Step}
use Rattle.replay_model.specs.Histories.{World, steps_of}
use Rattle.replay_model.specs.Logs.{Log}
use Rattle.replay_model.specs.Fitting.{Fits}
use Rattle.machine.specs.Programs.{ProgramValue}
use Rattle.machine.specs.Cores.{State}
use Rattle.machine.specs.Laws.{taken_in}
use Rattle.machine.specs.Runs.{threads_of, tallies_of}
use Rattle.running_thread.specs.declared.thread.RunningThread.{RunningThread}
use Rattle.replayer.specs.declared.words.ReplayWords.{ReplayWords}
use Rattle.replayer.specs.Replays.{threads_by}
use Rattle.cut_laws.specs.Cuts.{IsCut, IsOnTrack, cut_play}
use Rattle.stopper.specs.declared.play.Plan.{Plan}
use Rattle.stopper.specs.declared.stop.Stopped.{Stopped}
use Rattle.stopper.specs.declared.stop.Stopped.TheVariants.{At, Strays}
use Rattle.stopper.specs.Snaps.{SnapValue}
use Rattle.stopper.specs.Stops.{stopped_after}
use Rattle.stopper.specs.Strays.{IsFirstStray, AreUnlike, SeatsCompared}
use Rattle.stopper.specs.Plays.{HaveCome}

-- the end of the cut play by this order
abbrev pub cut_by : ProgramValue → Log → List Event → List ℕ → World
cut_by p log order cut = cut_play (threads_by p log) p.words log order cut

-- thread t right after its steps in this world
abbrev pub stopped_in : ProgramValue → Log → World → ℕ → State
stopped_in p log world t = stopped_after p log.limits (taken_in log) t (steps_of world.threads t)

-- what is shown of a state
abbrev pub shown_of : State → List ℕ → SnapValue
shown_of s cut = record { instr = s.instr; registers = s.registers; ran = cut }

-- where the cut play does not stray, the thread right after its steps; and else the first stray
abbrev pub IsStopped : ProgramValue → Log → List Event → ℕ → List ℕ → Stopped → Type 0
IsStopped p log order thread cut (At snap) = IsOnTrack log cut (cut_by p log order cut) × (snap ≡ shown_of (stopped_in p log (cut_by p log order cut) thread) cut)
IsStopped p log order thread cut (Strays stray) = (IsOnTrack log cut (cut_by p log order cut) → ⊥) × IsFirstStray log cut (cut_by p log order cut) stray

-- so it is with the cut of the step
abbrev pub IsStopAt : ProgramValue → Log → List Event → ℕ → ℕ → Stopped → Type 0
IsStopAt p log order thread step stopped = (cut : List ℕ) × IsCut log thread step cut × IsStopped p log order thread cut stopped

-- a stray tells two values that differ
abbrev pub TellsUnlike : Stopped → Type 0
TellsUnlike (At snap) = Prim.Unit {0}
TellsUnlike (Strays stray) = AreUnlike stray

-- the thread of these runs right after its step is shown
abbrev pub IsOfRuns : ProgramValue → Log → ℕ → ℕ → List (List Step) → Stopped → Type 0
IsOfRuns p log thread step runs (At snap) =
    (snap.instr ≡ (stopped_after p log.limits (taken_in log) thread (take step (steps_of runs thread))).instr) ×
    (snap.registers ≡ (stopped_after p log.limits (taken_in log) thread (take step (steps_of runs thread))).registers)
IsOfRuns p log thread step runs (Strays stray) = ⊥

-- so it is for all runs that fit the log
abbrev pub IsAsItRan : ProgramValue → Log → ℕ → ℕ → Stopped → Type 0
IsAsItRan p log thread step stopped = (runs : List (List Step)) →
    Fits (threads_of p log.limits (taken_in log)) (tallies_of p log.limits (taken_in log)) p.words log runs → IsOfRuns p log thread step runs stopped

-- the threads are those of the end of the cut play
abbrev pub HavePlayed : ProgramValue → Log → List Event → List ℕ → List RunningThread → Type 0
HavePlayed p log order cut seats = (words : ReplayWords) × HaveCome p log cut (cut_by p log order cut) words seats

abbrev pub PlaysOut : Plan → List Event → List RunningThread → Type 0
PlaysOut plan order seats = HavePlayed plan.program.now plan.log.now order plan.numbers.now seats

-- what is shown of a thread that has come so far
pub record IsShownOf (seat : RunningThread) (cut : List ℕ) (snap : SnapValue) : Type 0 where
  pub first : seat.core.steps ≡ 0 → snap ≡ record { instr = 0; registers = replicate 16 0; ran = cut }
  pub later : 0 < seat.core.steps → snap ≡ shown_of seat.core cut

-- what is answered, by the threads at the end: the thread asked for where all are on track, and else the first stray
abbrev pub IsAnswer : Log → ℕ → List ℕ → List RunningThread → Stopped → Type 0
IsAnswer log thread cut seats (At snap) = SeatsCompared log cut seats None × ((d : RunningThread) → IsShownOf (slice_index_or seats thread d) cut snap)
IsAnswer log thread cut seats (Strays stray) = SeatsCompared log cut seats (Some stray)
