-- A thread of a program right after a memory step.
use Rattle.std.specs.Prelude.{◌≡◌, ℕ, ◌<◌, ◌≤◌, List, [], ◌∷◌, ◌++◌, length, take}
use Rattle.replay_model.specs.Steps.{Event, Step}
use Rattle.replay_model.specs.Histories.{steps_of}
use Rattle.replay_model.specs.ThreadLogs.{is_full}
use Rattle.replay_model.specs.Logs.{Log, thread_of}
use Rattle.replay_model.specs.Orders.{Respects}
use Rattle.replay_model.specs.Fitting.{Fits}
use Rattle.machine.specs.Programs.{ProgramValue, LimitsValue}
use Rattle.machine.specs.Inputs.{InputsValue, inputs_of}
use Rattle.machine.specs.Cores.{State, first_state, settled, took}
use Rattle.machine.specs.Laws.{taken_in}
use Rattle.machine.specs.Runs.{state_after, threads_of, tallies_of}
use Rattle.cut_laws.specs.Cuts.{IsCut, cut_play}

-- the state right after more steps, where `earlier` led to s: no local instruction was run since the last of them
abbrev pub stopped_from : ProgramValue → LimitsValue → List ℕ → List Step → State → List Step → State
stopped_from p limits list earlier s [] = s
stopped_from p limits list earlier s (step ∷ steps) =
    stopped_from p limits list (earlier ++ step ∷ []) (took (settled p limits list (is_full limits.entries earlier) s) step.found) steps

-- thread t right after these memory steps; after none, at its start
abbrev pub stopped_after : ProgramValue → LimitsValue → InputsValue → ℕ → List Step → State
stopped_after p limits inputs t steps = stopped_from p limits (inputs_of inputs t) [] (first_state t) steps

-- one more step is taken from the settled state before it
abbrev pub StopsStepByStep : Type 0
StopsStepByStep = (p : ProgramValue) (limits : LimitsValue) (inputs : InputsValue) (t : ℕ) (steps : List Step) (step : Step) →
    stopped_after p limits inputs t (steps ++ step ∷ []) ≡ took (state_after p limits inputs t steps) step.found

-- and settles to the state that wants the next one
abbrev pub StopsSettle : Type 0
StopsSettle = (p : ProgramValue) (limits : LimitsValue) (inputs : InputsValue) (t : ℕ) (steps : List Step) →
    settled p limits (inputs_of inputs t) (is_full limits.entries steps) (stopped_after p limits inputs t steps) ≡ state_after p limits inputs t steps

-- under an order that respects the log, the thread asked for stands right after its step of the runs that fit the log
abbrev pub StopsAsItRan : Type 0
StopsAsItRan = (p : ProgramValue) (log : Log) (runs : List (List Step)) (order : List Event) (thread step : ℕ) (cut : List ℕ) →
    Fits (threads_of p log.limits (taken_in log)) (tallies_of p log.limits (taken_in log)) p.words log runs → Respects log order →
    thread < length log.threads → step ≤ (thread_of log thread).steps → IsCut log thread step cut →
    stopped_after p log.limits (taken_in log) thread
    (steps_of (cut_play (threads_of p log.limits (taken_in log)) p.words log order cut).threads thread) ≡
    stopped_after p log.limits (taken_in log) thread (take step (steps_of runs thread))
