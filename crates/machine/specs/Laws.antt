-- What holds of the threads of every program.
use Rattle.std.specs.Prelude.{◌≡◌, ℕ, Bool, Some, IsSome, List, [], ◌∷◌, ◌++◌, length, take, map}
use Rattle.replay_model.specs.Steps.{Tag, Cell, Step}
use Rattle.replay_model.specs.declared.Want.TheVariants.{Load, Cond}
use Rattle.replay_model.specs.Threads.{Threads, StaysWithin, HasOnly, EndsWithin, IsRun}
use Rattle.replay_model.specs.Fitting.{Fits}
use Rattle.replay_model.specs.Logs.{Log, ThreadLog}
use Rattle.replay_model.specs.ThreadLogs.{is_full}
use Rattle.replay_model.specs.KeptLimits.{KeepsLimits}
use Rattle.machine.specs.Programs.{ProgramValue, LimitsValue}
use Rattle.machine.specs.Inputs.{InputsValue, AreShort, inputs_of}
use Rattle.machine.specs.Cores.{State, settled, took}
use Rattle.machine.specs.Runs.{state_after, threads_of, tallies_of}

-- no thread asks for a word that the program does not have
abbrev pub StayWithinWords : Type 0
StayWithinWords = (p : ProgramValue) (limits : LimitsValue) (inputs : InputsValue) → StaysWithin (threads_of p limits inputs) (length p.words)

-- a thread that the program does not have has ended
abbrev pub HaveOnlyItsThreads : Type 0
HaveOnlyItsThreads = (p : ProgramValue) (limits : LimitsValue) (inputs : InputsValue) → HasOnly (threads_of p limits inputs) (length p.threads)

-- no thread takes more steps than the limit says
abbrev pub EndWithinSteps : Type 0
EndWithinSteps = (p : ProgramValue) (limits : LimitsValue) (inputs : InputsValue) → EndsWithin (threads_of p limits inputs) limits.steps

-- a state counts the steps that led to it
abbrev pub CountSteps : Type 0
CountSteps = (p : ProgramValue) (limits : LimitsValue) (inputs : InputsValue) (t : ℕ) (steps : List Step) →
    (state_after p limits inputs t steps).steps ≡ length steps

-- a state is one of its thread
abbrev pub KeepThread : Type 0
KeepThread = (p : ProgramValue) (limits : LimitsValue) (inputs : InputsValue) (t : ℕ) (steps : List Step) → (state_after p limits inputs t steps).thread ≡ t

-- one more step is taken from the state before it
abbrev pub GoStepByStep : Type 0
GoStepByStep = (p : ProgramValue) (limits : LimitsValue) (inputs : InputsValue) (t : ℕ) (steps : List Step) (step : Step) →
    state_after p limits inputs t (steps ++ step ∷ []) ≡
    settled p limits (inputs_of inputs t) (is_full limits.entries (steps ++ step ∷ [])) (took (state_after p limits inputs t steps) step.found)

-- a settled state has something pending
abbrev pub SettleWithPending : Type 0
SettleWithPending = (p : ProgramValue) (limits : LimitsValue) (list : List ℕ) (full : Bool) (s : State) → IsSome (settled p limits list full s).pending

-- a state with something pending is settled
abbrev pub StaySettled : Type 0
StaySettled = (p : ProgramValue) (limits : LimitsValue) (list : List ℕ) (full : Bool) (s : State) → IsSome s.pending → settled p limits list full s ≡ s

-- the threads keep to their limits where the input lists are short: no run has more instructions or takes more numbers, no read comes where
-- the log is full, and an address is bad only where no word has it
abbrev pub KeepToLimits : Type 0
KeepToLimits = (p : ProgramValue) (limits : LimitsValue) (inputs : InputsValue) → AreShort inputs →
    KeepsLimits (threads_of p limits inputs) (tallies_of p limits inputs) (length p.words) limits

-- the last of these steps of a thread was a load of this word, which found a cell with this tag
pub record FollowsLoad (threads : Threads) (t : ℕ) (steps : List Step) (word : ℕ) (seen : Tag) : Type 0 where
  pub earlier : List Step
  pub last : Step
  pub whole : steps ≡ earlier ++ last ∷ []
  pub load : threads t earlier ≡ Load word
  pub cell : Cell
  pub found : last.found ≡ Some cell
  pub tag : cell.tag ≡ seen

-- a thread wants a conditional write only right after a load of this very word, which found the tag that it expects
abbrev pub CompareAfterLoads : Type 0
CompareAfterLoads = (p : ProgramValue) (limits : LimitsValue) (inputs : InputsValue) (t : ℕ) (steps : List Step) (word : ℕ) (seen : Tag) (value : ℕ) →
    threads_of p limits inputs t steps ≡ Cond word seen value → FollowsLoad (threads_of p limits inputs) t steps word seen

-- ---- the numbers that are taken are all that matter

-- the list of thread t in these other inputs is just what it takes in these steps
abbrev pub HasTaken : ProgramValue → LimitsValue → InputsValue → ℕ → List Step → InputsValue → Type 0
HasTaken p limits inputs t steps others = inputs_of others t ≡ (tallies_of p limits inputs t steps).taken

-- under the numbers that it takes in some steps a thread is in the same state at the end of them, and after each first part of them
abbrev pub RunOnTaken : Type 0
RunOnTaken = (p : ProgramValue) (limits : LimitsValue) (inputs others : InputsValue) (t : ℕ) (steps : List Step) → HasTaken p limits inputs t steps others →
    (k : ℕ) → state_after p limits others t (take k steps) ≡ state_after p limits inputs t (take k steps)

-- it counts the same and takes the same numbers
abbrev pub TallyOnTaken : Type 0
TallyOnTaken = (p : ProgramValue) (limits : LimitsValue) (inputs others : InputsValue) (t : ℕ) (steps : List Step) → HasTaken p limits inputs t steps others →
    tallies_of p limits others t steps ≡ tallies_of p limits inputs t steps

-- its run stays a run
abbrev pub KeepRunOnTaken : Type 0
KeepRunOnTaken = (p : ProgramValue) (limits : LimitsValue) (inputs others : InputsValue) (t : ℕ) (steps : List Step) → HasTaken p limits inputs t steps others →
    IsRun (threads_of p limits inputs) t steps → IsRun (threads_of p limits others) t steps

-- the numbers that a log holds, as inputs
abbrev pub taken_in : Log → InputsValue
taken_in log = map (λ (thread : ThreadLog). thread.taken) log.threads

-- runs that fit a log under some inputs fit it under the numbers that it holds
abbrev pub FitOnTaken : Type 0
FitOnTaken = (p : ProgramValue) (limits : LimitsValue) (inputs : InputsValue) (initial : List ℕ) (log : Log) (runs : List (List Step)) →
    Fits (threads_of p limits inputs) (tallies_of p limits inputs) initial log runs →
    Fits (threads_of p limits (taken_in log)) (tallies_of p limits (taken_in log)) initial log runs
