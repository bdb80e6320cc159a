-- A running thread is what its steps made of it, and what a step and a run add to them.
use Rattle.std.specs.Prelude.{◌≡◌, ℕ, ◌+◌, ◌<◌, ◌≤◌, ◌⊎◌, false, Option, Some, None, List, [], ◌∷◌, ◌++◌, length}
use Rattle.replay_model.specs.declared.End.{End}
use Rattle.replay_model.specs.declared.Want.TheVariants as want
use Rattle.replay_model.specs.declared.Want.{Want}
use Rattle.replay_model.specs.Steps.{Event, Cell, Step, has_ended}
use Rattle.replay_model.specs.Threads.{Threads}
use Rattle.replay_model.specs.ThreadLogs.{thread_log, is_full}
use Rattle.machine.specs.Programs.{ProgramValue, LimitsValue, IsProgram, AreLimits}
use Rattle.machine.specs.Cores.{State, first_state, settled, pending_want}
use Rattle.machine.specs.Runs.{state_from}
use Rattle.running_thread.specs.declared.thread.RunningThread.{RunningThread}
use Rattle.running_thread.specs.declared.thread.Setting.{Setting}
use Rattle.running_thread.specs.declared.thread.Moved.{Moved}
use Rattle.running_thread.specs.declared.thread.Moved.TheVariants.{Took, Ended}
use Rattle.running_thread.specs.Running.{IsBegun, Runs, event_after, step_that}

-- the state to which the steps of thread t lead, if its input list is this one
abbrev pub state_with : ProgramValue → LimitsValue → List ℕ → ℕ → List Step → State
state_with p limits list t steps = state_from p limits list [] (first_state t) steps

-- what it wants next
abbrev pub threads_with : ProgramValue → LimitsValue → List ℕ → Threads
threads_with p limits list t steps = pending_want (state_with p limits list t steps)

-- the thread is what these steps made of it, but for local instructions that are left
pub record IsThread (p : ProgramValue) (limits : LimitsValue) (list : List ℕ) (t : ℕ) (steps : List Step) (thread : RunningThread) : Type 0 where
  pub rules : IsProgram p
  pub bounds : AreLimits limits
  pub there : t < length p.threads
  pub short : length list ≤ 65536
  pub begun : IsBegun (threads_with p limits list) t steps
  pub core : settled p limits list (is_full limits.entries steps) thread.core ≡ state_with p limits list t steps
  pub own : thread.core.thread ≡ t
  pub counted : thread.core.steps ≡ length steps
  pub words : thread.log.words ≡ length p.words
  pub limit : thread.log.limit ≡ limits.entries
  pub logged : thread.log.entries ≡ thread_log steps

-- the thread took the step that it wanted, after these steps
pub record TakesStep {X : Type 0} (ready : X → ℕ → ℕ → List Step → Type 0) (takes : X → Event → Want → Option Cell → X → Type 0) (p : ProgramValue) (limits : LimitsValue) (list : List ℕ) (t : ℕ) (steps : List Step)
    (old : X) (wanted : Want) (found : Option Cell) (new : X) (thread : RunningThread) : Type 0 where
  pub wants : threads_with p limits list t steps ≡ wanted
  pub lives : has_ended wanted ≡ false
  pub taken : takes old (event_after t steps) wanted found new
  pub still : ready new (length p.words) t (steps ++ step_that wanted found ∷ [])
  pub is : IsThread p limits list t (steps ++ step_that wanted found ∷ []) thread

-- the thread has ended after these steps, and took none
pub record IsAtEnd {X : Type 0} (p : ProgramValue) (limits : LimitsValue) (list : List ℕ) (t : ℕ) (steps : List Step) (old : X) (end : End) (new : X) (thread : RunningThread) : Type 0 where
  pub wants : threads_with p limits list t steps ≡ want.Ended end
  pub same : new ≡ old
  pub is : IsThread p limits list t steps thread
  pub settled : thread.core ≡ state_with p limits list t steps

-- one or the other, as it is told
abbrev pub Moves : {X : Type 0} → (X → ℕ → ℕ → List Step → Type 0) → (X → Event → Want → Option Cell → X → Type 0) → ProgramValue → LimitsValue → List ℕ → ℕ → List Step → X → Moved → X → RunningThread → Type 0
Moves ready takes p limits list t steps old (Took number wanted found) new thread = (number ≡ length steps + 1) × TakesStep ready takes p limits list t steps old wanted found new thread
Moves ready takes p limits list t steps old (Ended end) new thread = IsAtEnd p limits list t steps old end new thread

-- some steps were added to these
pub record HasAdded {X : Type 0} (ready : X → ℕ → ℕ → List Step → Type 0) (takes : X → Event → Want → Option Cell → X → Type 0) (p : ProgramValue) (limits : LimitsValue) (list : List ℕ) (t : ℕ) (steps added : List Step)
    (old new : X) (thread : RunningThread) : Type 0 where
  pub runs : Runs takes (threads_with p limits list) t steps added old new
  pub still : ready new (length p.words) t (steps ++ added)
  pub is : IsThread p limits list t (steps ++ added) thread

-- how a thread with these steps has ended, where it did before its last step
abbrev pub IsEndBefore : ProgramValue → LimitsValue → List ℕ → ℕ → ℕ → List Step → Option End → RunningThread → Type 0
IsEndBefore p limits list t last steps None thread = last ≤ length steps
IsEndBefore p limits list t last steps (Some end) thread =
    (length steps < last) × (threads_with p limits list t steps ≡ want.Ended end) × (thread.core ≡ state_with p limits list t steps)

-- it ran up to its last step, or to an end before it
pub record HasRun {X : Type 0} (ready : X → ℕ → ℕ → List Step → Type 0) (takes : X → Event → Want → Option Cell → X → Type 0) (p : ProgramValue) (limits : LimitsValue) (list : List ℕ) (t : ℕ) (steps : List Step) (last : ℕ)
    (old : X) (end : Option End) (new : X) (thread : RunningThread) : Type 0 where
  pub added : List Step
  pub has : HasAdded ready takes p limits list t steps added old new thread
  pub within : (length (steps ++ added) ≤ last) ⊎ (added ≡ [])
  pub ended : IsEndBefore p limits list t last (steps ++ added) end thread

-- it was stopped before its last step
pub record HasStopped {X : Type 0} (ready : X → ℕ → ℕ → List Step → Type 0) (takes : X → Event → Want → Option Cell → X → Type 0) (p : ProgramValue) (limits : LimitsValue) (list : List ℕ) (t : ℕ) (steps : List Step) (last : ℕ)
    (old new : X) (thread : RunningThread) : Type 0 where
  pub added : List Step
  pub has : HasAdded ready takes p limits list t steps added old new thread
  pub before : length (steps ++ added) < last

-- it ran to its end
pub record HasEnded {X : Type 0} (ready : X → ℕ → ℕ → List Step → Type 0) (takes : X → Event → Want → Option Cell → X → Type 0) (p : ProgramValue) (limits : LimitsValue) (list : List ℕ) (t : ℕ) (steps : List Step)
    (old : X) (end : End) (new : X) (thread : RunningThread) : Type 0 where
  pub added : List Step
  pub has : HasAdded ready takes p limits list t steps added old new thread
  pub within : length (steps ++ added) ≤ limits.steps
  pub wants : threads_with p limits list t (steps ++ added) ≡ want.Ended end
  pub settled : thread.core ≡ state_with p limits list t (steps ++ added)

-- ---- what is told of a thread on its setting, for whatever steps made it what it is

-- some steps made the thread what it is, and the words may take its next one
abbrev pub CanRun : {X : Type 0} → (X → ℕ → ℕ → List Step → Type 0) → Setting → X → RunningThread → Type 0
CanRun ready on words thread = (steps : List Step) × IsThread on.program.now on.limits.now on.inputs.now thread.core.thread steps thread ×
    ready words (length on.program.now.words) thread.core.thread steps

-- this holds of the steps that made the thread what it is
abbrev pub HoldsOf : {X : Type 0} → (X → ℕ → ℕ → List Step → Type 0) → Setting → X → RunningThread → (List Step → Type 0) → Type 0
HoldsOf ready on words thread P = (steps : List Step) → IsThread on.program.now on.limits.now on.inputs.now thread.core.thread steps thread →
    ready words (length on.program.now.words) thread.core.thread steps → P steps

-- a step was taken, or the thread has ended
abbrev pub MovesOn : {X : Type 0} → (X → ℕ → ℕ → List Step → Type 0) → (X → Event → Want → Option Cell → X → Type 0) → Setting → X → RunningThread → Moved → X → RunningThread → Type 0
MovesOn ready takes on old before moved new thread = HoldsOf ready on old before (λ steps.
    Moves ready takes on.program.now on.limits.now on.inputs.now before.core.thread steps old moved new thread)

-- the thread is what the same steps made of it
abbrev pub StaysOn : Setting → RunningThread → RunningThread → Type 0
StaysOn on before thread = (steps : List Step) → IsThread on.program.now on.limits.now on.inputs.now before.core.thread steps before →
    IsThread on.program.now on.limits.now on.inputs.now before.core.thread steps thread

-- it ran up to its last step, or to an end before it
abbrev pub RunsOn : {X : Type 0} → (X → ℕ → ℕ → List Step → Type 0) → (X → Event → Want → Option Cell → X → Type 0) → Setting → ℕ → X → RunningThread → Option End → X → RunningThread → Type 0
RunsOn ready takes on last old before end new thread = HoldsOf ready on old before (λ steps.
    HasRun ready takes on.program.now on.limits.now on.inputs.now before.core.thread steps last old end new thread)

-- it was stopped before its last step
abbrev pub StopsOn : {X : Type 0} → (X → ℕ → ℕ → List Step → Type 0) → (X → Event → Want → Option Cell → X → Type 0) → Setting → ℕ → X → RunningThread → X → RunningThread → Type 0
StopsOn ready takes on last old before new thread = HoldsOf ready on old before (λ steps.
    HasStopped ready takes on.program.now on.limits.now on.inputs.now before.core.thread steps last old new thread)

-- it ran to its end
abbrev pub EndsOn : {X : Type 0} → (X → ℕ → ℕ → List Step → Type 0) → (X → Event → Want → Option Cell → X → Type 0) → Setting → X → RunningThread → End → X → RunningThread → Type 0
EndsOn ready takes on old before end new thread = HoldsOf ready on old before (λ steps.
    HasEnded ready takes on.program.now on.limits.now on.inputs.now before.core.thread steps old end new thread)
