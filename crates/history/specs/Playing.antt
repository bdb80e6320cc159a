-- The state of a plain machine.
use Rattle.std.specs.Prelude.{◌≡◌, ℕ, ◌+◌, ◌<◌, nat_le, false, option_and_then, IsSome, List, [], ◌∷◌, ◌++◌, length, slice_index_or}
use Rattle.replay_model.specs.declared.Access.{Access}
use Rattle.replay_model.specs.declared.Want.TheVariants as want
use Rattle.replay_model.specs.Steps.{Step, word_of, wrote, found_in, put, has_ended, access_of, accesses_from}
use Rattle.replay_model.specs.Histories.{IsLegal, step_in}
use Rattle.machine.specs.Programs.{ProgramValue, LimitsValue}
use Rattle.machine.specs.Cores.{State, Report, settled, end_of, report_of}
use Rattle.machine.specs.Inputs.{InputsValue, inputs_of}
use Rattle.machine.specs.Runs.{start_of}
use Rattle.running_thread.specs.declared.thread.Setting.{Setting}
use Rattle.running_thread.specs.Running.{event_after}
use Rattle.running_thread.specs.Threads.{IsThread, threads_with}
use Rattle.history.specs.declared.plain.Stepped.{Stepped}
use Rattle.history.specs.declared.plain.Stepped.TheVariants.{Took, Ended}
use Rattle.history.specs.declared.seat.Seat.{Seat}
use Rattle.history.specs.declared.words.PlainWords.{PlainWords}
use Rattle.history.specs.Played.{Played, threads_in, world_of, thread_steps}

-- what is kept of thread t, which has this input list, is what these steps made of it
pub record IsSeat (p : ProgramValue) (limits : LimitsValue) (list : List ℕ) (t : ℕ) (steps : List Step) (seat : Seat) : Type 0 where
  pub runs : IsThread p limits list t steps seat.thread
  pub told : seat.accesses.items ≡ accesses_from 1 steps

-- it took the step that it wanted, which is told
pub record TakesNext (p : ProgramValue) (limits : LimitsValue) (list : List ℕ) (t : ℕ) (steps : List Step) (old : PlainWords) (access : Access) (new : PlainWords) (seat : Seat) : Type 0 where
  pub lives : has_ended (threads_with p limits list t steps) ≡ false
  pub told : access ≡ access_of (length steps + 1) (step_in old.cells.items (threads_with p limits list t steps))
  pub cells : new.cells.items ≡ put old.cells.items (word_of (threads_with p limits list t steps)) (event_after t steps)
      (wrote (threads_with p limits list t steps) (found_in old.cells.items (threads_with p limits list t steps)))
  pub is : IsSeat p limits list t (steps ++ step_in old.cells.items (threads_with p limits list t steps) ∷ []) seat

-- it did so, or it has ended, and all is as it was
abbrev pub Steps : ProgramValue → LimitsValue → List ℕ → ℕ → List Step → PlainWords → Stepped → PlainWords → Seat → Type 0
Steps p limits list t steps old (Took access) new seat = TakesNext p limits list t steps old access new seat
Steps p limits list t steps old (Ended end) new seat = (threads_with p limits list t steps ≡ want.Ended end) × (new ≡ old) × IsSeat p limits list t steps seat

-- ---- the same on a setting, for whatever steps made the seat what it is

abbrev pub CanStep : Setting → PlainWords → Seat → Type 0
CanStep on words seat = (steps : List Step) × IsSeat on.program.now on.limits.now on.inputs.now seat.thread.core.thread steps seat × (length words.cells.items ≡ length on.program.now.words)

abbrev pub StepsOn : Setting → PlainWords → Seat → Stepped → PlainWords → Seat → Type 0
StepsOn on old before stepped new seat = (steps : List Step) → IsSeat on.program.now on.limits.now on.inputs.now before.thread.core.thread steps before →
    length old.cells.items ≡ length on.program.now.words → Steps on.program.now on.limits.now on.inputs.now before.thread.core.thread steps old stepped new seat

abbrev pub StaysOn : Setting → Seat → Seat → Type 0
StaysOn on before seat = (steps : List Step) → IsSeat on.program.now on.limits.now on.inputs.now before.thread.core.thread steps before →
    IsSeat on.program.now on.limits.now on.inputs.now before.thread.core.thread steps seat

-- ---- all threads

-- so many threads, each at its start
pub record AreFresh (p : ProgramValue) (limits : LimitsValue) (inputs : InputsValue) (count : ℕ) (seats : List Seat) : Type 0 where
  pub counted : length seats ≡ count
  pub each : (t : ℕ) (seat : Seat) → t < count → IsSeat p limits (inputs_of inputs t) t [] (slice_index_or seats t seat)

-- the words and the threads are those that a legal history leads to
pub record IsPlaying (played : Played) (words : PlainWords) (seats : List Seat) : Type 0 where
  pub legal : IsLegal (threads_in played) played.taken (start_of played.program)
  pub memory : words.cells.items ≡ (world_of played).memory
  pub counted : length seats ≡ length played.program.threads
  pub listed : length played.inputs ≡ length played.program.threads
  pub each : (t : ℕ) (seat : Seat) → t < length seats → IsSeat played.program played.limits (inputs_of played.inputs t) t (thread_steps played t) (slice_index_or seats t seat)

-- ---- what a thread reports

-- the core after it ran up to its next step or its end
abbrev pub run_core : ProgramValue → LimitsValue → InputsValue → Seat → State
run_core p limits inputs seat = settled p limits (inputs_of inputs seat.thread.core.thread) (nat_le seat.thread.log.limit (length seat.thread.log.entries)) seat.thread.core

-- the thread is one of the program's, and has ended
pub record MayReport (p : ProgramValue) (limits : LimitsValue) (inputs : InputsValue) (seat : Seat) : Type 0 where
  pub thread : seat.thread.core.thread < length p.threads
  pub ended : IsSome (option_and_then end_of (run_core p limits inputs seat).pending)

-- what it reports
abbrev pub seat_report : ProgramValue → LimitsValue → InputsValue → Seat → Report
seat_report p limits inputs seat = report_of (run_core p limits inputs seat)
