-- One thread that runs at shared words, and what comes of it.
use Rattle.std.specs.Prelude.{◌≡◌, ℕ, true, IsSome, option_and_then, List, [], length}
use Rattle.replay_model.specs.Steps.{Step}
use Rattle.replay_model.specs.Threads.{IsRun}
use Rattle.replay_model.specs.Logs.{ThreadLog}
use Rattle.replay_model.specs.RunLogs.{run_log}
use Rattle.machine.specs.Programs.{ProgramValue, LimitsValue, code_of}
use Rattle.machine.specs.Inputs.{InputsValue, inputs_of}
use Rattle.machine.specs.Cores.{State, Report, first_state, end_of, report_of}
use Rattle.machine.specs.Runs.{state_after, threads_of, tallies_of}
use Rattle.tagged_words.specs.Views.{Progress}
use Rattle.running_thread.specs.declared.thread.RunningThread.{RunningThread}
use Rattle.running_thread.specs.Running.{IsBegun, puts_out}
use Rattle.running_thread.specs.Threads.{IsThread, threads_with}
use Rattle.recorder.specs.declared.hand_words.HandWords.{HandWords}
use Rattle.recorder.specs.HandWords.{IsReady}

-- thread t has run to its end: these are its memory steps, and the log and the report are those of this run
pub record IsFinished (p : ProgramValue) (limits : LimitsValue) (inputs : InputsValue) (t : ℕ) (steps : List Step) (log : ThreadLog) (report : Report) : Type 0 where
  pub run : IsRun (threads_of p limits inputs) t steps
  pub logged : log ≡ run_log (threads_of p limits inputs) (tallies_of p limits inputs) t steps
  pub reported : report ≡ report_of (state_after p limits inputs t steps)

-- thread t has run to its end with this input list, whatever the lists of the others are
abbrev pub HasRun : ProgramValue → LimitsValue → List ℕ → ℕ → List Step → ThreadLog → Report → Type 0
HasRun p limits list t steps log report = (inputs : InputsValue) → inputs_of inputs t ≡ list → IsFinished p limits inputs t steps log report

-- a thread that runs: its program, the limits, its input list, its state, and what it did at the words
pub record Running : Type 0 where
  pub program : ProgramValue
  pub limits : LimitsValue
  pub list : List ℕ
  pub core : State
  pub hand : Progress

-- the thread with these parts
abbrev pub runner_of : ProgramValue → LimitsValue → List ℕ → State → Progress → Running
runner_of p limits list core hand = record { program = p; limits = limits; list = list; core = core; hand = hand }

-- the thread of a hand at its start
abbrev pub new_runner : ProgramValue → LimitsValue → List ℕ → Progress → Running
new_runner p limits list hand = runner_of p limits list (first_state hand.thread) hand

-- the hand has the steps of a run of its thread that has begun
abbrev pub HasBegun : ProgramValue → LimitsValue → List ℕ → Progress → Type 0
HasBegun p limits list hand = IsBegun (threads_with p limits list) hand.thread hand.steps

-- the hand has taken no step
abbrev pub TookNoStep : Progress → Type 0
TookNoStep hand = hand.steps ≡ []

-- the code of the hand's thread has an instruction that puts out a value
abbrev pub PutsOut : ProgramValue → Progress → Type 0
PutsOut p hand = puts_out (code_of p hand.thread) ≡ true

-- the thread, its hand at the words and the room for the numbers taken are those of a thread that takes these; local instructions may be left
pub record IsRunning (p : ProgramValue) (limits : LimitsValue) (list : List ℕ) (thread : RunningThread) (at : HandWords) (taken : List ℕ) : Type 0 where
  pub is : IsThread p limits list at.hand.thread at.hand.steps thread
  pub still : IsReady at (length p.words) at.hand.thread at.hand.steps
  pub room : taken ≡ list

-- the thread is at its end
abbrev pub IsAtEnd : Running → Type 0
IsAtEnd r = IsSome (option_and_then end_of r.core.pending)

-- the same thread of the same program at the same words
pub record IsSame (old new : Running) : Type 0 where
  pub program : new.program ≡ old.program
  pub limits : new.limits ≡ old.limits
  pub list : new.list ≡ old.list
  pub words : new.hand.words ≡ old.hand.words
  pub thread : new.hand.thread ≡ old.hand.thread
