-- What comes of many threads at the same words.
use Rattle.std.specs.Prelude.{◌≡◌, ℕ, ◌<◌, length}
use Rattle.replay_model.specs.Logs.{ThreadLog}
use Rattle.machine.specs.Programs.{ProgramValue, LimitsValue}
use Rattle.machine.specs.Inputs.{InputsValue, inputs_of}
use Rattle.machine.specs.Cores.{Report}
use Rattle.tagged_words.specs.Views.{SharedWords, Progress}
use Rattle.tagged_words.specs.Hands.{IsOf, new_hand}
use Rattle.recorder.specs.declared.thread_runs.Finished.{Finished}
use Rattle.recorder.specs.Running.{IsFinished, HasBegun}

-- a hand of these words whose thread is one of the program's, and has taken no step
abbrev pub IsReady : SharedWords → ProgramValue → Progress → Type 0
IsReady words p hand = (hand ≡ new_hand words hand.thread) × (hand.thread < length p.threads)

-- the hand has the steps of a run of its thread that has begun
abbrev pub HasBegunIn : ProgramValue → LimitsValue → InputsValue → Progress → Type 0
HasBegunIn p limits inputs hand = HasBegun p limits (inputs_of inputs hand.thread) hand

-- its thread has run to its end at these words
abbrev pub IsDone : SharedWords → ProgramValue → LimitsValue → InputsValue → Finished → Type 0
IsDone words p limits inputs f = IsOf words f.hand × IsFinished p limits inputs f.hand.thread f.hand.steps f.log f.report

abbrev pub thread_of_hand : Progress → ℕ
thread_of_hand hand = hand.thread

abbrev pub thread_in : Finished → ℕ
thread_in f = f.hand.thread

abbrev pub hand_in : Finished → Progress
hand_in f = f.hand

abbrev pub log_in : Finished → ThreadLog
log_in f = f.log

abbrev pub report_in : Finished → Report
report_in f = f.report
