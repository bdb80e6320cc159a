-- The threads of a program as functions of their memory steps.
use Rattle.std.specs.Prelude.{ℕ, List, [], ◌∷◌, ◌++◌, length, take, map}
use Rattle.std.specs.List.{range_with_len}
use Rattle.light_base.specs.declared.tag.Cell.{Cell}
use Rattle.replay_model.specs.Steps.{Step}
use Rattle.replay_model.specs.Threads.{Threads}
use Rattle.replay_model.specs.ThreadLogs.{is_full}
use Rattle.replay_model.specs.RunLogs.{Tallies}
use Rattle.replay_model.specs.Histories.{World, steps_of, opening, play, rounds, follow}
use Rattle.machine.specs.Programs.{ProgramValue, LimitsValue}
use Rattle.machine.specs.Inputs.{InputsValue, inputs_of}
use Rattle.machine.specs.Cores.{State, Report, first_state, settled, took, pending_want, report_of}

-- the state of a thread with this input list after more steps, where `earlier` led to s
abbrev pub state_from : ProgramValue → LimitsValue → List ℕ → List Step → State → List Step → State
state_from p limits list earlier s [] = settled p limits list (is_full limits.entries earlier) s
state_from p limits list earlier s (step ∷ steps) =
    state_from p limits list (earlier ++ step ∷ []) (took (settled p limits list (is_full limits.entries earlier) s) step.found) steps

-- thread t after these memory steps, with its local instructions run up to the next one or to its end
abbrev pub state_after : ProgramValue → LimitsValue → InputsValue → ℕ → List Step → State
state_after p limits inputs t steps = state_from p limits (inputs_of inputs t) [] (first_state t) steps

-- what each thread of the program wants after its steps, under these inputs
abbrev pub threads_of : ProgramValue → LimitsValue → InputsValue → Threads
threads_of p limits inputs t steps = pending_want (state_after p limits inputs t steps)

-- how many instructions each thread has finished after its steps, and which input numbers it has taken
abbrev pub tallies_of : ProgramValue → LimitsValue → InputsValue → Tallies
tallies_of p limits inputs t steps =
    let s = state_after p limits inputs t steps in record { instr = s.instr; taken = take s.taken (inputs_of inputs t) }

-- before any step
abbrev pub start_of : ProgramValue → World
start_of p = opening p.words (length p.threads)

-- the memory and the steps of each thread after a history
abbrev pub world_after : ProgramValue → LimitsValue → InputsValue → List ℕ → World
world_after p limits inputs history = play (threads_of p limits inputs) history (start_of p)

-- the history of a program whose threads take turns in rounds
abbrev pub rounds_of : ProgramValue → LimitsValue → InputsValue → List ℕ
rounds_of p limits inputs = rounds (threads_of p limits inputs) limits.steps p.words (length p.threads)

-- the same after a step of each thread named, ended ones passed over
abbrev pub follow_of : ProgramValue → LimitsValue → InputsValue → List ℕ → List ℕ
follow_of p limits inputs order = follow (threads_of p limits inputs) limits.steps p.words (length p.threads) order

-- what each thread reports after a history
abbrev pub reports_of : ProgramValue → LimitsValue → InputsValue → World → List Report
reports_of p limits inputs world = map (λ (t : ℕ). report_of (state_after p limits inputs t (steps_of world.threads t))) (range_with_len 0 (length p.threads))

-- the last value of each word
abbrev pub values_of : World → List ℕ
values_of world = map (λ (cell : Cell). cell.value) world.memory
