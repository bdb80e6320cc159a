-- What a plain machine has played: a program under limits with its inputs, and whose steps were taken.
use Rattle.std.specs.Prelude.{◌≡◌, ℕ, ◌+◌, List, [], ◌∷◌, ◌++◌, length}
use Rattle.replay_model.specs.Histories.{World, steps_of, step_in, IsWhole, history_of}
use Rattle.replay_model.specs.declared.Access.{Access}
use Rattle.replay_model.specs.declared.Want.{Want}
use Rattle.replay_model.specs.Steps.{Step, access_of}
use Rattle.replay_model.specs.Threads.{Threads}
use Rattle.machine.specs.Programs.{ProgramValue, LimitsValue}
use Rattle.machine.specs.Inputs.{InputsValue}
use Rattle.machine.specs.Runs.{threads_of, world_after}

pub record Played : Type 0 where
  pub program : ProgramValue
  pub limits : LimitsValue
  pub inputs : InputsValue
  pub taken : List ℕ

-- nothing was taken yet
abbrev pub unplayed : ProgramValue → LimitsValue → InputsValue → Played
unplayed p limits inputs = record { program = p; limits = limits; inputs = inputs; taken = [] }

abbrev pub threads_in : Played → Threads
threads_in played = threads_of played.program played.limits played.inputs

-- the memory and the steps of each thread, after what was taken
abbrev pub world_of : Played → World
world_of played = world_after played.program played.limits played.inputs played.taken

-- the steps of one thread
abbrev pub thread_steps : Played → ℕ → List Step
thread_steps played t = steps_of (world_of played).threads t

-- what a thread wants next
abbrev pub wanted_by : Played → ℕ → Want
wanted_by played t = threads_in played t (thread_steps played t)

-- the step that a thread would take next
abbrev pub next_step : Played → ℕ → Step
next_step played t = step_in (world_of played).memory (wanted_by played t)

-- the same as it is told
abbrev pub next_access : Played → ℕ → Access
next_access played t = access_of (length (thread_steps played t) + 1) (next_step played t)

-- a step of this thread was taken
abbrev pub after_step : Played → ℕ → Played
after_step played t = record played { taken = played.taken ++ t ∷ [] }

-- whose steps these turns take
abbrev pub steps_in : Played → List ℕ → List ℕ
steps_in played turns = history_of (threads_in played) turns (world_of played)

-- the threads had these turns
abbrev pub after_turns : Played → List ℕ → Played
after_turns played turns = record played { taken = played.taken ++ steps_in played turns }

-- only some first ones of the steps of these turns were taken
pub record HasBegun (old : Played) (turns : List ℕ) (new : Played) : Type 0 where
  pub first : List ℕ
  pub rest : List ℕ
  pub split : steps_in old turns ≡ first ++ rest
  pub left : new ≡ record old { taken = old.taken ++ first }

-- every thread has ended
abbrev pub IsOver : Played → Type 0
IsOver played = IsWhole (threads_in played) (world_of played)
