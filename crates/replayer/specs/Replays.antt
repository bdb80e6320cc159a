-- What a replay has played: a program by a log, and which turns were taken.
use Rattle.std.specs.Prelude.{◌≡◌, ℕ, ◌<◌, ◌≤◌, List, [], ◌∷◌, ◌++◌, length, ◌⊎◌}
use Rattle.replay_model.specs.declared.Want.TheVariants.{Ended}
use Rattle.replay_model.specs.Steps.{Event, Step}
use Rattle.replay_model.specs.Threads.{Threads}
use Rattle.replay_model.specs.Histories.{World, steps_of, opening, wanted}
use Rattle.replay_model.specs.Logs.{Log}
use Rattle.replay_model.specs.Events.{keeps}
use Rattle.replay_model.specs.SkipPlay as skip_play
use Rattle.machine.specs.Programs.{ProgramValue}
use Rattle.machine.specs.Laws.{taken_in}
use Rattle.machine.specs.Runs.{threads_of}
use Rattle.replayer.specs.declared.replay.Turned.{Turned}
use Rattle.replayer.specs.declared.replay.Turned.TheVariants.{Done, Short}

pub record Replaying : Type 0 where
  pub program : ProgramValue
  pub log : Log
  pub turns : List Event

-- no turn was taken yet
abbrev pub unplayed : ProgramValue → Log → Replaying
unplayed p log = record { program = p; log = log; turns = [] }

-- one more turn was taken
abbrev pub after_turn : Replaying → Event → Replaying
after_turn replaying event = record replaying { turns = replaying.turns ++ event ∷ [] }

-- the threads of the program under the limits of the log, each with the numbers that the log holds for it
abbrev pub threads_by : ProgramValue → Log → Threads
threads_by p log = threads_of p log.limits (taken_in log)

-- the memory and the steps of each thread, after turns in which the writes that the log names were made
abbrev pub world_by : ProgramValue → Log → List Event → World
world_by p log turns = skip_play.turns (threads_by p log) (keeps log) turns (opening p.words (length log.threads))

abbrev pub world_of : Replaying → World
world_of replaying = world_by replaying.program replaying.log replaying.turns

-- the end of a skip play by this order
abbrev pub replay_by : ProgramValue → Log → List Event → World
replay_by p log order = skip_play.skip_play (threads_by p log) p.words log order

-- the same once each thread has run to its end
abbrev pub ended : Replaying → World
ended replaying =
    skip_play.finish (threads_by replaying.program replaying.log) (keeps replaying.log) replaying.log.limits.steps (length replaying.log.threads) (world_of replaying)

-- the turns of an order were taken
pub record IsBy (p : ProgramValue) (log : Log) (order : List Event) (replaying : Replaying) : Type 0 where
  pub of_program : replaying.program ≡ p
  pub by_log : replaying.log ≡ log
  pub world : world_of replaying ≡ world_by p log order

-- the steps of a thread
abbrev pub thread_steps : Replaying → ℕ → List Step
thread_steps replaying t = steps_of (world_of replaying).threads t

-- after its turn the thread has taken the step, or has ended before it, like this
abbrev pub IsTurned : Replaying → Event → Turned → Type 0
IsTurned new event Done = event.step ≤ length (thread_steps new event.thread)
IsTurned new event (Short end) =
    (length (thread_steps new event.thread) < event.step) × (wanted (threads_by new.program new.log) event.thread (world_of new) ≡ Ended end)

-- no more than a turn up to an earlier step was taken; the turn may still be taken
pub record HasBegun (old : Replaying) (event : Event) (new : Replaying) : Type 0 where
  pub earlier : (new ≡ old) ⊎ ((step : ℕ) × (step < event.step) × (new ≡ after_turn old (record event { step = step })))
  pub again : world_of (after_turn new event) ≡ world_of (after_turn old event)
