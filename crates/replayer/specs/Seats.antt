-- The state of a replay.
use Rattle.std.specs.Prelude.{◌≡◌, ℕ, ◌<◌, ◌≤◌, Option, Some, None, IsSome, option_and_then, List, [], length, slice_index_or, map}
use Rattle.replay_model.specs.declared.End.{End}
use Rattle.replay_model.specs.declared.Want.TheVariants.{Ended}
use Rattle.replay_model.specs.Steps.{Cell, Step}
use Rattle.replay_model.specs.Histories.{World, steps_of, wanted}
use Rattle.replay_model.specs.Threads.{Threads}
use Rattle.replay_model.specs.Events.{keeps}
use Rattle.replay_model.specs.SkipPlay.{moves, turn, finish}
use Rattle.replay_model.specs.Logs.{Log}
use Rattle.replay_model.specs.RunLogs.{last_tags}
use Rattle.machine.specs.Programs.{ProgramValue}
use Rattle.machine.specs.Inputs.{inputs_of}
use Rattle.machine.specs.Cores.{end_of, end_or_halted, report_of}
use Rattle.machine.specs.Laws.{taken_in}
use Rattle.machine.specs.Runs.{state_after}
use Rattle.running_thread.specs.declared.thread.RunningThread.{RunningThread}
use Rattle.running_thread.specs.Threads.{IsThread}
use Rattle.replayer.specs.declared.words.ReplayWords.{ReplayWords}
use Rattle.replayer.specs.declared.replay.Replayed.{Replayed}
use Rattle.replayer.specs.declared.replay.Replayed.TheVariants.{Same, Differs}
use Rattle.replayer.specs.Differences.{Part, part_of, items, items_of, DifferFirst}
use Rattle.replayer.specs.Replays.{Replaying, threads_by, world_of}
use Rattle.replayer.specs.KeptSteps.{AreLeft}
use Rattle.replayer.specs.Words.{AreWords}

-- thread t is what these steps made of it, but for local instructions that are left
abbrev pub IsSeat : ProgramValue → Log → ℕ → List Step → RunningThread → Type 0
IsSeat p log t steps thread = IsThread p log.limits (inputs_of (taken_in log) t) t steps thread

-- the words, and thread t, are those of this world
pub record IsAt (p : ProgramValue) (log : Log) (world : World) (t : ℕ) (words : ReplayWords) (thread : RunningThread) : Type 0 where
  pub are : AreWords p log world words
  pub seated : IsSeat p log t (steps_of world.threads t) thread

-- the words and all threads are those of this world
pub record IsShown (p : ProgramValue) (log : Log) (world : World) (words : ReplayWords) (seats : List RunningThread) : Type 0 where
  pub are : AreWords p log world words
  pub seated : length seats ≡ length p.threads
  pub each : (t : ℕ) (seat : RunningThread) → t < length seats → IsSeat p log t (steps_of world.threads t) (slice_index_or seats t seat)

-- the state is that of what was played
pub record IsReplaying (replaying : Replaying) (kept : ReplayWords) (seats : List RunningThread) : Type 0 where
  pub threads : length replaying.program.threads ≡ length replaying.log.threads
  pub words : length replaying.program.words ≡ length replaying.log.last_tags
  pub shown : IsShown replaying.program replaying.log (world_of replaying) kept seats

-- the world after thread t had a turn up to this step
abbrev pub turned : ProgramValue → Log → ℕ → ℕ → World → World
turned p log t step world = turn (threads_by p log) (keeps log) (record { thread = t; step = step }) world

-- how the thread has ended, where it did before its last step
abbrev pub IsEndBefore : Threads → ℕ → ℕ → World → Option End → Type 0
IsEndBefore threads t last world None = last ≤ length (steps_of world.threads t)
IsEndBefore threads t last world (Some end) = (length (steps_of world.threads t) < last) × (wanted threads t world ≡ Ended end)

-- thread t had its turn up to this step
pub record HasRun (p : ProgramValue) (log : Log) (t last : ℕ) (world : World) (end : Option End) (words : ReplayWords) (seat : RunningThread) : Type 0 where
  pub at : IsAt p log (turned p log t last world) t words seat
  pub ended : IsEndBefore (threads_by p log) t last (turned p log t last world) end

-- thread t had a turn up to an earlier step, and the rest of its turn is left
pub record HasStopped (p : ProgramValue) (log : Log) (t last : ℕ) (world : World) (words : ReplayWords) (seat : RunningThread) : Type 0 where
  pub before : seat.core.steps < last
  pub at : IsAt p log (turned p log t seat.core.steps world) t words seat
  pub again : turned p log t last (turned p log t seat.core.steps world) ≡ turned p log t last world

-- thread t has run to its end
pub record HasRunOut (p : ProgramValue) (log : Log) (t : ℕ) (world : World) (words : ReplayWords) (seat : RunningThread) : Type 0 where
  pub at : IsAt p log (moves (threads_by p log) (keeps log) log.limits.steps t world) t words seat
  pub settled : seat.core ≡ state_after p log.limits (taken_in log) t (steps_of (moves (threads_by p log) (keeps log) log.limits.steps t world).threads t)

-- ---- what is told of a thread for whatever world it and the words are those of

abbrev pub RunsTo : ProgramValue → Log → ℕ → ReplayWords → RunningThread → Option End → ReplayWords → RunningThread → Type 0
RunsTo p log last old before end new thread = (world : World) → IsAt p log world before.core.thread old before → HasRun p log before.core.thread last world end new thread

abbrev pub StopsBefore : ProgramValue → Log → ℕ → ReplayWords → RunningThread → ReplayWords → RunningThread → Type 0
StopsBefore p log last old before new thread = (world : World) → IsAt p log world before.core.thread old before → HasStopped p log before.core.thread last world new thread

abbrev pub RunsOut : ProgramValue → Log → ReplayWords → RunningThread → ReplayWords → RunningThread → Type 0
RunsOut p log old before new thread = (world : World) → IsAt p log world before.core.thread old before → HasRunOut p log before.core.thread world new thread

-- ---- at the end

-- the thread has come to its end
abbrev pub HasEnded : RunningThread → Type 0
HasEnded seat = IsSome (option_and_then end_of seat.core.pending)

-- what is compared of it
abbrev pub seat_part : RunningThread → Part
seat_part seat = record { entries = seat.log.entries; steps = seat.core.steps; instr = seat.core.instr; end = end_or_halted (option_and_then end_of seat.core.pending); taken = seat.core.taken }

-- the world once each of the first threads, so many of them, has run to its end
abbrev pub run_out : ProgramValue → Log → ℕ → World → World
run_out p log count world = finish (threads_by p log) (keeps log) log.limits.steps count world

-- so many threads, each at its start
pub record AreFresh (p : ProgramValue) (log : Log) (count : ℕ) (seats : List RunningThread) : Type 0 where
  pub counted : length seats ≡ count
  pub each : (t : ℕ) (seat : RunningThread) → t < count → IsSeat p log t [] (slice_index_or seats t seat)

-- for so many threads, the steps that the log names
pub record AreAllLeft (log : Log) (count : ℕ) (kept : List (List ℕ)) : Type 0 where
  pub counted : length kept ≡ count
  pub each : (t : ℕ) → t < count → AreLeft log t 0 (slice_index_or kept t [])

-- all threads have come to the ends of their steps in this world
abbrev pub AreSettled : ProgramValue → Log → World → List RunningThread → Type 0
AreSettled p log world seats = (t : ℕ) (seat : RunningThread) → t < length seats → (slice_index_or seats t seat).core ≡ state_after p log.limits (taken_in log) t (steps_of world.threads t)

-- each thread has run to its end
abbrev pub AllRunOut : ProgramValue → Log → ReplayWords → List RunningThread → ReplayWords → List RunningThread → Type 0
AllRunOut p log old before new seats = (world : World) → IsShown p log world old before → IsShown p log (run_out p log (length before) world) new seats

-- and there it is
abbrev pub AllSettled : ProgramValue → Log → ReplayWords → List RunningThread → List RunningThread → Type 0
AllSettled p log old before seats = (world : World) → IsShown p log world old before → AreSettled p log (run_out p log (length before) world) seats

-- what is answered, by what the threads and the cells are at the end
abbrev pub IsAnswer : Log → List Cell → List RunningThread → Replayed → Type 0
IsAnswer log cells seats (Same reports values) =
    (map part_of log.threads ≡ map seat_part seats) × (log.last_tags ≡ last_tags cells) ×
    (reports.items ≡ map (λ (seat : RunningThread). report_of seat.core) seats) × (values.items ≡ map (λ (cell : Cell). cell.value) cells)
IsAnswer log cells seats (Differs difference) = DifferFirst (items log) (items_of (map seat_part seats) (last_tags cells)) difference
