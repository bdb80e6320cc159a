-- Threads that go as far as a cut, and how each stands right after its last step.
use Rattle.std.specs.Prelude.{◌≡◌, ℕ, ◌<◌, ◌≤◌, ◌⊎◌, true, List, length, map, slice_index_or}
use Rattle.replay_model.specs.Steps.{Event, Step, has_ended}
use Rattle.replay_model.specs.Histories.{World, steps_of, wanted}
use Rattle.replay_model.specs.Logs.{Log}
use Rattle.replay_model.specs.Events.{keeps}
use Rattle.replay_model.specs.SkipPlay.{moves, turns}
use Rattle.machine.specs.Programs.{ProgramValue}
use Rattle.machine.specs.Laws.{taken_in}
use Rattle.running_thread.specs.declared.thread.RunningThread.{RunningThread}
use Rattle.replayer.specs.declared.words.ReplayWords.{ReplayWords}
use Rattle.replayer.specs.Replays.{threads_by}
use Rattle.replayer.specs.Seats.{IsAt, IsShown, turned}
use Rattle.cut_laws.specs.Cuts.{number_of, cut_off, finish_at}
use Rattle.stopper.specs.declared.play.Plan.{Plan}
use Rattle.stopper.specs.Stops.{stopped_after}

-- thread t has ended after its steps
abbrev pub IsOver : ProgramValue → Log → World → ℕ → Type 0
IsOver p log world t = has_ended (wanted (threads_by p log) t world) ≡ true

-- thread t stands right after its last step
abbrev pub StandsThere : ProgramValue → Log → World → ℕ → RunningThread → Type 0
StandsThere p log world t seat = seat.core ≡ stopped_after p log.limits (taken_in log) t (steps_of world.threads t)

-- so a thread with these steps stands, or it has taken none, or it has ended before this step
abbrev pub StandsAfter : ProgramValue → Log → ℕ → ℕ → RunningThread → List Step → Type 0
StandsAfter p log number t seat steps =
    (seat.core ≡ stopped_after p log.limits (taken_in log) t steps) ⊎ (length steps ≡ 0) ⊎ ((length steps < number) × (has_ended (threads_by p log t steps) ≡ true))

abbrev pub StandsBy : ProgramValue → Log → ℕ → World → ℕ → RunningThread → Type 0
StandsBy p log number world t seat = StandsAfter p log number t seat (steps_of world.threads t)

-- the world after one step of thread t, if it takes one
abbrev pub one_more : ProgramValue → Log → ℕ → World → World
one_more p log t world = moves (threads_by p log) (keeps log) 1 t world

-- thread t has taken its next step and stands right after it, or has ended
pub record HasStepped (p : ProgramValue) (log : Log) (t : ℕ) (world : World) (words : ReplayWords) (seat : RunningThread) : Type 0 where
  pub at : IsAt p log (one_more p log t world) t words seat
  pub stands : StandsThere p log (one_more p log t world) t seat ⊎ IsOver p log world t

-- thread t had its turn up to this step
pub record HasGone (p : ProgramValue) (log : Log) (t last : ℕ) (world : World) (words : ReplayWords) (old seat : RunningThread) : Type 0 where
  pub at : IsAt p log (turned p log t last world) t words seat
  pub stands : (number : ℕ) → last ≤ number → StandsBy p log number world t old → StandsBy p log number (turned p log t last world) t seat

-- ---- what is told for whatever world the words and threads are those of

abbrev pub Steps : ProgramValue → Log → ReplayWords → RunningThread → ReplayWords → RunningThread → Type 0
Steps p log old before new thread = (world : World) → IsAt p log world before.core.thread old before → HasStepped p log before.core.thread world new thread

abbrev pub Goes : ProgramValue → Log → ℕ → ReplayWords → RunningThread → ReplayWords → RunningThread → Type 0
Goes p log last old before new thread = (world : World) → IsAt p log world before.core.thread old before → HasGone p log before.core.thread last world new before thread

-- the words and all threads are those of this world, and each thread stands right after its last step or has ended before its number in the cut
pub record HaveCome (p : ProgramValue) (log : Log) (cut : List ℕ) (world : World) (words : ReplayWords) (seats : List RunningThread) : Type 0 where
  pub shown : IsShown p log world words seats
  pub stand : (t : ℕ) (seat : RunningThread) → t < length seats → StandsBy p log (number_of cut t) world t (slice_index_or seats t seat)

-- the world after the turns of an order, none of which goes beyond the cut
abbrev pub after_turns : ProgramValue → Log → List ℕ → List Event → World → World
after_turns p log cut order world = turns (threads_by p log) (keeps log) (map (cut_off cut) order) world

-- the world after each of so many threads went to its number
abbrev pub after_end : ProgramValue → Log → List ℕ → ℕ → World → World
after_end p log cut count world = finish_at (threads_by p log) (keeps log) cut count world

abbrev pub TurnsTaken : ProgramValue → Log → List ℕ → List Event → ReplayWords → List RunningThread → ReplayWords → List RunningThread → Type 0
TurnsTaken p log cut order old before new seats = (world : World) → HaveCome p log cut world old before → HaveCome p log cut (after_turns p log cut order world) new seats

abbrev pub EndReached : ProgramValue → Log → List ℕ → ℕ → ReplayWords → List RunningThread → ReplayWords → List RunningThread → Type 0
EndReached p log cut count old before new seats = (world : World) → HaveCome p log cut world old before → HaveCome p log cut (after_end p log cut count world) new seats

-- ---- of a plan: its program, its log and how far each thread goes

-- the words and threads are those of some world of the plan
abbrev pub CanGoOn : Plan → ReplayWords → List RunningThread → Type 0
CanGoOn plan words seats = (world : World) × HaveCome plan.program.now plan.log.now plan.numbers.now world words seats

abbrev pub TakesTurns : Plan → List Event → ReplayWords → List RunningThread → ReplayWords → List RunningThread → Type 0
TakesTurns plan order old before new seats = TurnsTaken plan.program.now plan.log.now plan.numbers.now order old before new seats

abbrev pub ComesToEnd : Plan → ReplayWords → List RunningThread → ReplayWords → List RunningThread → Type 0
ComesToEnd plan old before new seats = EndReached plan.program.now plan.log.now plan.numbers.now (length before) old before new seats
