-- Cuts: how far each thread has to go so that one of them takes a certain step; and the play that goes so far.
use Rattle.std.specs.Prelude.{◌≡◌, ℕ, zero, suc, ◌<◌, ◌≤◌, nat_le, min, Bool, Some, List, length, map, filter, take, slice_index_or, ◌⊎◌}
use Rattle.std.specs.List.{AllZip}
use Rattle.replay_model.specs.Steps.{Event, Step}
use Rattle.replay_model.specs.Threads.{Threads}
use Rattle.replay_model.specs.Histories.{World, steps_of, opening}
use Rattle.replay_model.specs.declared.Entry.{Entry}
use Rattle.replay_model.specs.ThreadLogs.{thread_log}
use Rattle.replay_model.specs.Logs.{ThreadLog, Log, thread_of, HasEntry, first_event}
use Rattle.replay_model.specs.Events.{keeps}
use Rattle.replay_model.specs.SkipPlay.{turn, turns}

-- how far thread t goes: the number of its last step
abbrev pub number_of : List ℕ → ℕ → ℕ
number_of cut t = slice_index_or cut t 0

-- the thread of the step goes as far as this step
abbrev pub IsWithin : List ℕ → Event → Type 0
IsWithin cut event = event.step ≤ number_of cut event.thread

-- one number for each thread; the thread asked for goes as far as its step, and where an entry has begun, its source is there to be read
pub record IsClosed (log : Log) (thread step : ℕ) (cut : List ℕ) : Type 0 where
  pub counted : length cut ≡ length log.threads
  pub reaches : step ≤ number_of cut thread
  pub sources : (t : ℕ) (entry : Entry) (source : Event) → HasEntry log t entry → IsWithin cut (first_event t entry) →
      entry.source ≡ Some source → IsWithin cut source

-- the cut of a step: of these lists the one in which each thread goes the least far
pub record IsCut (log : Log) (thread step : ℕ) (cut : List ℕ) : Type 0 where
  pub closed : IsClosed log thread step cut
  pub least : (other : List ℕ) → IsClosed log thread step other → (t : ℕ) → number_of cut t ≤ number_of other t

-- the steps that each thread took
abbrev pub logged_steps : Log → List ℕ
logged_steps log = map (λ (thread : ThreadLog). thread.steps) log.threads

-- a turn up to the event, but no further than the cut
abbrev pub cut_off : List ℕ → Event → Event
cut_off cut event = record { thread = event.thread; step = min event.step (number_of cut event.thread) }

-- each of the first `count` threads goes to its number in the cut, thread 0 first
unfoldable pub finish_at : Threads → (Event → Bool) → List ℕ → ℕ → World → World
finish_at threads keep cut zero world = world
finish_at threads keep cut (suc t) world = turn threads keep (record { thread = t; step = number_of cut t }) (finish_at threads keep cut t world)

-- the cut play: the skip play whose turns go no further than the cut, and at whose end each thread goes to its number in the cut
abbrev pub cut_play : Threads → List ℕ → Log → List Event → List ℕ → World
cut_play threads initial log order cut =
    finish_at threads (keeps log) cut (length log.threads)
    (turns threads (keeps log) (map (cut_off cut) order) (opening initial (length log.threads)))

-- each thread took the steps of its run up to its number, all of them
pub record ShowsCut (runs : List (List Step)) (cut : List ℕ) (world : World) : Type 0 where
  pub counted : length world.threads ≡ length runs
  pub steps : (t : ℕ) → steps_of world.threads t ≡ take (number_of cut t) (steps_of runs t)
  pub taken : (t : ℕ) → length (steps_of world.threads t) ≡ number_of cut t

-- the entries that have begun by this step
abbrev pub begun : ℕ → List Entry → List Entry
begun number entries = filter (λ (entry : Entry). nat_le entry.first number) entries

-- what was seen of an entry by this step: its last step may be another one where the logged one is yet to come
pub record IsSeenOf (number : ℕ) (logged seen : Entry) : Type 0 where
  pub word : seen.word ≡ logged.word
  pub source : seen.source ≡ logged.source
  pub first : seen.first ≡ logged.first
  pub last : (seen.last ≡ logged.last) ⊎ (number < logged.last)

-- the play did not stray: each thread came as far as its number, and has seen what its log says that it sees by then
pub record IsOnTrack (log : Log) (cut : List ℕ) (world : World) : Type 0 where
  pub taken : (t : ℕ) → t < length log.threads → number_of cut t ≤ length (steps_of world.threads t)
  pub entries : (t : ℕ) → t < length log.threads →
      AllZip (IsSeenOf (number_of cut t)) (begun (number_of cut t) (thread_of log t).entries)
      (thread_log (steps_of world.threads t))
