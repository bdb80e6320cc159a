-- The skip play: a replay by an order of events, in which each write that the log does not name is left out.
use Rattle.std.specs.Prelude.{◌≡◌, ℕ, zero, suc, ◌-◌, Bool, List, [], ◌∷◌, length, map}
use Rattle.replay_model.specs.Steps.{Event, Cell, Step}
use Rattle.replay_model.specs.Threads.{Threads}
use Rattle.replay_model.specs.Histories.{World, steps_of, opening, move}
use Rattle.replay_model.specs.Logs.{Log}
use Rattle.replay_model.specs.RunLogs.{last_tags}
use Rattle.replay_model.specs.Events.{keeps}
use Rattle.replay_model.specs.Fitting.{last_values}

-- so many steps of thread t, or fewer where it ends
unfoldable pub moves : Threads → (Event → Bool) → ℕ → ℕ → World → World
moves threads keep zero t world = world
moves threads keep (suc n) t world = moves threads keep n t (move threads keep t world)

-- the thread of the event runs up to and including that step, or to its end
unfoldable pub turn : Threads → (Event → Bool) → Event → World → World
turn threads keep event world = moves threads keep (event.step - length (steps_of world.threads event.thread)) event.thread world

-- the turns of an order
unfoldable pub turns : Threads → (Event → Bool) → List Event → World → World
turns threads keep [] world = world
turns threads keep (event ∷ order) world = turns threads keep order (turn threads keep event world)

-- each of the first `count` threads runs to its end, thread 0 first; no thread takes more than `bound` steps
unfoldable pub finish : Threads → (Event → Bool) → ℕ → ℕ → World → World
finish threads keep bound zero world = world
finish threads keep bound (suc t) world = moves threads keep bound t (finish threads keep bound t world)

-- the threads take the turns of the order, and then run to their ends; of the writes, those that the log names are made
abbrev pub skip : Threads → Log → List Event → World → World
skip threads log order world = finish threads (keeps log) log.limits.steps (length world.threads) (turns threads (keeps log) order world)

-- the skip play from the opening state, for as many threads as the log has
abbrev pub skip_play : Threads → List ℕ → Log → List Event → World
skip_play threads initial log order = skip threads log order (opening initial (length log.threads))

-- each thread took the steps of its run, and each word has its last tag and the value that this tag names
pub record ShowsRuns (initial : List ℕ) (log : Log) (runs : List (List Step)) (world : World) : Type 0 where
  pub threads : world.threads ≡ runs
  pub tags : last_tags world.memory ≡ log.last_tags
  pub values : map (λ (cell : Cell). cell.value) world.memory ≡ last_values initial log runs
