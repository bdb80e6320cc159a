-- Histories: the threads take their memory steps one after another, on one memory (sequential consistency).
use Rattle.std.specs.Prelude.{◌≡◌, ℕ, zero, suc, ◌+◌, ◌<◌, Bool, true, false, if◌then◌else◌, List, [], ◌∷◌, ◌++◌, length, slice_index_or, slice_set, replicate}
use Rattle.std.specs.List.{range_with_len}
use Rattle.replay_model.specs.Steps.{Event, Cell, Want, Step, word_of, wrote, found_in, put, has_ended, initial_cells}
use Rattle.replay_model.specs.Threads.{Threads}

-- the memory, and the steps of each thread so far
pub record World : Type 0 where
  pub memory : List Cell
  pub threads : List (List Step)

abbrev pub steps_of : List (List Step) → ℕ → List Step
steps_of threads t = slice_index_or threads t []

-- each word has its initial value, and no thread has taken a step
abbrev pub opening : List ℕ → ℕ → World
opening initial count = record { memory = initial_cells initial; threads = replicate count [] }

abbrev pub step_in : List Cell → Want → Step
step_in memory want = record { want = want; found = found_in memory want }

-- the event that the next step of thread t is
abbrev pub next_event : ℕ → World → Event
next_event t world = record { thread = t; step = length (steps_of world.threads t) + 1 }

-- thread t takes the step that it wants; its write is left out where `keep` says no
unfoldable pub take_step : (Event → Bool) → ℕ → Want → World → World
take_step keep t want world = record {
  memory = if keep (next_event t world) then put world.memory (word_of want) (next_event t world) (wrote want (found_in world.memory want)) else world.memory;
  threads = slice_set world.threads t (steps_of world.threads t ++ step_in world.memory want ∷ []);
}

-- what thread t wants next
abbrev pub wanted : Threads → ℕ → World → Want
wanted threads t world = threads t (steps_of world.threads t)

-- a turn of thread t: it takes a step, or none where it has ended
unfoldable pub move : Threads → (Event → Bool) → ℕ → World → World
move threads keep t world = if has_ended (wanted threads t world) then world else take_step keep t (wanted threads t world) world

abbrev pub keep_all : Event → Bool
keep_all event = true

-- the threads have a turn each in the order of the list
unfoldable pub play : Threads → List ℕ → World → World
play threads [] world = world
play threads (t ∷ history) world = play threads history (move threads keep_all t world)

-- each thread named still wants a step, which it takes
unfoldable pub IsLegal : Threads → List ℕ → World → Type 0
IsLegal threads [] world = Prim.Unit {0}
IsLegal threads (t ∷ history) world = (has_ended (wanted threads t world) ≡ false) × IsLegal threads history (move threads keep_all t world)

-- every thread has ended
abbrev pub IsWhole : Threads → World → Type 0
IsWhole threads world = (t : ℕ) → t < length world.threads → has_ended (wanted threads t world) ≡ true

-- the history that comes of these turns: threads that have ended are passed over
unfoldable pub history_of : Threads → List ℕ → World → List ℕ
history_of threads [] world = []
history_of threads (t ∷ turns) world =
    (if has_ended (wanted threads t world) then [] else t ∷ []) ++ history_of threads turns (move threads keep_all t world)

-- so many rounds, in each of which the threads 0, 1, 2 and so on have one turn
unfoldable pub round_turns : ℕ → ℕ → List ℕ
round_turns count zero = []
round_turns count (suc n) = range_with_len 0 count ++ round_turns count n

-- the threads take turns in rounds until every thread has ended; no thread takes more than `bound` steps
abbrev pub rounds : Threads → ℕ → List ℕ → ℕ → List ℕ
rounds threads bound initial count = history_of threads (round_turns count bound) (opening initial count)

-- a step of each thread named, ended ones passed over, and then rounds
abbrev pub follow : Threads → ℕ → List ℕ → ℕ → List ℕ → List ℕ
follow threads bound initial count order = history_of threads (order ++ round_turns count bound) (opening initial count)
