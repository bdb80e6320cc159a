-- The steps that have a place, in one list, and their positions in it, by which constraints name them.
use Rattle.std.specs.Prelude.{ℕ, Bool, List, length, map, filter, slice_index_or}
use Rattle.std.specs.List.{flat_map, range_with_len}
use Rattle.light_base.specs.declared.tag.Event.{Event}
use Rattle.replay_model.specs.Steps.{Step}
use Rattle.replay_model.specs.Histories.{steps_of}
use Rattle.replay_model.specs.Logs.{Log}
use Rattle.replay_model.specs.Orders.{place}
use Rattle.audit_laws.specs.Placings.{is_placed}
use Rattle.constraints.specs.Positions.{event, no_event, thread_numbers}

-- the events of the log and the writes of the runs that are steps of thread t, by rising number
abbrev pub placed_of_thread : Log → List (List Step) → ℕ → List Event
placed_of_thread log runs t = filter (is_placed log runs) (map (event t) (range_with_len 1 (length (steps_of runs t))))

-- those of all threads, by thread and then by number
unfoldable pub placed_list : Log → List (List Step) → List Event
placed_list log runs = flat_map (placed_of_thread log runs) (thread_numbers log)

-- how many there are of each thread
unfoldable pub placed_counts : Log → List (List Step) → List ℕ
placed_counts log runs = map (λ t. length (placed_of_thread log runs t)) (thread_numbers log)

-- the step at a position
abbrev pub placed_at : Log → List (List Step) → ℕ → Event
placed_at log runs p = slice_index_or (placed_list log runs) p no_event

-- the position of a step
abbrev pub position_of : Log → List (List Step) → Event → ℕ
position_of log runs e = place (placed_list log runs) e

-- the positions of the steps that pass the test, rising
abbrev pub positions_where : Log → List (List Step) → (Event → Bool) → List ℕ
positions_where log runs test = filter (λ p. test (placed_at log runs p)) (range_with_len 0 (length (placed_list log runs)))
