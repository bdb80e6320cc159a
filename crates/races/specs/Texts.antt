-- The pairs that a log leaves open, as text.
use Rattle.std.specs.Prelude.{ℕ, List, [], ◌∷◌, ◌++◌, length, take, codes}
use Rattle.std.specs.List.{flat_map}
use Rattle.std.specs.Fmt.{decimal}
use Rattle.light_base.specs.declared.tag.Event.{Event}
use Rattle.plain_search.specs.Searches.{open_pairs}
use Rattle.plain_search.specs.Openness.{forced_pairs, stuck_pairs}
use Rattle.replay_model.specs.Logs.{Log}
use Rattle.constraints.specs.Constraints.{pairs_of, problem_of_log}
use Rattle.races.specs.declared.pair.Pair.{Pair}
use Rattle.races.specs.Openings.{open_list}

abbrev pub newline : List ℕ
newline = 10 ∷ []

-- a name and its number
abbrev pub field : List ℕ → ℕ → List ℕ
field name n = name ++ decimal n

-- T:N, step N of thread T, after a blank
abbrev pub event_text : Event → List ℕ
event_text e = field (codes " ") e.thread ++ field (codes ":") e.step

-- pair W S T
abbrev pub pair_line : Pair → List ℕ
pair_line pair = field (codes "pair ") pair.word ++ event_text pair.lesser ++ event_text pair.greater ++ newline

-- pairs P open N forced F stuck S
abbrev pub count_line : ℕ → ℕ → ℕ → ℕ → List ℕ
count_line pairs left_open forced stuck = field (codes "pairs ") pairs ++ field (codes " open ") left_open ++ field (codes " forced ") forced ++ field (codes " stuck ") stuck ++ newline

-- how many rival pairs a log has of each kind, and so many first ones of those that are open
unfoldable pub races_text : ℕ → Log → List ℕ
races_text most log =
    count_line (length (pairs_of log)) (open_pairs (problem_of_log log)) (forced_pairs (problem_of_log log)) (stuck_pairs (problem_of_log log)) ++
    flat_map pair_line (take most (open_list log))
