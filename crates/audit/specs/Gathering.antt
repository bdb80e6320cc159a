-- What is gathered for the constraints of placings: the steps that have a place.
use Rattle.std.specs.Prelude.{◌≡◌, ℕ, Bool, None, Result, List, IfOk, slice_index_or}
use Rattle.std.specs.Global.{Vec}
use Rattle.light_base.specs.declared.memory.Memory.{Memory}
use Rattle.light_base.specs.declared.tag.Event.{Event}
use Rattle.light_base.specs.declared.tag.Tag.{Tag}
use Rattle.replay_model.specs.Steps.{Step, same_tag}
use Rattle.replay_model.specs.Threads.{Threads}
use Rattle.replay_model.specs.Logs.{Log}
use Rattle.replay_model.specs.RunLogs.{Tallies}
use Rattle.replay_model.specs.Fitting.{Fits}
use Rattle.replayer.specs.declared.notes.Written.{Written}
use Rattle.replayer.specs.Notes.{AreWrites}
use Rattle.audit.specs.Positions.{placed_list}
use Rattle.audit.specs.Constraints.{impossible}

-- the steps that have a place, of any runs that fit the log and wrote so
abbrev pub ListsPlaced : Log → List Written → Result (Vec Event) Memory → Type 0
ListsPlaced log writes result = (threads : Threads) (tallies : Tallies) (initial : List ℕ) (runs : List (List Step)) →
    Fits threads tallies initial log runs → AreWrites runs writes → IfOk result (λ placed. placed.items ≡ placed_list log runs)

-- whether the write is to a word whose last tag is initial
abbrev pub to_initial : List Tag → Written → Bool
to_initial last_tags write = same_tag (slice_index_or last_tags write.word None) None

-- whether some step of such runs wrote a word whose last tag is initial
abbrev pub TellsImpossible : Log → List Written → Bool → Type 0
TellsImpossible log writes answer = (threads : Threads) (tallies : Tallies) (initial : List ℕ) (runs : List (List Step)) →
    Fits threads tallies initial log runs → AreWrites runs writes → answer ≡ impossible log runs
