-- Worked examples: cuts of small logs, and the plays up to them.
use Rattle.std.specs.Prelude.{◌≡◌, ℕ, List, [], ◌∷◌}
use Rattle.replay_model.specs.Histories.{World}
use Rattle.replay_model.specs.Logs.{Log}
use Rattle.replay_model.specs.Threads.{Threads}
use Rattle.replay_model.specs.WholeHistories.{played}
use Rattle.replay_laws.specs.Examples.{example_threads, example_log, at, sends, waits, no_fit_log, no_fit_order, no_fit_threads}
use Rattle.cut_laws.specs.Cuts.{IsCut, cut_play, IsOnTrack}

abbrev pub passing_threads : Threads
passing_threads = example_threads (sends ∷ waits ∷ []) (0 ∷ 0 ∷ [])

-- the log of the history of message passing
abbrev pub passing_log : Log
passing_log = example_log (sends ∷ waits ∷ []) (0 ∷ 0 ∷ []) (1 ∷ 1 ∷ 0 ∷ 0 ∷ 1 ∷ 1 ∷ [])

-- the play up to a cut, by an order that respects this log
abbrev pub passing_play : List ℕ → World
passing_play cut = cut_play passing_threads (0 ∷ 0 ∷ []) passing_log
    (at 0 1 ∷ at 1 1 ∷ at 1 2 ∷ at 0 2 ∷ at 1 3 ∷ at 1 4 ∷ []) cut

-- the state after these turns
abbrev pub passing_after : List ℕ → World
passing_after turns = played passing_threads (0 ∷ 0 ∷ []) 2 turns

-- Message passing: the third step of the second thread needs both steps of the first one, and the play comes as far as the
-- history had come when this step was taken; its first step needs nobody, though it is a read of an entry that ends later
abbrev pub PassingStops : Type 0
PassingStops =
    IsCut passing_log 1 3 (2 ∷ 3 ∷ []) × (passing_play (2 ∷ 3 ∷ []) ≡ passing_after (1 ∷ 1 ∷ 0 ∷ 0 ∷ 1 ∷ [])) ×
    IsCut passing_log 1 1 (0 ∷ 1 ∷ []) × (passing_play (0 ∷ 1 ∷ []) ≡ passing_after (1 ∷ []))

-- No fit: the log says that the first thread saw a write of the second one, which only reads; so the play strays
abbrev pub NoFitStrays : Type 0
NoFitStrays = IsCut no_fit_log 0 1 (1 ∷ 1 ∷ []) ×
    (IsOnTrack no_fit_log (1 ∷ 1 ∷ []) (cut_play no_fit_threads (5 ∷ []) no_fit_log no_fit_order (1 ∷ 1 ∷ [])) → ⊥)
