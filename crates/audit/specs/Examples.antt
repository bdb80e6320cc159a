-- Small logs and the constraints of their placings, worked out by hand.
use Rattle.std.specs.Prelude.{◌≡◌, ℕ, true, false, List, [], ◌∷◌}
use Rattle.plain_search.specs.declared.Edge.{Edge}
use Rattle.plain_search.specs.Chains.{arrow}
use Rattle.plain_search.specs.Searches.{Pair, outcome}
use Rattle.light_base.specs.declared.tag.Event.{Event}
use Rattle.replay_model.specs.Steps.{Step}
use Rattle.replay_model.specs.Logs.{Log}
use Rattle.replay_laws.specs.Scripts.{Script}
use Rattle.replay_laws.specs.Examples.{example_end, example_log, at, exchanges, forced_between_log, forced_between_end}
use Rattle.audit_laws.specs.Examples.{blind_scripts, blind_history}
use Rattle.constraints.specs.Constraints.{dead}
use Rattle.constraints.specs.Examples.{pair}
use Rattle.audit.specs.Positions.{placed_list, placed_counts}
use Rattle.audit.specs.Constraints.{base_of, pairs_of, placing_problem}

-- a log and runs that fit it have these steps with a place, so many of each thread, these base edges without those of thread order, and these pairs
pub record Gives (log : Log) (runs : List (List Step)) (placed : List Event) (counts : List ℕ) (base : List Edge) (pairs : List Pair) : Type 0 where
  pub listed : placed_list log runs ≡ placed
  pub counted : placed_counts log runs ≡ counts
  pub edges : base_of log runs ≡ base
  pub sides : pairs_of log runs ≡ pairs

-- A write forced between: the second write of thread 0 would have to come before the first one, or after the read of it. The search for an order of the
-- events meets no dead end, and that for a placing meets one, at the pair of these two writes
abbrev pub ForcedBetween : Type 0
ForcedBetween =
    Gives forced_between_log forced_between_end.threads
    (at 0 1 ∷ at 0 2 ∷ at 0 3 ∷ at 1 1 ∷ at 1 2 ∷ at 1 3 ∷ []) (3 ∷ 3 ∷ [])
    (arrow 2 3 ∷ arrow 0 4 ∷ arrow 4 5 ∷ arrow 0 5 ∷ arrow 1 5 ∷ [])
    (pair (arrow 4 1 ∷ []) (arrow 1 0 ∷ []) ∷ pair (arrow 4 5 ∷ []) (arrow 5 0 ∷ []) ∷ []) ×
    (dead forced_between_log ≡ 0) ×
    (outcome (placing_problem forced_between_log forced_between_end.threads) ≡ record { found = false; dead = 1 })

abbrev pub blind_log : Log
blind_log = example_log blind_scripts (0 ∷ []) blind_history

abbrev pub blind_runs : List (List Step)
blind_runs = (example_end blind_scripts (0 ∷ []) blind_history).threads

-- Blind stores: both come after the read of the initial value, and one of them is the last; nobody read either, so they are no pair
abbrev pub BlindStores : Type 0
BlindStores =
    Gives blind_log blind_runs (at 0 1 ∷ at 1 1 ∷ at 2 1 ∷ []) (1 ∷ 1 ∷ 1 ∷ []) (arrow 0 1 ∷ arrow 0 2 ∷ arrow 0 1 ∷ arrow 2 1 ∷ []) [] ×
    (outcome (placing_problem blind_log blind_runs) ≡ record { found = true; dead = 0 })

abbrev pub chain_scripts : List Script
chain_scripts = exchanges 1 ∷ exchanges 2 ∷ exchanges 3 ∷ []

-- Exchange chain: the second thread's step is the one read of the first thread's write, and a write itself: no edge leads from it to itself
abbrev pub ExchangeChain : Type 0
ExchangeChain =
    Gives (example_log chain_scripts (0 ∷ []) (0 ∷ 1 ∷ 2 ∷ [])) (example_end chain_scripts (0 ∷ []) (0 ∷ 1 ∷ 2 ∷ [])).threads
    (at 0 1 ∷ at 1 1 ∷ at 2 1 ∷ []) (1 ∷ 1 ∷ 1 ∷ [])
    (arrow 0 1 ∷ arrow 0 2 ∷ arrow 0 2 ∷ arrow 0 1 ∷ arrow 1 2 ∷ arrow 1 2 ∷ arrow 0 2 ∷ arrow 1 2 ∷ [])
    (pair [] (arrow 2 0 ∷ []) ∷ pair (arrow 1 2 ∷ []) (arrow 2 0 ∷ []) ∷ pair [] (arrow 2 1 ∷ []) ∷ [])
