-- Small logs and their constraints, worked out by hand.
use Rattle.std.specs.Prelude.{◌≡◌, ℕ, Bool, true, false, Some, None, List, [], ◌∷◌}
use Rattle.plain_search.specs.declared.Edge.{Edge}
use Rattle.plain_search.specs.Chains.{arrow}
use Rattle.plain_search.specs.Searches.{Pair, outcome, open_pairs}
use Rattle.light_base.specs.declared.tag.Event.{Event}
use Rattle.light_base.specs.declared.tag.Tag.{Tag}
use Rattle.replay_model.specs.declared.Entry.{Entry}
use Rattle.replay_model.specs.declared.End.TheVariants.{Halted}
use Rattle.replay_model.specs.Logs.{ThreadLog, Log}
use Rattle.constraints.specs.Positions.{event, event_list, counts_of}
use Rattle.constraints.specs.Constraints.{base_of, pairs_of, problem_of_log, impossible, dead, group_of, side_edges_of}

abbrev pub entry : ℕ → Tag → ℕ → ℕ → Entry
entry word source first last = record { word = word; source = source; first = first; last = last }

-- a thread that took so many steps
abbrev pub thread : ℕ → List Entry → ThreadLog
thread steps entries = record { entries = entries; steps = steps; instr = steps; end = Halted; taken = [] }

abbrev pub log_of : List ThreadLog → List Tag → Log
log_of threads last_tags = record { digest = []; limits = record { steps = 100; instr = 100; entries = 100 }; threads = threads; last_tags = last_tags }

abbrev pub pair : List Edge → List Edge → Pair
pair lesser greater = record { lesser = lesser; greater = greater }

-- the log has these events, so many of each thread, these base edges without those of thread order, and these rival pairs
pub record Gives (log : Log) (events : List Event) (counts : List ℕ) (base : List Edge) (pairs : List Pair) : Type 0 where
  pub listed : event_list log ≡ events
  pub counted : counts_of log ≡ counts
  pub edges : base_of log ≡ base
  pub rivals : pairs_of log ≡ pairs

-- what the plain search comes to, and how many of the pairs are open by the base edges alone
abbrev pub ComesTo : Log → Bool → ℕ → ℕ → Type 0
ComesTo log found count open_ones = (outcome (problem_of_log log) ≡ record { found = found; dead = count }) × (open_pairs (problem_of_log log) ≡ open_ones)

-- a thread stores and reads that again: its step 1 is a source, step 2 the first and the last of an entry
abbrev pub own_write : Log
own_write = log_of (thread 2 (entry 0 (Some (event 0 1)) 2 2 ∷ []) ∷ []) (Some (event 0 1) ∷ [])

abbrev pub OwnWrite : Type 0
OwnWrite = Gives own_write (event 0 1 ∷ event 0 2 ∷ []) (2 ∷ []) (arrow 0 1 ∷ []) [] × ComesTo own_write true 0 0

-- one thread reads the initial value, another stores. The word has no source but the initial one, so the one edge is that to
-- the last tag
abbrev pub initial_value : Log
initial_value = log_of (thread 1 (entry 0 None 1 1 ∷ []) ∷ thread 1 [] ∷ []) (Some (event 1 1) ∷ [])

abbrev pub InitialValue : Type 0
InitialValue = Gives initial_value (event 0 1 ∷ event 1 1 ∷ []) (1 ∷ 1 ∷ []) (arrow 0 1 ∷ []) [] × ComesTo initial_value true 0 0

-- two threads add 1 to a word, each by a load and a store; both read the initial value. The first thread's store is seen by
-- nobody and is no last one, so it is no event
abbrev pub lost_update : Log
lost_update = log_of (thread 2 (entry 0 None 1 1 ∷ []) ∷ thread 2 (entry 0 None 1 1 ∷ []) ∷ []) (Some (event 1 2) ∷ [])

abbrev pub LostUpdate : Type 0
LostUpdate = Gives lost_update (event 0 1 ∷ event 1 1 ∷ event 1 2 ∷ []) (1 ∷ 2 ∷ []) (arrow 0 2 ∷ arrow 1 2 ∷ []) [] × ComesTo lost_update true 0 0

-- one thread writes a value and then a flag; the other reads the flag in vain twice, then as it was set, and then the value. A
-- last read of the initial flag stands before the flag's source, and before its last tag, which is the same
abbrev pub message_passing : Log
message_passing = log_of
    (thread 2 [] ∷ thread 4 (entry 1 None 1 2 ∷ entry 1 (Some (event 0 2)) 3 3 ∷ entry 0 (Some (event 0 1)) 4 4 ∷ []) ∷ [])
    (Some (event 0 1) ∷ Some (event 0 2) ∷ [])

abbrev pub MessagePassing : Type 0
MessagePassing = Gives message_passing
    (event 0 1 ∷ event 0 2 ∷ event 1 1 ∷ event 1 2 ∷ event 1 3 ∷ event 1 4 ∷ []) (2 ∷ 4 ∷ [])
    (arrow 3 1 ∷ arrow 3 1 ∷ arrow 1 4 ∷ arrow 0 5 ∷ []) [] × ComesTo message_passing true 0 0

-- three threads exchange in turn. Thread 1's step is the last of the entry of thread 0's write, and a source itself: no edge
-- leads from it to itself, so that side of the pair has no edge
abbrev pub exchange_chain : Log
exchange_chain = log_of
    (thread 1 (entry 0 None 1 1 ∷ []) ∷ thread 1 (entry 0 (Some (event 0 1)) 1 1 ∷ []) ∷ thread 1 (entry 0 (Some (event 1 1)) 1 1 ∷ []) ∷ [])
    (Some (event 2 1) ∷ [])

abbrev pub ExchangeChain : Type 0
ExchangeChain = Gives exchange_chain (event 0 1 ∷ event 1 1 ∷ event 2 1 ∷ []) (1 ∷ 1 ∷ 1 ∷ [])
    (arrow 0 1 ∷ arrow 0 2 ∷ arrow 0 1 ∷ arrow 1 2 ∷ arrow 1 2 ∷ []) (pair [] (arrow 2 0 ∷ []) ∷ []) × ComesTo exchange_chain true 0 0

-- each thread reads the other's later step first
abbrev pub no_order : Log
no_order = log_of
    (thread 2 (entry 0 (Some (event 1 2)) 1 1 ∷ []) ∷ thread 2 (entry 1 (Some (event 0 2)) 1 1 ∷ []) ∷ [])
    (Some (event 1 2) ∷ Some (event 0 2) ∷ [])

abbrev pub NoOrder : Type 0
NoOrder = Gives no_order (event 0 1 ∷ event 0 2 ∷ event 1 1 ∷ event 1 2 ∷ []) (2 ∷ 2 ∷ []) (arrow 3 0 ∷ arrow 1 2 ∷ []) [] × ComesTo no_order false 0 0

-- a thread reads two of the other's writes to one word, the later one first: both sources are of one thread, and a pair like
-- any other
abbrev pub stale_read : Log
stale_read = log_of
    (thread 2 [] ∷ thread 2 (entry 0 (Some (event 0 2)) 1 1 ∷ entry 0 (Some (event 0 1)) 2 2 ∷ []) ∷ [])
    (Some (event 0 2) ∷ [])

abbrev pub StaleRead : Type 0
StaleRead = Gives stale_read (event 0 1 ∷ event 0 2 ∷ event 1 1 ∷ event 1 2 ∷ []) (2 ∷ 2 ∷ [])
    (arrow 1 2 ∷ arrow 0 3 ∷ arrow 3 1 ∷ []) (pair (arrow 3 1 ∷ []) (arrow 2 0 ∷ []) ∷ []) × ComesTo stale_read false 0 0

-- a thread reads a write while the word's last tag is initial
abbrev pub never_over : Log
never_over = log_of (thread 1 (entry 0 (Some (event 1 1)) 1 1 ∷ []) ∷ thread 1 [] ∷ []) (None ∷ [])

abbrev pub NeverOver : Type 0
NeverOver = (impossible never_over ≡ true) × (dead never_over ≡ 0) × (impossible exchange_chain ≡ false)

-- an entry whose source is its own first: that edge stands, and closes a cycle
abbrev pub own_source : Log
own_source = log_of (thread 1 (entry 0 (Some (event 0 1)) 1 1 ∷ []) ∷ []) (Some (event 0 1) ∷ [])

abbrev pub OwnSource : Type 0
OwnSource = Gives own_source (event 0 1 ∷ []) (1 ∷ []) (arrow 0 0 ∷ []) [] × ComesTo own_source false 0 0

-- three words with two sources each. The plain search takes the lesser source of word 0 first, and then both sides on word 2
-- close a cycle, once for each side on word 1; the other side of word 0 leads to an order
abbrev pub two_dead_ends : Log
two_dead_ends = log_of
    (thread 3 (entry 0 (Some (event 1 1)) 3 3 ∷ []) ∷
    thread 3 (entry 1 (Some (event 1 2)) 3 3 ∷ []) ∷
    thread 2 (entry 2 (Some (event 0 1)) 2 2 ∷ []) ∷
    thread 4 (entry 0 (Some (event 2 1)) 1 1 ∷ entry 2 (Some (event 0 2)) 2 2 ∷ entry 1 (Some (event 3 3)) 4 4 ∷ []) ∷
    thread 3 [] ∷ [])
    (Some (event 4 1) ∷ Some (event 4 2) ∷ Some (event 4 3) ∷ [])

abbrev pub TwoDeadEnds : Type 0
TwoDeadEnds = Gives two_dead_ends
    (event 0 1 ∷ event 0 2 ∷ event 0 3 ∷ event 1 1 ∷ event 1 2 ∷ event 1 3 ∷ event 2 1 ∷ event 2 2 ∷
    event 3 1 ∷ event 3 2 ∷ event 3 3 ∷ event 3 4 ∷ event 4 1 ∷ event 4 2 ∷ event 4 3 ∷ [])
    (3 ∷ 3 ∷ 2 ∷ 4 ∷ 3 ∷ [])
    (arrow 3 2 ∷ arrow 2 12 ∷ arrow 4 5 ∷ arrow 5 13 ∷ arrow 0 7 ∷ arrow 7 14 ∷ arrow 6 8 ∷ arrow 8 12 ∷ arrow 1 9 ∷ arrow 9 14 ∷ arrow 10 11 ∷ arrow 11 13 ∷ [])
    (pair (arrow 2 6 ∷ []) (arrow 8 3 ∷ []) ∷ pair (arrow 5 10 ∷ []) (arrow 11 4 ∷ []) ∷ pair (arrow 7 1 ∷ []) (arrow 9 0 ∷ []) ∷ []) ×
    ComesTo two_dead_ends true 2 2 ×
    (side_edges_of two_dead_ends ≡ 3) × (group_of two_dead_ends 0 1 ≡ (0, 1)) × (group_of two_dead_ends 0 2 ≡ (1, 2)) × (group_of two_dead_ends 2 0 ≡ (0, 2))
