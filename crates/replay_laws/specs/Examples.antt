-- Worked examples: small programs as scripts, one history each, and what comes of it.
use Rattle.std.specs.Prelude.{◌≡◌, ℕ, zero, suc, ◌+◌, ◌==◌, if◌then◌else◌, Some, None, List, [], ◌∷◌, length, map}
use Rattle.light_base.specs.declared.tag.Event.{Event}
use Rattle.light_base.specs.declared.tag.Tag.{Tag}
use Rattle.light_base.specs.declared.tag.Cell.{Cell}
use Rattle.replay_model.specs.declared.Entry.{Entry}
use Rattle.replay_model.specs.declared.Want.{Want}
use Rattle.replay_model.specs.declared.Want.TheVariants.{Load, Store, Swap, Cond, Ended}
use Rattle.replay_model.specs.declared.End.TheVariants.{Halted, EntriesFull}
use Rattle.replay_model.specs.Steps.{Step}
use Rattle.replay_model.specs.Threads.{Threads}
use Rattle.replay_model.specs.Histories.{World, rounds, follow}
use Rattle.replay_model.specs.WordSteps.{WordStep}
use Rattle.replay_model.specs.RunLogs.{HasLog}
use Rattle.replay_model.specs.Logs.{Limits, ThreadLog, Log}
use Rattle.replay_model.specs.WellFormed.{IsWellFormed}
use Rattle.replay_model.specs.Orders.{Respects}
use Rattle.replay_model.specs.Fitting.{Fits}
use Rattle.replay_model.specs.SkipPlay.{skip_play}
use Rattle.replay_model.specs.WholeHistories.{IsWholeHistory, played, history_log}
use Rattle.replay_laws.specs.BridgeLaws.{IsPlayed}
use Rattle.replay_laws.specs.Scripts.{Script, script_threads, one_each}

-- limits that no example reaches
abbrev pub example_limits : Limits
example_limits = record { steps = 100; instr = 100; entries = 100 }

-- the threads of these scripts
abbrev pub example_threads : List Script → List ℕ → Threads
example_threads scripts initial = script_threads scripts (length initial) example_limits

-- the state at the end of the history, and its log
abbrev pub example_end : List Script → List ℕ → List ℕ → World
example_end scripts initial history = played (example_threads scripts initial) initial (length {A = Script} scripts) history

abbrev pub example_log : List Script → List ℕ → List ℕ → Log
example_log scripts initial history = history_log (example_threads scripts initial) one_each [] example_limits initial (length {A = Script} scripts) history

-- step n of thread t
abbrev pub at : ℕ → ℕ → Event
at t n = record { thread = t; step = n }

-- an entry
abbrev pub entry : ℕ → Tag → ℕ → ℕ → Entry
entry word source first last = record { word = word; source = source; first = first; last = last }

-- a cell
abbrev pub cell : ℕ → Tag → Cell
cell value tag = record { value = value; tag = tag }

-- the history is whole; its log has these entries and last tags, and is well formed; its runs fit it; this order of its events respects it;
-- and the skip play by this order ends as the history did, in these cells
pub record Shows (scripts : List Script) (initial history : List ℕ) (logs : List (List Entry)) (tags : List Tag) (order : List Event)
    (memory : List Cell) : Type 0 where
  pub whole : IsWholeHistory (example_threads scripts initial) initial (length {A = Script} scripts) history
  pub entries : map (λ (thread : ThreadLog). thread.entries) (example_log scripts initial history).threads ≡ logs
  pub last_tags : (example_log scripts initial history).last_tags ≡ tags
  pub formed : IsWellFormed (example_log scripts initial history)
  pub fits : Fits (example_threads scripts initial) one_each initial (example_log scripts initial history) (example_end scripts initial history).threads
  pub respects : Respects (example_log scripts initial history) order
  pub replayed : skip_play (example_threads scripts initial) initial (example_log scripts initial history) order ≡ example_end scripts initial history
  pub cells : (skip_play (example_threads scripts initial) initial (example_log scripts initial history) order).memory ≡ memory

-- the order does not respect the history's log
abbrev pub IsRefused : List Script → List ℕ → List ℕ → List Event → Type 0
IsRefused scripts initial history order = Respects (example_log scripts initial history) order → ⊥

-- reads word 0, and writes one more
abbrev pub increments : Script
increments [] = Load 0
increments (c ∷ []) = Store 0 (c.value + 1)
increments (c ∷ d ∷ rest) = Ended Halted

-- Lost update: two threads increment, and both read the initial value. The first thread's write is seen by nobody and is no last one, so it is no event
abbrev pub LostUpdate : Type 0
LostUpdate = Shows (increments ∷ increments ∷ []) (0 ∷ []) (0 ∷ 1 ∷ 0 ∷ 1 ∷ [])
    ((entry 0 None 1 1 ∷ []) ∷ (entry 0 None 1 1 ∷ []) ∷ []) (Some (at 1 2) ∷ [])
    (at 0 1 ∷ at 1 1 ∷ at 1 2 ∷ []) (cell 1 (Some (at 1 2)) ∷ [])

-- the last write before the read of the initial value
abbrev pub LostUpdateRefused : Type 0
LostUpdateRefused = IsRefused (increments ∷ increments ∷ []) (0 ∷ []) (0 ∷ 1 ∷ 0 ∷ 1 ∷ []) (at 1 1 ∷ at 1 2 ∷ at 0 1 ∷ [])

-- by rounds the two threads take turns; after two turns of the second thread, the first one does all at once
abbrev pub LostUpdateRounds : Type 0
LostUpdateRounds =
    (rounds (example_threads (increments ∷ increments ∷ []) (0 ∷ [])) 100 (0 ∷ []) 2 ≡ 0 ∷ 1 ∷ 0 ∷ 1 ∷ []) ×
    (follow (example_threads (increments ∷ increments ∷ []) (0 ∷ [])) 100 (0 ∷ []) 2 (1 ∷ 1 ∷ 1 ∷ []) ≡ 1 ∷ 1 ∷ 0 ∷ 0 ∷ [])

-- the same steps as the words saw them
abbrev pub lost_update_steps : List WordStep
lost_update_steps =
    record { thread = 0; number = 1; want = Load 0; found = Some (cell 0 None) } ∷
    record { thread = 1; number = 1; want = Load 0; found = Some (cell 0 None) } ∷
    record { thread = 0; number = 2; want = Store 0 1; found = None } ∷
    record { thread = 1; number = 2; want = Store 0 1; found = None } ∷ []

-- they are a whole history
abbrev pub LostUpdateBridge : Type 0
LostUpdateBridge = IsPlayed (example_threads (increments ∷ increments ∷ []) (0 ∷ [])) (0 ∷ []) 2 lost_update_steps (cell 1 (Some (at 1 2)) ∷ [])

-- writes 42 to word 0, and then 1 to word 1
abbrev pub sends : Script
sends [] = Store 0 42
sends (c ∷ []) = Store 1 1
sends (c ∷ d ∷ rest) = Ended Halted

-- what a thread wants that found this value in word 1: the same as if it had not looked, or else to read word 0 once
abbrev pub once_found : ℕ → Want → List Cell → Want
once_found zero again rest = again
once_found (suc n) again [] = Load 0
once_found (suc n) again (d ∷ rest) = Ended Halted

-- reads word 1 until it is not 0, and then reads word 0
abbrev pub waits : Script
waits [] = Load 1
waits (c ∷ rest) = once_found c.value (waits rest) rest

-- Message passing: the second thread waits for the first one's word. The two reads in vain are one entry
abbrev pub MessagePassing : Type 0
MessagePassing = Shows (sends ∷ waits ∷ []) (0 ∷ 0 ∷ []) (1 ∷ 1 ∷ 0 ∷ 0 ∷ 1 ∷ 1 ∷ [])
    ([] ∷ (entry 1 None 1 2 ∷ entry 1 (Some (at 0 2)) 3 3 ∷ entry 0 (Some (at 0 1)) 4 4 ∷ []) ∷ []) (Some (at 0 1) ∷ Some (at 0 2) ∷ [])
    (at 1 1 ∷ at 1 2 ∷ at 0 1 ∷ at 0 2 ∷ at 1 3 ∷ at 1 4 ∷ []) (cell 42 (Some (at 0 1)) ∷ cell 1 (Some (at 0 2)) ∷ [])

-- Another history with the same log
abbrev pub MessagePassingSooner : Type 0
MessagePassingSooner = Shows (sends ∷ waits ∷ []) (0 ∷ 0 ∷ []) (0 ∷ 1 ∷ 1 ∷ 0 ∷ 1 ∷ 1 ∷ [])
    ([] ∷ (entry 1 None 1 2 ∷ entry 1 (Some (at 0 2)) 3 3 ∷ entry 0 (Some (at 0 1)) 4 4 ∷ []) ∷ []) (Some (at 0 1) ∷ Some (at 0 2) ∷ [])
    (at 0 1 ∷ at 1 1 ∷ at 1 2 ∷ at 0 2 ∷ at 1 3 ∷ at 1 4 ∷ []) (cell 42 (Some (at 0 1)) ∷ cell 1 (Some (at 0 2)) ∷ [])

-- its order respects the log of the first history too
abbrev pub MessagePassingElsewise : Type 0
MessagePassingElsewise = Respects (example_log (sends ∷ waits ∷ []) (0 ∷ 0 ∷ []) (1 ∷ 1 ∷ 0 ∷ 0 ∷ 1 ∷ 1 ∷ []))
    (at 0 1 ∷ at 1 1 ∷ at 1 2 ∷ at 0 2 ∷ at 1 3 ∷ at 1 4 ∷ [])

-- the write to word 1 before the last read of its initial value
abbrev pub MessagePassingBetween : Type 0
MessagePassingBetween = IsRefused (sends ∷ waits ∷ []) (0 ∷ 0 ∷ []) (1 ∷ 1 ∷ 0 ∷ 0 ∷ 1 ∷ 1 ∷ []) (at 0 1 ∷ at 0 2 ∷ at 1 1 ∷ at 1 2 ∷ at 1 3 ∷ at 1 4 ∷ [])

-- a read before the write that it saw
abbrev pub MessagePassingTooEarly : Type 0
MessagePassingTooEarly = IsRefused (sends ∷ waits ∷ []) (0 ∷ 0 ∷ []) (1 ∷ 1 ∷ 0 ∷ 0 ∷ 1 ∷ 1 ∷ []) (at 1 1 ∷ at 1 2 ∷ at 1 3 ∷ at 0 1 ∷ at 0 2 ∷ at 1 4 ∷ [])

-- reads word 0, word 1 and word 0 again
abbrev pub reads_round : Script
reads_round [] = Load 0
reads_round (c ∷ []) = Load 1
reads_round (c ∷ d ∷ []) = Load 0
reads_round (c ∷ d ∷ e ∷ rest) = Ended Halted

-- One entry round another read
abbrev pub RoundAnotherRead : Type 0
RoundAnotherRead = Shows (reads_round ∷ []) (0 ∷ 0 ∷ []) (0 ∷ 0 ∷ 0 ∷ [])
    ((entry 0 None 1 3 ∷ entry 1 None 2 2 ∷ []) ∷ []) (None ∷ None ∷ [])
    (at 0 1 ∷ at 0 2 ∷ at 0 3 ∷ []) (cell 0 None ∷ cell 0 None ∷ [])

-- steps of one thread out of order
abbrev pub RoundAnotherReadRefused : Type 0
RoundAnotherReadRefused = IsRefused (reads_round ∷ []) (0 ∷ 0 ∷ []) (0 ∷ 0 ∷ 0 ∷ []) (at 0 2 ∷ at 0 1 ∷ at 0 3 ∷ [])

-- exchanges word 0 for this value
abbrev pub exchanges : ℕ → Script
exchanges value [] = Swap 0 value
exchanges value (c ∷ rest) = Ended Halted

-- Exchange chain: each thread reads the one before and is read by the next, in one step
abbrev pub ExchangeChain : Type 0
ExchangeChain = Shows (exchanges 1 ∷ exchanges 2 ∷ exchanges 3 ∷ []) (0 ∷ []) (0 ∷ 1 ∷ 2 ∷ [])
    ((entry 0 None 1 1 ∷ []) ∷ (entry 0 (Some (at 0 1)) 1 1 ∷ []) ∷ (entry 0 (Some (at 1 1)) 1 1 ∷ []) ∷ []) (Some (at 2 1) ∷ [])
    (at 0 1 ∷ at 1 1 ∷ at 2 1 ∷ []) (cell 3 (Some (at 2 1)) ∷ [])

-- the second before the first, which it read
abbrev pub ExchangeChainRefused : Type 0
ExchangeChainRefused = IsRefused (exchanges 1 ∷ exchanges 2 ∷ exchanges 3 ∷ []) (0 ∷ []) (0 ∷ 1 ∷ 2 ∷ []) (at 1 1 ∷ at 0 1 ∷ at 2 1 ∷ [])

-- reads word 0
abbrev pub reads_once : Script
reads_once [] = Load 0
reads_once (c ∷ rest) = Ended Halted

-- writes this value to word 0
abbrev pub writes : ℕ → Script
writes value [] = Store 0 value
writes value (c ∷ rest) = Ended Halted

-- Blind stores: the third thread's store is overwritten unseen, and the replay leaves it out
abbrev pub BlindStores : Type 0
BlindStores = Shows (reads_once ∷ writes 5 ∷ writes 6 ∷ []) (0 ∷ []) (0 ∷ 2 ∷ 1 ∷ [])
    ((entry 0 None 1 1 ∷ []) ∷ [] ∷ [] ∷ []) (Some (at 1 1) ∷ [])
    (at 0 1 ∷ at 1 1 ∷ []) (cell 5 (Some (at 1 1)) ∷ [])

-- the last write before the read of the initial value
abbrev pub BlindStoresRefused : Type 0
BlindStoresRefused = IsRefused (reads_once ∷ writes 5 ∷ writes 6 ∷ []) (0 ∷ []) (0 ∷ 2 ∷ 1 ∷ []) (at 1 1 ∷ at 0 1 ∷ [])

-- the overwritten store is no event
abbrev pub BlindStoresNoEvent : Type 0
BlindStoresNoEvent = IsRefused (reads_once ∷ writes 5 ∷ writes 6 ∷ []) (0 ∷ []) (0 ∷ 2 ∷ 1 ∷ []) (at 0 1 ∷ at 2 1 ∷ at 1 1 ∷ [])

-- reads word 0, and where it finds 5 writes 8 to it, if nobody has written since
abbrev pub compares : Script
compares [] = Load 0
compares (c ∷ []) = if c.value == 5 then Cond 0 c.tag 8 else Ended Halted
compares (c ∷ d ∷ rest) = Ended Halted

-- Same value, other writer: the second thread writes the value that stood there; the first one's exchange fails all the same
abbrev pub SameValueOtherWriter : Type 0
SameValueOtherWriter = Shows (compares ∷ writes 5 ∷ []) (5 ∷ []) (0 ∷ 1 ∷ 0 ∷ [])
    ((entry 0 None 1 1 ∷ entry 0 (Some (at 1 1)) 2 2 ∷ []) ∷ [] ∷ []) (Some (at 1 1) ∷ [])
    (at 0 1 ∷ at 1 1 ∷ at 0 2 ∷ []) (cell 5 (Some (at 1 1)) ∷ [])

-- an event is missing
abbrev pub SameValueOtherWriterRefused : Type 0
SameValueOtherWriterRefused = IsRefused (compares ∷ writes 5 ∷ []) (5 ∷ []) (0 ∷ 1 ∷ 0 ∷ []) (at 0 1 ∷ at 1 1 ∷ [])

-- writes 1 and 2 to word 0, and 3 to word 1
abbrev pub counts : Script
counts [] = Store 0 1
counts (c ∷ []) = Store 0 2
counts (c ∷ d ∷ []) = Store 1 3
counts (c ∷ d ∷ e ∷ rest) = Ended Halted

-- reads word 1 and word 0, and writes 9 to word 0
abbrev pub looks_back : Script
looks_back [] = Load 1
looks_back (c ∷ []) = Load 0
looks_back (c ∷ d ∷ []) = Store 0 9
looks_back (c ∷ d ∷ e ∷ rest) = Ended Halted

-- a log of no history: the second thread has seen the first one's last write, and after it that one's first write, which was overwritten before
abbrev pub forced_between_log : Log
forced_between_log = record {
  digest = [];
  limits = example_limits;
  threads = record { entries = []; steps = 3; instr = 3; end = Halted; taken = [] } ∷
      record { entries = entry 1 (Some (at 0 3)) 1 1 ∷ entry 0 (Some (at 0 1)) 2 2 ∷ []; steps = 3; instr = 3; end = Halted; taken = [] } ∷ [];
  last_tags = Some (at 1 3) ∷ Some (at 0 3) ∷ [];
}

-- the threads of this example
abbrev pub forced_between_threads : Threads
forced_between_threads = example_threads (counts ∷ looks_back ∷ []) (0 ∷ 0 ∷ [])

-- the state after the skip play of that log
abbrev pub forced_between_end : World
forced_between_end = skip_play forced_between_threads (0 ∷ 0 ∷ []) forced_between_log (at 0 1 ∷ at 0 3 ∷ at 1 1 ∷ at 1 2 ∷ at 1 3 ∷ [])

-- A write forced between: the unseen write is no event, so the skip play has the log all the same, and its runs fit it
abbrev pub ForcedBetween : Type 0
ForcedBetween = HasLog forced_between_threads one_each forced_between_log forced_between_end ×
    Fits forced_between_threads one_each (0 ∷ 0 ∷ []) forced_between_log forced_between_end.threads ×
    (forced_between_end.memory ≡ cell 9 (Some (at 1 3)) ∷ cell 3 (Some (at 0 3)) ∷ [])

-- a log in which a thread that only reads has written
abbrev pub no_fit_log : Log
no_fit_log = record {
  digest = [];
  limits = example_limits;
  threads = record { entries = entry 0 (Some (at 1 1)) 1 1 ∷ []; steps = 1; instr = 1; end = Halted; taken = [] } ∷
      record { entries = entry 0 None 1 1 ∷ []; steps = 1; instr = 1; end = Halted; taken = [] } ∷ [];
  last_tags = Some (at 1 1) ∷ [];
}

-- an order of its events
abbrev pub no_fit_order : List Event
no_fit_order = at 1 1 ∷ at 0 1 ∷ []

-- two threads that only read
abbrev pub no_fit_threads : Threads
no_fit_threads = example_threads (reads_once ∷ reads_once ∷ []) (5 ∷ [])

-- No fit: an order respects the log, but the skip play by it does not have the log, and no runs fit it
abbrev pub NoFit : Type 0
NoFit = Respects no_fit_log no_fit_order ×
    (HasLog no_fit_threads one_each no_fit_log (skip_play no_fit_threads (5 ∷ []) no_fit_log no_fit_order) → ⊥) ×
    ((runs : List (List Step)) → Fits no_fit_threads one_each (5 ∷ []) no_fit_log runs → ⊥)

-- reads word 0, writes word 1 and reads word 1
abbrev pub reads_twice : Script
reads_twice [] = Load 0
reads_twice (c ∷ []) = Store 1 0
reads_twice (c ∷ d ∷ []) = Load 1
reads_twice (c ∷ d ∷ e ∷ rest) = Ended Halted

-- limits with room for one entry
abbrev pub one_entry_limits : Limits
one_entry_limits = record { steps = 100; instr = 100; entries = 1 }

-- One entry allowed: the thread ends before its second read, and the log says so
abbrev pub OneEntry : Type 0
OneEntry = (history_log (script_threads (reads_twice ∷ []) 2 one_entry_limits) one_each [] one_entry_limits (0 ∷ 0 ∷ []) 1 (0 ∷ 0 ∷ [])).threads ≡
    record { entries = entry 0 None 1 1 ∷ []; steps = 2; instr = 2; end = EntriesFull; taken = [] } ∷ []
