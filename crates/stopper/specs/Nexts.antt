-- The next entries of threads, in a search for a cut.
use Rattle.std.specs.Prelude.{ℕ, ◌<◌, ◌≤◌, Option, Some, None, length, slice_index_or, List}
use Rattle.replay_model.specs.declared.Entry.{Entry}
use Rattle.replay_model.specs.Logs.{Log, thread_of}
use Rattle.cut_laws.specs.Cuts.{number_of}

-- the next entry of thread t has begun, where the threads have gone so far
abbrev pub HasNext : Log → List ℕ → List ℕ → ℕ → Type 0
HasNext log numbers nexts t = (number_of nexts t < length (thread_of log t).entries) ×
    ((d : Entry) → (slice_index_or (thread_of log t).entries (number_of nexts t) d).first ≤ number_of numbers t)

-- a thread whose next entry has begun, or that there is none
abbrev pub IsFirstBegun : Log → List ℕ → List ℕ → Option ℕ → Type 0
IsFirstBegun log numbers nexts None = (t : ℕ) → t < length log.threads → HasNext log numbers nexts t → ⊥
IsFirstBegun log numbers nexts (Some t) = (t < length log.threads) × HasNext log numbers nexts t
