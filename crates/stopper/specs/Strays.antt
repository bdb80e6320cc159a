-- Where a play up to a cut first has something else than its log.
use Rattle.std.specs.Prelude.{◌≡◌, ◌≢◌, ℕ, ◌<◌, ◌≤◌, Option, Some, None, List, length, slice_get, slice_index_or, MatchOption}
use Rattle.std.specs.List.{AllZip}
use Rattle.replay_model.specs.declared.Entry.{Entry}
use Rattle.replay_model.specs.Histories.{World, steps_of}
use Rattle.replay_model.specs.ThreadLogs.{thread_log}
use Rattle.replay_model.specs.Logs.{Log, thread_of}
use Rattle.running_thread.specs.declared.thread.RunningThread.{RunningThread}
use Rattle.cut_laws.specs.Cuts.{number_of, begun, IsSeenOf}
use Rattle.stopper.specs.declared.stray.Stray.{Stray}
use Rattle.stopper.specs.declared.stray.Stray.TheVariants as stray

-- what was seen at a place is what is logged there by this step: an entry, or nothing
abbrev pub AreSeenAt : ℕ → Option Entry → Option Entry → Type 0
AreSeenAt number (Some logged) (Some seen) = IsSeenOf number logged seen
AreSeenAt number (Some logged) None = ⊥
AreSeenAt number None (Some seen) = ⊥
AreSeenAt number None None = Prim.Unit {0}

-- so it is at all places
abbrev pub AllFrom : ℕ → List Entry → List Entry → Type 0
AllFrom number logged seen = AllZip (IsSeenOf number) logged seen

-- so it is before this place, and here it is not
abbrev pub IsFirstOther : ℕ → List Entry → List Entry → ℕ → Type 0
IsFirstOther number logged seen place =
    ((k : ℕ) → k < place → AreSeenAt number (slice_get logged k) (slice_get seen k)) ×
    (AreSeenAt number (slice_get logged place) (slice_get seen place) → ⊥)

-- a thread came as far as its number, and has seen what is logged of it by then
pub record IsThreadOnTrack (number : ℕ) (logged seen : List Entry) (taken : ℕ) : Type 0 where
  pub entries : AllFrom number logged seen
  pub comes : number ≤ taken

-- the first thing that is amiss in a thread: its first place where something else was seen, and after these that it ended before its number
abbrev pub IsStrayOf : ℕ → ℕ → List Entry → List Entry → ℕ → Stray → Type 0
IsStrayOf t number logged seen taken (stray.Ended thread wanted got) =
    (thread ≡ t) × (wanted ≡ number) × (got ≡ taken) × AllFrom number logged seen × (taken < number)
IsStrayOf t number logged seen taken (stray.Entry thread place there here) =
    (thread ≡ t) × (there ≡ slice_get logged place) × (here ≡ slice_get seen place) ×
    ((k : ℕ) → k < place → AreSeenAt number (slice_get logged k) (slice_get seen k)) × (AreSeenAt number there here → ⊥)

-- the thread that strays
abbrev pub straying : Stray → ℕ
straying (stray.Ended thread wanted taken) = thread
straying (stray.Entry thread entry logged found) = thread

-- what it tells are two values that differ
abbrev pub AreUnlike : Stray → Type 0
AreUnlike (stray.Ended thread wanted taken) = taken < wanted
AreUnlike (stray.Entry thread entry logged found) = logged ≢ found

-- ---- of a world

-- the entries of thread t that have begun by its number in the cut
abbrev pub logged_in : Log → List ℕ → ℕ → List Entry
logged_in log cut t = begun (number_of cut t) (thread_of log t).entries

abbrev pub steps_in : World → ℕ → ℕ
steps_in world t = length (steps_of world.threads t)

abbrev pub IsOnTrackAt : Log → List ℕ → World → ℕ → Type 0
IsOnTrackAt log cut world t = IsThreadOnTrack (number_of cut t) (logged_in log cut t) (thread_log (steps_of world.threads t)) (steps_in world t)

-- the first stray of all threads, thread 0 first
pub record IsFirstStray (log : Log) (cut : List ℕ) (world : World) (stray : Stray) : Type 0 where
  pub thread : ℕ
  pub there : thread < length log.threads
  pub before : (u : ℕ) → u < thread → IsOnTrackAt log cut world u
  pub here : IsStrayOf thread (number_of cut thread) (logged_in log cut thread) (thread_log (steps_of world.threads thread)) (steps_in world thread) stray

-- ---- of running threads

abbrev pub IsSeatOnTrack : Log → List ℕ → ℕ → RunningThread → Type 0
IsSeatOnTrack log cut t seat = IsThreadOnTrack (number_of cut t) (logged_in log cut t) seat.log.entries seat.core.steps

abbrev pub IsStrayOfSeat : Log → List ℕ → ℕ → RunningThread → Stray → Type 0
IsStrayOfSeat log cut t seat stray = IsStrayOf t (number_of cut t) (logged_in log cut t) seat.log.entries seat.core.steps stray

-- what is told of one thread, and of one with these entries
abbrev pub EntriesCompared : ℕ → ℕ → List Entry → List Entry → ℕ → Option Stray → Type 0
EntriesCompared t number logged seen taken answer = MatchOption answer (IsThreadOnTrack number logged seen taken) (IsStrayOf t number logged seen taken)

abbrev pub SeatCompared : Log → List ℕ → ℕ → RunningThread → Option Stray → Type 0
SeatCompared log cut t seat answer = MatchOption answer (IsSeatOnTrack log cut t seat) (IsStrayOfSeat log cut t seat)

-- all are on track, or this is the first stray
abbrev pub SeatsCompared : Log → List ℕ → List RunningThread → Option Stray → Type 0
SeatsCompared log cut seats answer = MatchOption answer
    ((t : ℕ) (d : RunningThread) → t < length seats → IsSeatOnTrack log cut t (slice_index_or seats t d))
    (λ (found : Stray). (t : ℕ) × (t < length seats) × ((u : ℕ) (d : RunningThread) → u < t → IsSeatOnTrack log cut u (slice_index_or seats u d)) ×
    ((d : RunningThread) → IsStrayOfSeat log cut t (slice_index_or seats t d) found))
