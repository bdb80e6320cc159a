-- How the cut of a step is found.
use Rattle.std.specs.Prelude.{◌≡◌, ℕ, ◌+◌, ◌<◌, List, length, replicate, slice_index_or, slice_set}
use Rattle.replay_model.specs.declared.Entry.{Entry}
use Rattle.replay_model.specs.Logs.{Log, thread_of, first_event}
use Rattle.replay_model.specs.WellFormed.{IsWellFormed}
use Rattle.cut_laws.specs.Cuts.{number_of, IsWithin, IsCut}
use Rattle.cut_laws.specs.Searches.{IsSearched, first_numbers, raised}

-- at the start the thread asked for goes to its step, no other one goes, and no entry was looked at
abbrev pub SearchBegins : Type 0
SearchBegins = (log : Log) (thread step : ℕ) → thread < length log.threads →
    IsSearched log thread step (first_numbers (length log.threads) thread step) (replicate (length log.threads) 0)

-- where the next entry of a thread has begun, the thread of its source goes as far as this
abbrev pub SearchGoesOn : Type 0
SearchGoesOn = (log : Log) (thread step : ℕ) (numbers nexts : List ℕ) (t : ℕ) (entry : Entry) →
    IsWellFormed log → IsSearched log thread step numbers nexts → number_of nexts t < length (thread_of log t).entries →
    entry ≡ slice_index_or (thread_of log t).entries (number_of nexts t) entry → IsWithin numbers (first_event t entry) →
    IsSearched log thread step (raised numbers entry.source) (slice_set nexts t (number_of nexts t + 1))

-- where no thread's next entry has begun, the numbers are the cut
abbrev pub SearchEndsAtTheCut : Type 0
SearchEndsAtTheCut = (log : Log) (thread step : ℕ) (numbers nexts : List ℕ) →
    IsWellFormed log → IsSearched log thread step numbers nexts →
    ((t : ℕ) (d : Entry) → number_of nexts t < length (thread_of log t).entries →
    number_of numbers t < (slice_index_or (thread_of log t).entries (number_of nexts t) d).first) →
    IsCut log thread step numbers
