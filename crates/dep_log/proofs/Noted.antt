-- The log of accesses that end with a read.
use Rattle.std.proofs.Common.{ℕ, List, [], ◌∷◌, ◌++◌, ◌∙◌, ap}
use Rattle.std.specs.Prelude.{Option}
use Rattle.replay_model.specs.Steps.{Tag, Cell}
use Rattle.replay_model.specs.MoreReads.{with_read}
use Rattle.dep_log.specs.AccessLogs.{Access, Entry, RiseAbove, with_found, noted}
use Rattle.dep_log.specs.DepLogs.{LogsRead}
use Rattle.dep_log.proofs.AccessLogs.{access_log-push}

-- numbers that rise to a last one rise before it
pub RiseAbove-before : (n : ℕ) (accesses : List Access) (access : Access) → RiseAbove n (accesses ++ access ∷ []) → RiseAbove n accesses
RiseAbove-before n [] access rise = tt
RiseAbove-before n (a ∷ accesses) access rise = (rise.0, RiseAbove-before a.step accesses access rise.1)

pub logs_read : (word : ℕ) (tag : Tag) (n : ℕ) (old : List Entry) → LogsRead word tag n old (with_read word tag n old)
logs_read word tag n old accesses access cell at to saw by rise log =
    access_log-push accesses access (RiseAbove-before 0 accesses access rise) rise ∙ ap (noted access) log ∙
    ap (λ (found : Option Cell). with_found access.step access.word found old) saw ∙
    ap (λ (m : ℕ). with_read access.word cell.tag m old) at ∙ ap (λ (w : ℕ). with_read w cell.tag n old) to ∙ ap (λ (t : Tag). with_read word t n old) by
