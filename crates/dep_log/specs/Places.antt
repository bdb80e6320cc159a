-- Where the entry of what was seen stands in a list of entries.
use Rattle.std.specs.Prelude.{◌≡◌, ℕ, ◌<◌, Bool, Option, Some, List, length, slice_index_or}
use Rattle.dep_log.specs.declared.entries.Sighting.{Sighting}
use Rattle.dep_log.specs.contracts.entries.SightingPartialEq.TheImpl as sightings
use Rattle.dep_log.specs.AccessLogs.{Entry}

-- the test by which a map finds a sighting
abbrev pub same_sighting : Sighting → Sighting → Bool
same_sighting = (sightings.ghosts).eq

-- what an entry stands for
abbrev pub sighting_of : Entry → Sighting
sighting_of entry = record { word = entry.word; writer = entry.source }

-- a look-up finds the place of each entry by what the entry stands for, and finds no other place
pub record FindsEntries (find : Sighting → Option ℕ) (entries : List Entry) : Type 0 where
  pub each : (k : ℕ) (d : Entry) → k < length entries → find (sighting_of (slice_index_or entries k d)) ≡ Some k
  pub only : (sighting : Sighting) (k : ℕ) (d : Entry) → find sighting ≡ Some k → (k < length entries) × (sighting_of (slice_index_or entries k d) ≡ sighting)
