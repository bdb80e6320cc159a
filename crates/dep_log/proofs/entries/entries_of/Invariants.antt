use Rattle.std.proofs.Common.{◌≡◌, take}
use Rattle.std.specs.HashMap.{get}
use Rattle.dep_log.specs.AccessLogs.{access_log}
use Rattle.dep_log.specs.Places.{FindsEntries, same_sighting}
use Rattle.dep_log.proofs.entries.entries_of.Given as goal

abbrev pub invariant-loop-access : goal.invariant-loop-access
invariant-loop-access l = record {
  entries : l.entries.items ≡ access_log (take l.access-index l.accesses);
  places : FindsEntries (get same_sighting l.places) l.entries.items;
}
