-- The log that bytes tell in each version of the format, or their first fault.
use Rattle.std.specs.Prelude.{ℕ, List, Result}
use Rattle.replay_model.specs.Logs.{Log}
use Rattle.log_file.specs.LogFaults.{LogFault}
use Rattle.log_file.specs.LogReading.{log_read}
use Rattle.log_file.specs.declared.version.Version.TheVariants.{One, Two}

-- in the version that is written
abbrev pub log_today : List ℕ → Result Log LogFault
log_today bytes = log_read Two bytes

-- in version 1
abbrev pub log_of_old : List ℕ → Result Log LogFault
log_of_old bytes = log_read One bytes
