use Rattle.log_file.specs.declared.version.Version.TheVariants.{One, Two}
use Rattle.log_file.proofs.LogLaws.{log_take}
use Rattle.log_file.proofs.TextLaws.{text_read, text_long}
use Rattle.log_file.proofs.log_reading.log_text_law.Goals as goal

pub returns-clause-read : goal.returns-clause-read
returns-clause-read c bytes log fits = (log_take Two bytes log fits, text_read Two bytes log)

pub returns-clause-old : goal.returns-clause-old
returns-clause-old c bytes log fits = (log_take One bytes log fits, text_read One bytes log)

pub returns-clause-long : goal.returns-clause-long
returns-clause-long c bytes more log text some = text_long Two bytes more log text some
