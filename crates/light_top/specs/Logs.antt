-- Logs and schedules that are read, and what tells the program of a log.
use Rattle.std.specs.Prelude.{ℕ, List, Result, Ok, Err}
use Rattle.light_base.specs.declared.tag.Event.{Event}
use Rattle.replay_model.specs.Logs.{Log}
use Rattle.log_file.specs.declared.log_fault.LogFault.{LogFault}
use Rattle.log_file.specs.Readings.{log_today, log_of_old}
use Rattle.log_file.specs.declared.sched_fault.SchedFault.{SchedFault}
use Rattle.log_file.specs.Schedules.{schedule_read}
use Rattle.light_top.specs.Images.{ImageValue}
use Rattle.batch.specs.declared.print.Print.{Print}
use Rattle.batch.specs.Prints.{print_of_image}
use Rattle.light_top.specs.declared.status.Status.{Status}
use Rattle.light_top.specs.declared.status.Status.TheVariants as status

-- the log that bytes tell, or their first fault
abbrev pub log_or_fault : Result Log LogFault → Result Log Status
log_or_fault (Ok log) = Ok log
log_or_fault (Err fault) = Err (status.LogRefused fault)

abbrev pub as_log : List ℕ → Result Log Status
as_log bytes = log_or_fault (log_today bytes)

-- the same in version 1 of the format
abbrev pub as_old_log : List ℕ → Result Log Status
as_old_log bytes = log_or_fault (log_of_old bytes)

-- the order whose text the bytes are, or their first fault
abbrev pub order_or_fault : Result (List Event) SchedFault → Result (List Event) Status
order_or_fault (Ok order) = Ok order
order_or_fault (Err fault) = Err (status.SchedRefused fault)

abbrev pub as_order : List ℕ → Result (List Event) Status
as_order bytes = order_or_fault (schedule_read bytes)

-- what an image is, which a log says of its own
abbrev pub image_print : ImageValue → Print
image_print image = print_of_image image.bytes image.program
