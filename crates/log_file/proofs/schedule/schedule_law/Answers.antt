use Rattle.log_file.proofs.ScheduleLaws.{schedule_take, schedule_again, schedule_long}
use Rattle.log_file.proofs.schedule.schedule_law.Goals as goal

pub returns-clause-read : goal.returns-clause-read
returns-clause-read c bytes order fits = (schedule_take bytes order fits, schedule_again bytes order)

pub returns-clause-long : goal.returns-clause-long
returns-clause-long c = schedule_long
