use Rattle.std.proofs.Common.{arith}
use Rattle.log_file.proofs.ScheduleLaws.{found_is, only_is, refused_is}
use Rattle.log_file.proofs.schedule.read_schedule.Goals as goal

pub returns-clause-found : goal.returns-clause-found
returns-clause-found c = found_is c.args.bytes.now c.read_events.result (λ i. omega (arith, c.type_inv.bytes i)) c.read_events.ensures

pub returns-clause-only : goal.returns-clause-only
returns-clause-only c order text = only_is c.args.bytes.now c.read_events.result order c.read_events.ensures text

pub returns-clause-refused : goal.returns-clause-refused
returns-clause-refused c = refused_is c.args.bytes.now c.read_events.result c.read_events.ensures
