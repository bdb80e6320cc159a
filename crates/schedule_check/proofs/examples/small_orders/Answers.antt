use Rattle.std.proofs.Common.{refl}
use Rattle.constraints.specs.Positions.{event_list}
use Rattle.schedule_check.specs.Faults.{first_fault}
use Rattle.schedule_check.proofs.examples.small_orders.Goals as goal

pub returns-clause-own_write : goal.returns-clause-own_write
unfolding event_list first_fault
returns-clause-own_write c = record { fine = refl; unknown = refl; twice = refl; missing = refl; turned = refl }

pub returns-clause-initial_value : goal.returns-clause-initial_value
unfolding event_list first_fault
returns-clause-initial_value c = record { fine = refl; late = refl }

pub returns-clause-message_passing : goal.returns-clause-message_passing
unfolding event_list first_fault
returns-clause-message_passing c = record { fine = refl; flag_early = refl; flag_late = refl }

pub returns-clause-exchange_chain : goal.returns-clause-exchange_chain
unfolding event_list first_fault
returns-clause-exchange_chain c = record { fine = refl; after_last = refl }

pub returns-clause-stale_read : goal.returns-clause-stale_read
unfolding event_list first_fault
returns-clause-stale_read c = record { crossed = refl }

pub returns-clause-never_over : goal.returns-clause-never_over
unfolding event_list first_fault
returns-clause-never_over c = record { late = refl }
