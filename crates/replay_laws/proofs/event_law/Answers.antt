use Rattle.replay_laws.proofs.event_law.Goals as goal
use Rattle.replay_laws.proofs.Places.{keeps-kept, kept-keeps, is_event-event, event-is_event}

pub returns-clause-kept : goal.returns-clause-kept
returns-clause-kept c log event = (keeps-kept log event, kept-keeps log event)

pub returns-clause-event : goal.returns-clause-event
returns-clause-event c log event = (is_event-event log event, event-is_event log event)
