use Rattle.std.proofs.Common.{◌≡◌, ◌++◌, length, drop}
use Rattle.audit_laws.specs.Placings.{turns_from, placing_turns}
use Rattle.audit.proofs.turns.turns_of.Given as goal

abbrev pub invariant-loop-event : goal.invariant-loop-event
invariant-loop-event l = (length l.taken.items ≡ l.threads) ×
    (l.turns.items ++ turns_from l.taken.items (drop l.event-index l.order) ≡ placing_turns l.threads l.order)
