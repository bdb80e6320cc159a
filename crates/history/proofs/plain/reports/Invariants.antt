use Rattle.std.proofs.Common.{◌≡◌, map}
use Rattle.history.specs.Playing.{seat_report}
use Rattle.history.proofs.plain.reports.Given as goal

abbrev pub invariant-loop-seat : goal.invariant-loop-seat
invariant-loop-seat l = l.reports.items ≡ map (seat_report l.program l.limits l.inputs) l.yielded
