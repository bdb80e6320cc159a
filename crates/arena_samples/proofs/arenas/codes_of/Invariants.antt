use Rattle.std.proofs.Common.{◌≡◌, ◌*◌}
use Rattle.machine.specs.Programs.{code_lists}
use Rattle.arena_samples.specs.Draws.{state_after}
use Rattle.arena_samples.specs.Arenas.{thread_codes}
use Rattle.arena_samples.proofs.arenas.codes_of.Given as goal

abbrev pub invariant-loop : goal.invariant-loop
invariant-loop l = record {
  codes : code_lists l.codes.items ≡ thread_codes l.number l.counter;
  state : l.draws.state ≡ state_after l.number (48 * l.counter);
}
