use Rattle.std.proofs.Common.{◌≡◌, ◌*◌, ◌∷◌}
use Rattle.machine.specs.declared.program.Op.TheVariants as op
use Rattle.arena_samples.specs.Draws.{state_after}
use Rattle.arena_samples.specs.Arenas.{instr, moves_code}
use Rattle.arena_samples.proofs.arenas.next_code.Given as goal

abbrev pub invariant-loop-i : goal.invariant-loop-i
invariant-loop-i l = record {
  code : l.code.items ≡ instr op.Const 2 0 1 ∷ moves_code l.fn.draws.state l.i;
  state : l.draws.state ≡ state_after l.fn.draws.state (3 * l.i);
}
