use Rattle.std.proofs.Common.{length, ap, ◌∙◌}
use Rattle.machine.specs.Programs.{ProgramValue}
use Rattle.light_top.proofs.ArenaEnds.{eight_threads, arena_values, of_number}
use Rattle.light_top.proofs.arenas.play_arena.Goals as goal

pub record_arena-requires-after_bounds : goal.record_arena-requires-after_bounds
record_arena-requires-after_bounds g c κs within = ap (λ (p : ProgramValue). length p.threads) c.in_ok-program.ensures ∙ eight_threads c.args.number

pub returns-in-Err-clause-err : goal.returns-in-Err-clause-err
returns-in-Err-clause-err g c = of_number c.args.number c.in_ok-program.program c.in-Err.status c.in_ok-program.ensures c.in-Err.ensures.err

pub summary-requires : goal.summary-requires
summary-requires g c =
    ap length c.deref.ensures.value ∙ arena_values c.args.number c.in_ok-program.program c.in-Ok.values.items c.in_ok-program.ensures c.in-Ok.ensures.ok
