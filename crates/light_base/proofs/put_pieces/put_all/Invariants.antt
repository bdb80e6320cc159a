use Rattle.std.proofs.Common.{length}
use Rattle.light_base.proofs.PutFront.{PutSome}
use Rattle.light_base.proofs.put_pieces.put_all.Given as goal

abbrev pub invariant-loop-rest : goal.invariant-loop-rest
invariant-loop-rest g l = PutSome (g.K.Sink.told l.initial.out) (g.K.Sink.told l.out) l.bytes l.rest

abbrev pub decreases-loop-rest : goal.decreases-loop-rest
decreases-loop-rest g l = length l.rest
