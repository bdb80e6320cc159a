use Rattle.std.proofs.Common.{arith}
use Rattle.tagged_words.proofs.Seats.{load_allowed}
use Rattle.tagged_words.proofs.words.Words.load.Goals as goal

pub load-found-requires : goal.load-found-requires
load-found-requires c =
    load_allowed _ _ _ c.self.invariant _ _ _ c.hand.invariant _ _ c.self.view_is c.hand.view_is c.requires.own c.requires.room _ c.from.result (omega (arith, c.from.ensures, c.requires.inside))
