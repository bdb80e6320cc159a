use Rattle.std.proofs.Common.{arith}
use Rattle.tagged_words.proofs.Seats.{swap_allowed}
use Rattle.tagged_words.proofs.words.Words.swap_number.Goals as goal

pub swap-found-requires : goal.swap-found-requires
swap-found-requires c =
    swap_allowed _ _ _ c.self.invariant _ _ _ c.hand.invariant _ _ c.self.view_is c.hand.view_is c.requires.own c.requires.room _ c.from.result (omega (arith, c.from.ensures, c.requires.inside))
    c.args.new c.ranges.new.fits c.requires.tag c.requires.by
