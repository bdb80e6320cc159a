use Rattle.std.proofs.Common.{Some, sym, subst, arith}
use Rattle.std.specs.Prelude.{Contains}
use Rattle.light_base.specs.Cells.{unpacked}
use Rattle.replay_model.specs.declared.Want.TheVariants.{Load}
use Rattle.tagged_words.proofs.Seats.{cond_allowed}
use Rattle.tagged_words.proofs.words.Words.compare_exchange_number.Goals as goal

pub compare_exchange-found-requires : goal.compare_exchange-found-requires
compare_exchange-found-requires c =
    cond_allowed _ _ _ c.self.invariant _ _ _ c.hand.invariant _ _ c.self.view_is c.hand.view_is c.requires.own c.requires.room _ c.from.result (omega (arith, c.from.ensures, c.requires.inside))
    c.args.new c.ranges.new.fits c.requires.tag c.requires.by c.args.old c.requires.old_tag
    (subst (Contains c.args.hand.now.steps) (λ i. record { want = Load (sym c.from.ensures i); found = Some (unpacked c.args.old) }) c.requires.seen)
