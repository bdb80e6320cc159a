use Rattle.std.proofs.Common.{Some, sym, subst}
use Rattle.std.specs.Prelude.{Contains}
use Rattle.replay_model.specs.declared.Want.TheVariants.{Load}
use Rattle.tagged_words.proofs.Places.{slice_get-contains}
use Rattle.tagged_words.proofs.words.Words.cond.Goals as goal

pub compare_exchange_number-found-requires-clause-seen : goal.compare_exchange_number-found-requires-clause-seen
compare_exchange_number-found-requires-clause-seen c =
    subst (Contains c.args.hand.now.steps) (λ i. record { want = Load c.args.seen.now.word; found = Some (sym c.pack-old.ensures.back i) }) (slice_get-contains c.args.hand.now.steps _ _ c.requires.seen.1)
