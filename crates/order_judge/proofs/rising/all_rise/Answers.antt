use Rattle.std.proofs.lemmas.Bool.{both_ways}
use Rattle.plain_search.specs.Chains.{chains_from}
use Rattle.std.specs.Prelude.{slice_index}
use Rattle.order_judge.proofs.Chaining.{holds-append}
use Rattle.order_judge.proofs.rising.all_rise.Goals as goal

pub returns-then-chains_rise : goal.returns-then-chains_rise
returns-then-chains_rise c =
    let both = holds-append (slice_index c.args.places.now) (chains_from 0 c.args.counts.now) c.args.edges.now in
    (λ t. both.1 (c.chains_rise.ensures.0 c.if-chains_rise.true, c.edges_rise.ensures.0 t), λ h. c.edges_rise.ensures.1 (both.0 h).1)

pub returns-else-chains_rise : goal.returns-else-chains_rise
returns-else-chains_rise c =
    let both = holds-append (slice_index c.args.places.now) (chains_from 0 c.args.counts.now) c.args.edges.now in
    (λ t. absurd (both_ways _ c.if-chains_rise.false t), λ h. c.chains_rise.ensures.1 (both.0 h).0)
