use Rattle.std.proofs.Common.{◌≡◌, ap, ◌∙◌, List, length, Vec, String, Global, vec_len}
use Rattle.std.specs.Vec.Iter.{into_iter_items, into_iter_len}
use Rattle.std.specs.Iterator.Adapters.{skip_source}
use Rattle.std.proofs.lemmas.Iterator.Adapters.{YieldsList-from_vec, YieldsList-from_skip, fact_from_collect}
use Rattle.light_cli.proofs.words.words_of.Goals as goal

pub returns-in-Ok-collect-clause-ok : goal.returns-in-Ok-collect-clause-ok
returns-in-Ok-collect-clause-ok c =
    let all = c.in-Ok.all in
    let source = c.skip.ensures.source in
    let collected = fact_from_collect (λ (xs : List (String Global)) (v : Vec (String Global) Global). (v.items ≡ xs) × (vec_len v ≡ length xs)) c.collect.result c.collect.ensures.ran
    (YieldsList-from_skip {s = c.skip.result} 1 (YieldsList-from_vec {s = skip_source c.skip.result} (into_iter_items all) (ap into_iter_items source) (ap into_iter_len source ∙ all.rest.ok.0)) c.skip.ensures.count) in
    rw c.in-Ok.is (rw c.in-Ok-collect.is at collected).0
