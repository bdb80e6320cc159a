use Rattle.std.proofs.Common.{ℕ, ◌+◌, List, ◌∷◌, [], ◌++◌, set, sym, ◌∙◌, ap, subst}
use Rattle.std.proofs.lemmas.List.{get_or_read}
use Rattle.dep_log.specs.AccessLogs.{Entry}
use Rattle.dep_log.specs.Buckets.{AreBuckets}
use Rattle.dep_log.proofs.Chains.{buckets-push}
use Rattle.dep_log.proofs.buckets.push.Goals as goal

pub returns-clause-buckets : goal.returns-clause-buckets
returns-clause-buckets c =
    let heads = set c.args.heads.now.items c.args.bucket c.len.result in
    let last = c.len.ensures ∙ c.push_reserved-2.ensures.len ∙ ap (λ (n : ℕ). n + 1) c.args.entries.now.ok.0 in
    let one = buckets-push c.args.entries.now.items c.args.heads.now.items c.args.older.now.items c.args.entry c.args.bucket c.index.result.now c.len.result c.requires.buckets c.requires.bucket c.requires.below
    (get_or_read c.args.heads.now.items c.args.bucket c.index.result.now c.requires.below c.index.ensures 0) last in
    subst (λ (z : List ℕ). AreBuckets c.push_reserved-2.new.self.items heads z) (sym c.push_reserved.ensures.items)
    (subst (λ (z : List Entry). AreBuckets z heads (c.args.older.now.items ++ c.index.result.now ∷ [])) (sym c.push_reserved-2.ensures.items) one)
