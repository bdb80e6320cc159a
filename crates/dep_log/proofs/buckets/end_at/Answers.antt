use Rattle.std.proofs.Common.{◌≡◌, set, ◌∙◌, ap}
use Rattle.std.proofs.lemmas.List.{get_or_default}
use Rattle.dep_log.specs.AccessLogs.{Entry}
use Rattle.dep_log.specs.Buckets.{no_entry, entry_at}
use Rattle.dep_log.proofs.MoreReads.{with_read-own}
use Rattle.dep_log.proofs.buckets.end_at.Goals as goal

pub returns-clause-items : goal.returns-clause-items
returns-clause-items c =
    let entries = c.args.entries.now.items in
    let found = c.requires.place in
    let is : c.index_mut.result.now ≡ entry_at entries c.args.place = c.index_mut.ensures.value ∙ get_or_default entries c.args.place c.index_mut.result.now no_entry found.0 in
    ap (λ (e : Entry). set entries c.args.place (record e { last = c.args.step })) is ∙
    with_read-own entries c.requires.once c.args.word c.args.source c.args.step c.args.place found.0 found.1
