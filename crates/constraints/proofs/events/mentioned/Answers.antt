use Rattle.std.specs.Prelude.{All}
use Rattle.light_base.specs.Tags.{HasTag}
use Rattle.replay_model.specs.declared.Entry.{Entry}
use Rattle.replay_model.specs.Logs.{first_event, last_event}
use Rattle.constraints.proofs.Naming.{mention_more, firsts_tagged, last_reads_tagged, item_thread, of_thread_entries}
use Rattle.constraints.proofs.events.mentioned.Goals as goal

pub mention-requires-clause-first : goal.mention-requires-clause-first
mention-requires-clause-first c =
    let (l, e) = item_thread c.args.log.now c.threads-thread-items.result.now c.loop-t.t c.thread-item.result c.threads-thread-items.ensures.value c.loop-t-test.true c.thread-item.is in
    of_thread_entries (All (λ (entry : Entry). HasTag (first_event c.loop-t.t entry))) c.args.log.now c.loop-t.t c.thread-item.result c.entries.result.now e c.entries.ensures
    (firsts_tagged c.args.log.now c.threads-thread-items.ensures.rules c.loop-t.t l)

pub mention-requires-clause-last : goal.mention-requires-clause-last
mention-requires-clause-last c =
    let (l, e) = item_thread c.args.log.now c.threads-thread-items.result.now c.loop-t.t c.thread-item.result c.threads-thread-items.ensures.value c.loop-t-test.true c.thread-item.is in
    of_thread_entries (All (λ (entry : Entry). HasTag (last_event c.loop-t.t entry))) c.args.log.now c.loop-t.t c.thread-item.result c.entries.result.now e c.entries.ensures
    (last_reads_tagged c.args.log.now c.threads-thread-items.ensures.rules c.loop-t.t l)

pub loop-t-preserved : goal.loop-t-preserved
loop-t-preserved c =
    let (l, e) = item_thread c.args.log.now c.threads-thread-items.result.now c.loop-t.t c.thread-item.result c.threads-thread-items.ensures.value c.loop-t-test.true c.thread-item.is in
    mention_more c.args.log.now c.loop-t.t c.thread-item.result c.entries.result.now c.loop-t.tags.items c.mention.new.tags.items e c.entries.ensures c.loop-t.invariant c.in_ok-mention.ensures
