use Rattle.std.proofs.Common.{◌≡◌, List, ◌++◌, map, sym, ◌∙◌, ap}
use Rattle.std.specs.Prelude.{All}
use Rattle.std.specs.List.{flat_map, range_with_len}
use Rattle.replay_model.specs.declared.Entry.{Entry}
use Rattle.replay_model.specs.Logs.{ThreadLog, thread_of}
use Rattle.constraints.specs.declared.placed.Placed.{Placed}
use Rattle.constraints.specs.Building.{HasEvents, placed_in}
use Rattle.constraints.proofs.Naming.{item_thread, of_thread_entries, flat_map_range_more}
use Rattle.audit.proofs.positions.place_entries.Goals as goal

pub place_thread-requires-clause-listed : goal.place_thread-requires-clause-listed
place_thread-requires-clause-listed c =
    let (l, e) = item_thread c.args.log.now c.threads-thread-items.result.now c.loop-t.t c.thread-item.result c.threads-thread-items.ensures.value c.loop-t-test.true c.thread-item.is in
    of_thread_entries (All (HasEvents c.args.steps.now c.loop-t.t)) c.args.log.now c.loop-t.t c.thread-item.result c.entries.result.now e c.entries.ensures (c.requires.entries c.loop-t.t)

pub loop-t-preserved : goal.loop-t-preserved
loop-t-preserved c =
    let log = c.args.log.now in
    let steps = c.args.steps.now in
    let (l, e) = item_thread log c.threads-thread-items.result.now c.loop-t.t c.thread-item.result c.threads-thread-items.ensures.value c.loop-t-test.true c.thread-item.is in
    let s : c.entries.result.now ≡ (thread_of log c.loop-t.t).entries = c.entries.ensures ∙ ap (λ (y : ThreadLog). y.entries) e in
    c.in_ok-place_thread.ensures ∙ ap (λ (xs : List Placed). xs ++ map (placed_in steps c.loop-t.t) c.entries.result.now) c.loop-t.invariant ∙
    ap (λ (xs : List Entry). flat_map (λ t. map (placed_in steps t) (thread_of log t).entries) (range_with_len 0 c.loop-t.t) ++ map (placed_in steps c.loop-t.t) xs) s ∙
    sym (flat_map_range_more (λ t. map (placed_in steps t) (thread_of log t).entries) c.loop-t.t)
