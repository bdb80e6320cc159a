use Rattle.std.proofs.Common.{◌≡◌, ℕ, List, [], ◌∷◌, ◌++◌, sym, ap, arith, ◌∙◌}
use Rattle.std.proofs.lemmas.List.{map-append}
use Rattle.std.proofs.lemmas.List.FromFn.{map-range_with_len_more}
use Rattle.std.specs.List.{range_with_len}
use Rattle.std.specs.Global.{Vec}
use Rattle.replay_model.specs.declared.Entry.{Entry}
use Rattle.replay_model.specs.ThreadLogs.{thread_log}
use Rattle.history.specs.Played.{thread_steps}
use Rattle.recorder.specs.ThreadLogs.{entry_lists, entries_by}
use Rattle.recorder.proofs.entries.all_entries.Goals as goal

pub loop-thread-preserved : goal.loop-thread-preserved
loop-thread-preserved c =
    let t : ℕ = c.loop-thread.thread in
    let entries = c.in_ok-from_slice.field-0 in
    let of_thread = λ (t : ℕ). thread_log (thread_steps c.args.plain.now t) in
    let new : entries.items ≡ of_thread t = c.in_ok-from_slice.ensures.items ∙ c.entries.ensures in
    ap entry_lists c.in_ok-push.ensures.items ∙ map-append (λ (entries : Vec Entry). entries.items) c.loop-thread.all.items (entries ∷ []) ∙
    ap (λ (all : List (List Entry)). all ++ entries.items ∷ []) c.loop-thread.invariant ∙
    ap (λ (items : List Entry). entries_by c.args.plain.now (range_with_len 0 t) ++ items ∷ []) new ∙ sym (map-range_with_len_more of_thread 0 t t (omega arith))
