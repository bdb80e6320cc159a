use Rattle.std.proofs.Common.{◌≡◌}
use Rattle.std.specs.List.{range_with_len}
use Rattle.recorder.specs.ThreadLogs.{entry_lists, entries_by}
use Rattle.recorder.proofs.entries.all_entries.Given as goal

abbrev pub invariant-loop-thread : goal.invariant-loop-thread
invariant-loop-thread l = entry_lists l.all.items ≡ entries_by l.plain (range_with_len 0 l.thread)
