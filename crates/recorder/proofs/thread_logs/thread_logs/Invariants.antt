use Rattle.std.proofs.Common.{◌≡◌, ◌+◌, ◌++◌, length, drop}
use Rattle.recorder.specs.ThreadLogs.{entry_lists, logs_by}
use Rattle.recorder.proofs.thread_logs.thread_logs.Given as goal

abbrev pub invariant-loop-thread : goal.invariant-loop-thread
invariant-loop-thread l = record {
  rest : logs_by l.inputs 0 (entry_lists l.fn.all.items) l.reports ≡ l.logs.items ++ logs_by l.inputs l.thread-iterator.count (entry_lists l.thread-iterator.iter.rest.items) (drop l.thread-iterator.count l.reports);
  counted : l.thread-iterator.count + length l.thread-iterator.iter.rest.items ≡ length l.reports;
}
