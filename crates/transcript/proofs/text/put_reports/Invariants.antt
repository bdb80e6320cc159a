use Rattle.std.proofs.Common.{◌≡◌, ◌++◌, drop}
use Rattle.transcript.specs.Transcripts.{BeginsWith, thread_lines}
use Rattle.transcript.proofs.text.put_reports.Given as goal

abbrev pub invariant-loop-thread : goal.invariant-loop-thread
invariant-loop-thread l = record {
  line : l.initial.text.items ++ thread_lines 0 l.reports ≡ l.text.items ++ thread_lines l.thread (drop l.thread l.reports);
  begins : BeginsWith l.text.items l.initial.text.items;
}
