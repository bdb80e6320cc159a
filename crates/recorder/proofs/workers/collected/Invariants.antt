use Rattle.std.proofs.Common.{◌≡◌, ℕ, ◌++◌, All, map, reverse}
use Rattle.std.specs.List.{range_with_len}
use Rattle.machine.specs.Programs.{ProgramValue, LimitsValue}
use Rattle.machine.specs.Inputs.{InputsValue}
use Rattle.tagged_words.specs.Views.{SharedWords}
use Rattle.recorder.specs.Gathered.{IsDone, thread_in}
use Rattle.recorder.specs.Grouped.{AreDone, shares, threads_in}
use Rattle.recorder.proofs.workers.collected.Given as goal

abbrev pub invariant-loop-thread : goal.invariant-loop-thread
invariant-loop-thread l = record {
  shared : map threads_in l.groups.items ≡ shares (λ (t : ℕ). t) l.workers (range_with_len 0 l.thread);
  order : range_with_len 0 l.thread ++ reverse (map thread_in l.all.items) ≡ range_with_len 0 l.threads;
  each : (words : SharedWords) (p : ProgramValue) (limits : LimitsValue) (inputs : InputsValue) → All (AreDone words p limits inputs) l.fn.groups.items →
      All (AreDone words p limits inputs) l.groups.items × All (IsDone words p limits inputs) l.all.items;
}
