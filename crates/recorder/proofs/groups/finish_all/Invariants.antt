use Rattle.std.proofs.Common.{◌≡◌, ◌+◌, ◌≤◌, ◌++◌, All, map, reverse, vec_len, vec_capacity}
use Rattle.machine.specs.Programs.{ProgramValue, LimitsValue}
use Rattle.machine.specs.Inputs.{InputsValue}
use Rattle.tagged_words.specs.Views.{SharedWords}
use Rattle.recorder.specs.Running.{IsAtEnd}
use Rattle.recorder.specs.Gathered.{IsDone, hand_in}
use Rattle.recorder.specs.Grouped.{RunsIn, hand_of}
use Rattle.recorder.proofs.groups.finish_all.Given as goal

abbrev pub invariant-loop-runner : goal.invariant-loop-runner
invariant-loop-runner l = record {
  each : (words : SharedWords) (p : ProgramValue) (limits : LimitsValue) (inputs : InputsValue) → All (RunsIn words p limits inputs) l.fn.runners.items →
      All (RunsIn words p limits inputs) l.runners.items × All (IsDone words p limits inputs) l.all.items;
  ended : All IsAtEnd l.runners.items;
  order : map hand_in l.all.items ++ reverse (map hand_of l.runners.items) ≡ reverse (map hand_of l.fn.runners.items);
  room : vec_len l.all + vec_len l.runners ≤ vec_capacity l.all;
}

abbrev pub decreases-loop-runner : goal.decreases-loop-runner
decreases-loop-runner l = goal.left-loop-runner l
