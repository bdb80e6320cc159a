use Rattle.std.proofs.Common.{◌≡◌, ◌+◌, ◌≤◌, ◌++◌, All, map, reverse, vec_len, vec_capacity}
use Rattle.machine.specs.Programs.{ProgramValue, LimitsValue}
use Rattle.machine.specs.Inputs.{InputsValue}
use Rattle.tagged_words.specs.Views.{SharedWords}
use Rattle.recorder.specs.Gathered.{HasBegunIn}
use Rattle.recorder.specs.Grouped.{RunsIn, hand_of}
use Rattle.recorder.proofs.groups.hands_back.Given as goal

abbrev pub invariant-loop-runner : goal.invariant-loop-runner
invariant-loop-runner l = record {
  order : l.hands.items ++ reverse (map hand_of l.runners.items) ≡ l.fn.hands.items ++ reverse (map hand_of l.fn.runners.items);
  begun : (words : SharedWords) (p : ProgramValue) (limits : LimitsValue) (inputs : InputsValue) → All (RunsIn words p limits inputs) l.fn.runners.items → All (HasBegunIn p limits inputs) l.fn.hands.items →
      All (RunsIn words p limits inputs) l.runners.items × All (HasBegunIn p limits inputs) l.hands.items;
  room : vec_len l.hands + vec_len l.runners ≤ vec_capacity l.hands;
}

abbrev pub decreases-loop-runner : goal.decreases-loop-runner
decreases-loop-runner l = goal.left-loop-runner l
