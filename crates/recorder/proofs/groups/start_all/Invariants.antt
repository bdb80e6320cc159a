use Rattle.std.proofs.Common.{◌≡◌, ◌+◌, ◌≤◌, ◌++◌, All, map, reverse, vec_len, vec_capacity}
use Rattle.recorder.specs.Gathered.{IsReady}
use Rattle.recorder.specs.Grouped.{IsAtStart, RunsIn, hand_of}
use Rattle.recorder.proofs.groups.start_all.Given as goal

abbrev pub invariant-loop-hand : goal.invariant-loop-hand
invariant-loop-hand l = record {
  ready : All (IsReady l.words l.program) l.hands.items;
  each : All (RunsIn l.words l.program l.limits l.inputs) l.runners.items;
  starts : All (IsAtStart l.program l.limits l.inputs) l.runners.items;
  order : l.hands.items ++ reverse (map hand_of l.runners.items) ≡ l.fn.hands.items;
  room : vec_len l.hands + vec_len l.runners ≤ vec_capacity l.hands;
  space : vec_len l.hands + vec_len l.runners ≤ vec_capacity l.runners;
}

abbrev pub decreases-loop-hand : goal.decreases-loop-hand
decreases-loop-hand l = vec_len l.hands
