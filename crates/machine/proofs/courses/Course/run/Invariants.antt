use Rattle.std.proofs.Common.{◌≡◌, ◌-◌, length, take}
use Rattle.machine.specs.Cores.{State}
use Rattle.machine.specs.Turns.{moved, run_along}
use Rattle.machine.proofs.courses.Course.run.Given as goal

-- from here the run goes where it goes from its start, and the output begins as it was
abbrev pub invariant-loop-place : goal.invariant-loop-place
invariant-loop-place l = record {
  same : (s : State) → run_along l.self (moved s l.initial.registers l.initial.place l.initial.output.items l.self.steps l.initial.instr l.initial.taken) ≡
      run_along l.self (moved s l.registers l.place l.output.items l.self.steps l.instr l.taken);
  kept : take (length l.initial.output.items) l.output.items ≡ l.initial.output.items;
}

-- the instructions that the limit leaves
abbrev pub decreases-loop-place : goal.decreases-loop-place
decreases-loop-place l = l.self.most_instr - l.instr
