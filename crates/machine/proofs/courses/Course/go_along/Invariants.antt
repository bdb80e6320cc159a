use Rattle.std.proofs.Common.{◌≡◌, ◌-◌, ℕ, List, []}
use Rattle.machine.specs.Cores.{State, IsState, first_state}
use Rattle.machine.specs.Turns.{moved, run_along}
use Rattle.machine.proofs.courses.Course.go_along.Given as goal

-- from here the run goes where it goes from its start, and a state may stand here
abbrev pub invariant-loop-instr : goal.invariant-loop-instr
invariant-loop-instr l = record {
  same : (s : State) (output : List ℕ) (taken : ℕ) → run_along l.self (moved s l.initial.registers l.initial.place output l.self.steps l.initial.instr taken) ≡
      run_along l.self (moved s l.registers l.place output l.self.steps l.instr taken);
  state : IsState (moved (first_state 0) l.registers l.place [] 0 l.instr 0);
}

-- the instructions that the limit leaves
abbrev pub decreases-loop-instr : goal.decreases-loop-instr
decreases-loop-instr l = l.self.most_instr - l.instr
