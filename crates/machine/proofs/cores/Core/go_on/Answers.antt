use Rattle.std.proofs.Common.{Option, Some, sym, ◌∙◌, ap, subst, arith}
use Rattle.machine.specs.declared.cores.Expected.{Expected}
use Rattle.machine.specs.Cores.{State, HasRest}
use Rattle.machine.specs.contracts.cores.Core.{the_view}
use Rattle.machine.proofs.cores.Core.go_on.Goals as goal

pub invariant_of-self : goal.invariant_of-self
invariant_of-self c =
    let s = the_view c.self.inside in
    let state = c.self.invariant in
    let P : Option Expected → Type 0 = λ e. HasRest e s in
    let half = ap (λ (n : State). n.expected) c.self.view_is ∙ c.requires in
    let rest : HasRest (Some c.args.expected) s = subst P half state.rest in
    let Q : Option Expected → Type 0 = λ e. HasRest e (record s { pending = Some c.second_wanted-wanted.result }) in
    let steps = ap (λ (n : State). n.steps) c.self.view_is in
    record {
      thread = state.thread;
      registers = state.registers;
      place = state.place;
      output = state.output;
      steps = state.steps;
      instr = state.instr;
      taken = state.taken;
      room = λ lives. (let left = c.second_wanted-wanted.ensures.room lives in (omega (arith, steps, left), rest.0, rest.1, rest.2, rest.3));
      rest = subst Q (sym half) rest;
    }
