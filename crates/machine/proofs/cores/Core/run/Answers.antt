use Rattle.std.proofs.Common.{Option, List, ℕ, ◌≡◌, ◌<◌, ◌≤◌, Some, Bor, length, refl, sym, ◌∙◌, ap, subst, arith}
use Rattle.replay_model.specs.declared.Want.{Want}
use Rattle.machine.specs.declared.program.Instr.{Instr}
use Rattle.machine.specs.Cores.{State, IsState, run_of}
use Rattle.machine.proofs.Going.{under_way}
use Rattle.machine.specs.Turns.{bounds_of, IsAtMemory, IsCourse}
use Rattle.machine.specs.contracts.cores.Core.{the_view}
use Rattle.machine.proofs.Keeps.{instr_at, names_registers, run_on-is_state}
use Rattle.machine.proofs.Turning.{ok_there, err_there}
use Rattle.machine.proofs.Walking.{holds_there, walks_to, walked, stops, stopped, same_code}
use Rattle.machine.proofs.cores.Core.run.Goals as goal

pub returns-in_default-clause-ok : goal.returns-in_default-clause-ok
returns-in_default-clause-ok c =
    let s = the_view c.self.inside in
    let way = c.go_along-way.result in
    let course = c.course-course.result in
    let is : IsCourse c.args.program.now c.args.limits.now c.args.inputs.now c.args.full s course =
    subst (λ (x : State). IsCourse c.args.program.now c.args.limits.now c.args.inputs.now c.args.full x course) (sym c.self.view_is) c.course-course.ensures in (
      (ok_there _ _ (sym c.if-is_err.ensures.value) c.run_on.ensures.ok).0 ∙
          sym (walked c.args.program.now c.args.limits.now c.args.inputs.now c.args.full course c.go_along-way.new.registers way.place way.instr s c.args.self.now c.self.view_is is c.go_along-way.ensures.same),
      c.wanted.ensures,
    )

pub returns-then-is_err-clause-err : goal.returns-then-is_err-clause-err
returns-then-is_err-clause-err c =
    let s = the_view c.self.inside in
    let way = c.go_along-way.result in
    let course = c.course-course.result in
    let is : IsCourse c.args.program.now c.args.limits.now c.args.inputs.now c.args.full s course =
    subst (λ (x : State). IsCourse c.args.program.now c.args.limits.now c.args.inputs.now c.args.full x course) (sym c.self.view_is) c.course-course.ensures in
    let there : State = record s { registers = c.go_along-way.new.registers; place = way.place; instr = way.instr } in
    let stays : c.run_on.new.self ≡ there = err_there _ _ (sym c.if-is_err.ensures.value) c.run_on.ensures.err in
    let rest : c.args.self.now ≡ record c.run_on.new.self { registers = c.args.self.now.registers; place = c.args.self.now.place; instr = c.args.self.now.instr } =
    subst (λ (n : State). c.args.self.now ≡ record n { registers = c.args.self.now.registers; place = c.args.self.now.place; instr = c.args.self.now.instr }) (sym stays)
    (subst (λ (n : State). n ≡ record there { registers = n.registers; place = n.place; instr = n.instr }) c.self.view_is refl) in
    under_way c.args.program.now c.args.limits.now c.args.inputs.now c.args.full c.args.self.now c.run_on.new.self c.requires.none c.requires.fresh rest
    (walked c.args.program.now c.args.limits.now c.args.inputs.now c.args.full course c.go_along-way.new.registers way.place way.instr s c.args.self.now c.self.view_is is c.go_along-way.ensures.same ∙
    ap (λ (n : State). run_of c.args.program.now c.args.limits.now c.args.inputs.now c.args.full n) (sym stays))

pub returns-then-is_err-clause-memory : goal.returns-then-is_err-clause-memory
returns-then-is_err-clause-memory c =
    let s = the_view c.self.inside in
    let way = c.go_along-way.result in
    let course = c.course-course.result in
    let is : IsCourse c.args.program.now c.args.limits.now c.args.inputs.now c.args.full s course =
    subst (λ (x : State). IsCourse c.args.program.now c.args.limits.now c.args.inputs.now c.args.full x course) (sym c.self.view_is) c.course-course.ensures in
    let w = ap (λ (n : State). length n.output)
    (walked c.args.program.now c.args.limits.now c.args.inputs.now c.args.full course c.go_along-way.new.registers way.place way.instr s c.args.self.now c.self.view_is is c.go_along-way.ensures.same) in
    let o = ap (λ (n : State). length n.output) c.self.view_is in
    let m = err_there _ _ (sym c.if-is_err.ensures.value) c.run_on.ensures.memory in
    omega (arith, w, o, m)

pub memory_step-requires-clause-fields : goal.memory_step-requires-clause-fields
memory_step-requires-clause-fields c =
    let m = holds_there c.go_along-way.result.memory (λ (i : Bor Instr). IsAtMemory c.course-course.result c.go_along-way.result i.now)
    c.in-Some.i c.in-Some.is c.go_along-way.ensures.memory in
    let code = c.course-course.result.code.now in
    names_registers (length code) c.in-Some.i.now (instr_at code c.go_along-way.result.place c.in-Some.i.now c.course-course.ensures.rules m.0)

pub invariant_of-self-3 : goal.invariant_of-self-3
invariant_of-self-3 c =
    let m = holds_there c.go_along-way.result.memory (λ (i : Bor Instr). IsAtMemory c.course-course.result c.go_along-way.result i.now)
    c.in-Some.i c.in-Some.is c.go_along-way.ensures.memory in
    let s = the_view c.self.inside in
    let way = c.go_along-way.result in
    let none = ap (λ (n : State). n.pending) c.self.view_is ∙ c.requires.none in
    let fresh = ap (λ (n : State). n.expected) c.self.view_is ∙ c.requires.fresh in
    let there : State = record s { registers = c.go_along-way.new.registers; place = way.place; instr = way.instr } in
    let course = c.course-course-2.result in
    let is : IsCourse c.args.program.now c.args.limits.now c.args.inputs.now c.args.full there course = c.course-course-2.ensures in
    let at = same_code c.args.program.now c.args.limits.now c.args.inputs.now c.args.full c.args.self.now there c.course-course.result course c.course-course.ensures is (ap (λ (n : State). n.thread) (sym c.self.view_is)) way.place (Some c.in-Some.i.now) m.0 in
    let short = subst (λ (l : List ℕ). length l ≤ 65536) (sym is.inputs) c.requires.inputs in
    let room : way.instr < course.most_instr = (let x = m.2 in let a = c.course-course.ensures.most_instr in let b = is.most_instr in omega (arith, x, a, b)) in
    let comes = c.memory_step.ensures.value s way.place way.instr s.taken s.output room in
    subst (λ (o : Option Want). IsState (record there { doing = c.in-Some.i.now; pending = o })) (sym c.memory_step.ensures.pending)
    (subst IsState (stops c.args.program.now c.args.limits.now c.args.inputs.now c.args.full there course is c.in-Some.i.now c.memory_step.result at comes)
    (run_on-is_state course.code.now course.words (bounds_of course) course.inputs.now course.full there is.rules is.bounds short none fresh (walks_to s c.go_along-way.new.registers way.place way.instr none fresh c.self.invariant c.go_along-way.ensures.state)))

pub returns-clause-ok : goal.returns-clause-ok
returns-clause-ok c =
    let m = holds_there c.go_along-way.result.memory (λ (i : Bor Instr). IsAtMemory c.course-course.result c.go_along-way.result i.now)
    c.in-Some.i c.in-Some.is c.go_along-way.ensures.memory in
    let s = the_view c.self.inside in
    let way = c.go_along-way.result in
    let there : State = record s { registers = c.go_along-way.new.registers; place = way.place; instr = way.instr } in
    let course = c.course-course-2.result in
    let is : IsCourse c.args.program.now c.args.limits.now c.args.inputs.now c.args.full there course = c.course-course-2.ensures in
    let at = same_code c.args.program.now c.args.limits.now c.args.inputs.now c.args.full c.args.self.now there c.course-course.result course c.course-course.ensures is (ap (λ (n : State). n.thread) (sym c.self.view_is)) way.place (Some c.in-Some.i.now) m.0 in
    let first : IsCourse c.args.program.now c.args.limits.now c.args.inputs.now c.args.full s c.course-course.result =
    subst (λ (x : State). IsCourse c.args.program.now c.args.limits.now c.args.inputs.now c.args.full x c.course-course.result) (sym c.self.view_is) c.course-course.ensures in
    let room : way.instr < course.most_instr = (let x = m.2 in let a = c.course-course.ensures.most_instr in let b = is.most_instr in omega (arith, x, a, b)) in
    let comes = c.memory_step.ensures.value s way.place way.instr s.taken s.output room in (
      ap (λ (o : Option Want). record there { doing = c.in-Some.i.now; pending = o }) c.memory_step.ensures.pending ∙
          sym (walked c.args.program.now c.args.limits.now c.args.inputs.now c.args.full c.course-course.result c.go_along-way.new.registers way.place way.instr s c.args.self.now c.self.view_is first c.go_along-way.ensures.same ∙
          stopped c.args.program.now c.args.limits.now c.args.inputs.now c.args.full there course is c.in-Some.i.now c.memory_step.result at comes),
      c.memory_step.ensures.pending,
    )
