use Rattle.std.proofs.Common.{List, ℕ, ◌≤◌, length, refl, sym, ◌∙◌, ap, subst, arith}
use Rattle.machine.specs.Cores.{State, IsState, run_of, run_on}
use Rattle.machine.specs.Turns.{bounds_of, rested, IsCourse}
use Rattle.machine.specs.contracts.cores.Core.{the_view}
use Rattle.machine.proofs.Keeps.{run_on-is_state}
use Rattle.machine.proofs.Walking.{course_runs, settles}
use Rattle.machine.proofs.cores.Core.run_on.Goals as goal

pub invariant_of-self : goal.invariant_of-self
invariant_of-self c =
    let s = the_view c.self.inside in
    let course = c.course-course.result in
    let is : IsCourse c.args.program.now c.args.limits.now c.args.inputs.now c.args.full s course =
    subst (λ (x : State). IsCourse c.args.program.now c.args.limits.now c.args.inputs.now c.args.full x course) (sym c.self.view_is) c.course-course.ensures in
    let none = ap (λ (n : State). n.pending) c.self.view_is ∙ c.requires.none in
    let fresh = ap (λ (n : State). n.expected) c.self.view_is ∙ c.requires.fresh in
    let short = subst (λ (l : List ℕ). length l ≤ 65536) (sym is.inputs) c.requires.inputs in
    subst IsState (settles c.args.program.now c.args.limits.now c.args.inputs.now c.args.full s course is (λ n. rested s c.run.new.registers c.run.new.output.items n c.in-Ok.rest) (c.in-Ok.ensures.ok s))
    (run_on-is_state course.code.now course.words (bounds_of course) course.inputs.now course.full s is.rules is.bounds short none fresh c.self.invariant)

pub returns-in-Ok-clause-ok : goal.returns-in-Ok-clause-ok
returns-in-Ok-clause-ok c =
    let s = the_view c.self.inside in
    let course = c.course-course.result in
    let is : IsCourse c.args.program.now c.args.limits.now c.args.inputs.now c.args.full s course =
    subst (λ (x : State). IsCourse c.args.program.now c.args.limits.now c.args.inputs.now c.args.full x course) (sym c.self.view_is) c.course-course.ensures in (
      sym (settles c.args.program.now c.args.limits.now c.args.inputs.now c.args.full s course is (λ n. rested s c.run.new.registers c.run.new.output.items n c.in-Ok.rest) (c.in-Ok.ensures.ok s)) ∙
          course_runs c.args.program.now c.args.limits.now c.args.inputs.now c.args.full s course is s ∙
          ap (λ (n : State). run_of c.args.program.now c.args.limits.now c.args.inputs.now c.args.full n) c.self.view_is,
      refl,
    )

pub returns-in-Err-clause-memory : goal.returns-in-Err-clause-memory
returns-in-Err-clause-memory c =
    let s = the_view c.self.inside in
    let course = c.course-course.result in
    let is : IsCourse c.args.program.now c.args.limits.now c.args.inputs.now c.args.full s course =
    subst (λ (x : State). IsCourse c.args.program.now c.args.limits.now c.args.inputs.now c.args.full x course) (sym c.self.view_is) c.course-course.ensures in
    let e = ap (λ (n : ℕ). length (run_on course.code.now course.words (bounds_of course) course.inputs.now course.full (record s { steps = n })).output) is.steps in
    let f = ap (λ (n : State). length n.output) (course_runs c.args.program.now c.args.limits.now c.args.inputs.now c.args.full s course is s) in
    let h = ap (λ (n : State). length (run_of c.args.program.now c.args.limits.now c.args.inputs.now c.args.full n).output) c.self.view_is in
    let b = ap (λ (n : State). length n.output) c.self.view_is in
    let d = c.in-Err.ensures.err s in
    omega (arith, e, f, h, b, d)
