use Rattle.std.proofs.Common.{◌+◌, [], ◌∙◌}
use Rattle.std.specs.Prelude.{slice_index_or}
use Rattle.std.proofs.lemmas.Option.{slice_get-get_or}
use Rattle.machine.specs.Cores.{first_state, halt}
use Rattle.machine.specs.Turns.{bounds_of, moved}
use Rattle.machine.proofs.Computing.{goes_along, keeps_along}
use Rattle.machine.proofs.courses.Course.go_along.Goals as goal

pub loop-instr-preserved : goal.loop-instr-preserved
loop-instr-preserved c =
    let self = c.args.self.now in
    let code = self.code.now in
    let place = c.loop-instr.place in
    let instr = c.loop-instr.instr in
    let i = slice_index_or code place halt in
    let at = slice_get-get_or code place halt c.if-place-self.true in
    record {
      same = λ s output taken. c.loop-instr.invariant.same s output taken ∙
          goes_along code self.words (bounds_of self) self.inputs.now self.full (moved s c.loop-instr.registers place output self.steps instr taken) (moved s c.compute.new.registers c.in-Next.next output self.steps (instr + 1) taken)
          i at c.in-Next.ensures.0 c.loop-instr-test.true (c.in-Next.ensures.1 s self.inputs.now output self.steps instr taken);
      state = keeps_along code (bounds_of self) c.loop-instr.registers place instr c.compute.new.registers c.in-Next.next i c.requires.code c.requires.bounds at c.in-Next.ensures.0 c.loop-instr-test.true
          (c.in-Next.ensures.1 (first_state 0) [] [] 0 instr 0) c.loop-instr.invariant.state;
    }
