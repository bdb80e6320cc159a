use Rattle.std.proofs.Common.{length, refl, ◌∙◌, ap, arith}
use Rattle.std.specs.Prelude.{None, slice_index_or}
use Rattle.std.proofs.lemmas.Option.{slice_get-get_or, slice_get_past}
use Rattle.std.proofs.Math.Seq.{take-length}
use Rattle.replay_model.specs.declared.Want.TheVariants as want
use Rattle.replay_model.specs.declared.End.TheVariants as end
use Rattle.machine.specs.Cores.{State, first_state, halt}
use Rattle.machine.specs.Turns.{bounds_of, moved}
use Rattle.machine.proofs.Keeps.{instr_at, names_registers}
use Rattle.machine.proofs.Local.{run_on-stop}
use Rattle.machine.proofs.Turning.{next-room, next-goes, stop-rests, out-grows, begins-long, begins-on, on_err}
use Rattle.machine.proofs.courses.Course.run.Goals as goal

pub turn-requires-clause-fields : goal.turn-requires-clause-fields
turn-requires-clause-fields c =
    let code = c.args.self.now.code.now in
    let i = slice_index_or code c.loop-place.place halt in
    names_registers (length code) i (instr_at code c.loop-place.place i c.requires.code (slice_get-get_or code c.loop-place.place halt c.loop-place-test.true))

pub loop-place-init : goal.loop-place-init
loop-place-init c = record { same = λ s. refl; kept = take-length c.args.output.now.items }

pub returns-in_err-next-clause-err : goal.returns-in_err-next-clause-err
returns-in_err-next-clause-err c =
    let self = c.args.self.now in
    let at = slice_get-get_or self.code.now c.loop-place.place halt c.loop-place-test.true in
    let long = begins-long c.args.output.now.items c.loop-place.output.items c.loop-place.invariant.kept in
    on_err c.from_residual.result (λ s.
    let grows = out-grows self.code.now self.words (bounds_of self) self.inputs.now self.full _ (moved s c.loop-place.registers c.loop-place.place c.loop-place.output.items self.steps c.loop-place.instr c.loop-place.taken) at (c.in_err-next.ensures.err s) c.in_err-next.ensures.puts in
    let same = ap (λ (n : State). length n.output) (c.loop-place.invariant.same s) in
    omega arith)

pub returns-in_err-next-clause-kept : goal.returns-in_err-next-clause-kept
returns-in_err-next-clause-kept c = begins-on _ _ _ c.loop-place.invariant.kept c.turn.ensures.kept

pub overflow_add-instr : goal.overflow_add-instr
overflow_add-instr c =
    let self = c.args.self.now in
    let i = slice_index_or self.code.now c.loop-place.place halt in
    let old = moved (first_state 0) c.loop-place.registers c.loop-place.place c.loop-place.output.items self.steps c.loop-place.instr c.loop-place.taken in
    let room = next-room self.words (bounds_of self) self.inputs.now self.full i old c.in_ok-next.field-0 c.in-Next.next c.turn.new.registers c.turn.new.output.items c.turn.new.taken c.in-Next.is (c.in_ok-next.ensures.ok (first_state 0)) in
    omega arith

pub loop-place-smaller : goal.loop-place-smaller
loop-place-smaller c =
    let self = c.args.self.now in
    let i = slice_index_or self.code.now c.loop-place.place halt in
    let old = moved (first_state 0) c.loop-place.registers c.loop-place.place c.loop-place.output.items self.steps c.loop-place.instr c.loop-place.taken in
    let room = next-room self.words (bounds_of self) self.inputs.now self.full i old c.in_ok-next.field-0 c.in-Next.next c.turn.new.registers c.turn.new.output.items c.turn.new.taken c.in-Next.is (c.in_ok-next.ensures.ok (first_state 0)) in
    omega arith

pub loop-place-preserved : goal.loop-place-preserved
loop-place-preserved c =
    let self = c.args.self.now in
    let i = slice_index_or self.code.now c.loop-place.place halt in
    let at = slice_get-get_or self.code.now c.loop-place.place halt c.loop-place-test.true in
    record {
      same = λ s. c.loop-place.invariant.same s ∙
          next-goes self.code.now self.words (bounds_of self) self.inputs.now self.full i (moved s c.loop-place.registers c.loop-place.place c.loop-place.output.items self.steps c.loop-place.instr c.loop-place.taken)
          c.in_ok-next.field-0 c.in-Next.next c.turn.new.registers c.turn.new.output.items c.turn.new.taken at c.in-Next.is (c.in_ok-next.ensures.ok s);
      kept = begins-on _ _ _ c.loop-place.invariant.kept c.turn.ensures.kept;
    }

pub returns-in-Stop-clause-ok : goal.returns-in-Stop-clause-ok
returns-in-Stop-clause-ok c = λ s.
    let self = c.args.self.now in
    let i = slice_index_or self.code.now c.loop-place.place halt in
    let at = slice_get-get_or self.code.now c.loop-place.place halt c.loop-place-test.true in
    c.loop-place.invariant.same s ∙
    stop-rests self.code.now self.words (bounds_of self) self.inputs.now self.full i (moved s c.loop-place.registers c.loop-place.place c.loop-place.output.items self.steps c.loop-place.instr c.loop-place.taken)
    c.in_ok-next.field-0 c.in-Stop.wanted c.turn.new.registers c.turn.new.output.items c.turn.new.taken at c.in-Stop.is (c.in_ok-next.ensures.ok s)

pub returns-in-Stop-clause-kept : goal.returns-in-Stop-clause-kept
returns-in-Stop-clause-kept c = begins-on _ _ _ c.loop-place.invariant.kept c.turn.ensures.kept

pub returns-clause-ok : goal.returns-clause-ok
returns-clause-ok c = λ s.
    let self = c.args.self.now in
    c.loop-place.invariant.same s ∙
    run_on-stop self.code.now self.words (bounds_of self) self.inputs.now self.full _ None (want.Ended end.Halted)
    (slice_get_past self.code.now c.loop-place.place c.loop-place-test.false) refl

pub returns-clause-kept : goal.returns-clause-kept
returns-clause-kept c = c.loop-place.invariant.kept
