use Rattle.std.proofs.Common.{ℕ, [], refl, ap, ◌∙◌, subst}
use Rattle.std.specs.Prelude.{None}
use Rattle.machine.specs.Cores.{State, first_state}
use Rattle.running_thread.specs.Threads.{IsThread}
use Rattle.recorder.specs.Running.{runner_of}
use Rattle.recorder.proofs.Runners.{new-running}
use Rattle.recorder.proofs.runner.Runner.new.Goals as goal

pub invariant_of-result : goal.invariant_of-result
invariant_of-result c =
    let P : ℕ → Type 0 = λ t. IsThread c.args.program.now c.args.limits.now c.args.inputs.now t [] c.in-Ok.thread in
    new-running c.args.program.now c.args.limits.now c.args.inputs.now c.in-Ok.thread (record { words = c.args.words; hand = c.args.hand; loaded = None }) c.in-Ok-from_slice.taken.items c.requires.fresh refl
    c.requires.words (subst P c.thread.ensures c.in-Ok.ensures.is) c.in-Ok-from_slice.ensures.items

pub returns-clause-ok : goal.returns-clause-ok
returns-clause-ok c =
    ap (λ (core : State). runner_of c.args.program.now c.args.limits.now c.args.inputs.now core c.args.hand) (c.in-Ok.ensures.core ∙ ap first_state c.thread.ensures)
