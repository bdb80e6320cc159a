use Rattle.std.proofs.Common.{ℕ, List, ◌≡◌, ◌+◌, ◌≤◌, Bool, subst, arith, inl, inr, ◌⊎◌}
use Rattle.std.proofs.lemmas.Bool.{cases_lt}
use Rattle.replay_model.specs.Steps.{Step}
use Rattle.running_thread.specs.Threads.{HasRun, HasStopped}
use Rattle.recorder.specs.HandWords.{IsReady, TakesAt}
use Rattle.recorder.specs.Running.{Running, IsSame, runner_of}
use Rattle.recorder.specs.Grouped.{RanFor}
use Rattle.recorder.proofs.Runners.{of-hand, is-same, ran-for, none-is}
use Rattle.recorder.proofs.runner.Runner.run.Goals as goal

pub returns-in_err-end-clause-same : goal.returns-in_err-end-clause-same
returns-in_err-end-clause-same g c =
    let on = c.self.inside.on in
    let P : ℕ → List Step → Type 0 = λ t steps. HasStopped IsReady TakesAt on.program.now on.limits.now on.inputs.now t steps c.saturating_add-last.result c.self.inside.at c.run_to.new.words c.run_to.new.self in
    let Q : Running → Type 0 = λ r. IsSame r (runner_of on.program.now on.limits.now on.inputs.now c.run_to.new.self.core c.run_to.new.words.hand) in
    let stopped = of-hand on.program.now on.limits.now on.inputs.now c.self.inside.thread c.self.inside.at c.self.inside.taken.items c.self.invariant P c.in_err-end.ensures.err in
    subst Q c.self.view_is (is-same on.program.now on.limits.now on.inputs.now c.self.inside.thread c.self.inside.at c.self.inside.taken.items c.self.invariant stopped.added c.run_to.new.words c.run_to.new.self stopped.has)

pub returns-clause-same : goal.returns-clause-same
returns-clause-same g c =
    let on = c.self.inside.on in
    let P : ℕ → List Step → Type 0 = λ t steps. HasRun IsReady TakesAt on.program.now on.limits.now on.inputs.now t steps c.saturating_add-last.result c.self.inside.at c.in_ok-end.end c.run_to.new.words c.run_to.new.self in
    let Q : Running → Type 0 = λ r. IsSame r (runner_of on.program.now on.limits.now on.inputs.now c.run_to.new.self.core c.run_to.new.words.hand) in
    let run = of-hand on.program.now on.limits.now on.inputs.now c.self.inside.thread c.self.inside.at c.self.inside.taken.items c.self.invariant P c.in_ok-end.ensures.ok in
    subst Q c.self.view_is (is-same on.program.now on.limits.now on.inputs.now c.self.inside.thread c.self.inside.at c.self.inside.taken.items c.self.invariant run.added c.run_to.new.words c.run_to.new.self run.has)

pub returns-clause-ok : goal.returns-clause-ok
returns-clause-ok g c =
    let on = c.self.inside.on in
    let P : ℕ → List Step → Type 0 = λ t steps. HasRun IsReady TakesAt on.program.now on.limits.now on.inputs.now t steps c.saturating_add-last.result c.self.inside.at c.in_ok-end.end c.run_to.new.words c.run_to.new.self in
    let Q : Running → Type 0 = λ r. RanFor r c.is_none.result c.args.steps (runner_of on.program.now on.limits.now on.inputs.now c.run_to.new.self.core c.run_to.new.words.hand) in
    let R : Bool → Type 0 = λ b. RanFor (runner_of on.program.now on.limits.now on.inputs.now c.self.inside.thread.core c.self.inside.at.hand) b c.args.steps (runner_of on.program.now on.limits.now on.inputs.now c.run_to.new.self.core c.run_to.new.words.hand) in
    let run = of-hand on.program.now on.limits.now on.inputs.now c.self.inside.thread c.self.inside.at c.self.inside.taken.items c.self.invariant P c.in_ok-end.ensures.ok in
    let last : (c.saturating_add-last.result ≡ c.self.inside.thread.core.steps + c.args.steps) ⊎ (268435456 ≤ c.saturating_add-last.result) =
    elim (cases_lt (c.self.inside.thread.core.steps + c.args.steps) 4294967296) [ inl l ↦ inl (omega (arith, l, c.steps.ensures, c.saturating_add-last.ensures)) | inr l ↦ inr (omega (arith, l, c.steps.ensures, c.saturating_add-last.ensures)) ] in
    subst Q c.self.view_is (subst R (none-is c.in_ok-end.end c.is_none.result c.is_none.ensures) (ran-for on.program.now on.limits.now on.inputs.now c.self.inside.thread c.self.inside.at c.self.inside.taken.items c.self.invariant run.added c.run_to.new.words c.run_to.new.self run.has c.args.steps c.saturating_add-last.result c.in_ok-end.end c.requires last run.within run.ended))
