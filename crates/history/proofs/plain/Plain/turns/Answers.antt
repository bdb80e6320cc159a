use Rattle.std.proofs.Common.{◌≡◌, ℕ, length, arith, ◌∙◌, ap}
use Rattle.replay_model.specs.Histories.{round_turns}
use Rattle.machine.proofs.Turning.{on_err}
use Rattle.history.specs.Played.{after_turns}
use Rattle.history.proofs.Turns.{rounds-none, rounds-more, rounds-stop, rounds-begun, rounds-over, rounds-opening}
use Rattle.history.proofs.plain.Plain.turns.Goals as goal

pub loop-round-init : goal.loop-round-init
loop-round-init c = rounds-none c.args.self.now

pub loop-round-preserved : goal.loop-round-preserved
loop-round-preserved c = rounds-more c.args.self.now c.loop-round.self c.round.new.self c.loop-round._round c.loop-round.invariant c.in_ok-round.ensures.ok

pub returns-in_err-round-clause-err : goal.returns-in_err-round-clause-err
returns-in_err-round-clause-err c =
    on_err _ (rounds-begun c.args.self.now c.loop-round.self c.round.new.self c.loop-round._round (omega (arith, c.loop-round-test.true, c.loop-round.auto._round-end, c.most_steps-round-end.ensures))
    c.loop-round.invariant c.in_err-round.ensures.err)

pub returns-then-not-branch-clause-ok : goal.returns-then-not-branch-clause-ok
returns-then-not-branch-clause-ok c =
    rounds-stop c.args.self.now c.loop-round.self c.round.new.self c.loop-round._round (omega (arith, c.loop-round-test.true, c.loop-round.auto._round-end, c.most_steps-round-end.ensures))
    c.loop-round.invariant c.in_ok-round.ensures.ok (c.in_ok-round.ensures.idle c.if-not-branch.true)

pub returns-then-not-branch-clause-over : goal.returns-then-not-branch-clause-over
returns-then-not-branch-clause-over c = rounds-over c.args.self.now c.round.new.self
    (rounds-stop c.args.self.now c.loop-round.self c.round.new.self c.loop-round._round (omega (arith, c.loop-round-test.true, c.loop-round.auto._round-end, c.most_steps-round-end.ensures))
    c.loop-round.invariant c.in_ok-round.ensures.ok (c.in_ok-round.ensures.idle c.if-not-branch.true))

pub returns-then-not-branch-clause-rounds : goal.returns-then-not-branch-clause-rounds
returns-then-not-branch-clause-rounds c = rounds-opening c.args.self.now c.round.new.self
    (rounds-stop c.args.self.now c.loop-round.self c.round.new.self c.loop-round._round (omega (arith, c.loop-round-test.true, c.loop-round.auto._round-end, c.most_steps-round-end.ensures))
    c.loop-round.invariant c.in_ok-round.ensures.ok (c.in_ok-round.ensures.idle c.if-not-branch.true))

pub returns-clause-over : goal.returns-clause-over
returns-clause-over c =
    let n : c.loop-round._round ≡ c.args.self.now.limits.steps = omega (arith, c.loop-round-test.false, c.loop-round.auto._round-end, c.most_steps-round-end.ensures) in
    rounds-over c.args.self.now c.loop-round.self (c.loop-round.invariant ∙ ap (λ (k : ℕ). after_turns c.args.self.now (round_turns (length c.args.self.now.program.threads) k)) n)

pub returns-clause-rounds : goal.returns-clause-rounds
returns-clause-rounds c =
    let n : c.loop-round._round ≡ c.args.self.now.limits.steps = omega (arith, c.loop-round-test.false, c.loop-round.auto._round-end, c.most_steps-round-end.ensures) in
    rounds-opening c.args.self.now c.loop-round.self (c.loop-round.invariant ∙ ap (λ (k : ℕ). after_turns c.args.self.now (round_turns (length c.args.self.now.program.threads) k)) n)
