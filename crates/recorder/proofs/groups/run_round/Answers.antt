use Rattle.std.proofs.Common.{◌≡◌, ℕ, ◌+◌, ◌-◌, ◌<◌, length, subst, arith}
use Rattle.recorder.proofs.Rounds.{IsInRound, round-left, round-on}
use Rattle.recorder.proofs.groups.run_round.Goals as goal

pub loop-k-preserved-then-left : goal.loop-k-preserved-then-left
loop-k-preserved-then-left g c =
    let old = c.args.runners.now.items in
    let now = c.loop-k.runners.items in
    let number : c.loop-k.k ≡ (c.loop-k.k - 1) + 1 = omega (arith, c.loop-k-test.true) in
    let is : IsInRound c.args.slice old now ((c.loop-k.k - 1) + 1) c.loop-k.left = subst (λ (n : ℕ). IsInRound c.args.slice old now n c.loop-k.left) number c.loop-k.invariant in
    let there : c.loop-k.k - 1 < length now = (let count = c.loop-k.invariant.same.count in let most = c.loop-k.auto.k in omega (arith, number, count, most, c.len-k.ensures)) in
    round-left c.args.slice old now (c.loop-k.k - 1) c.loop-k.left is there c.index_mut.result.now c.run.new.self c.index_mut.ensures.value c.run.ensures.same c.in_ok-goes_on.goes_on c.requires c.in_ok-goes_on.ensures.ok c.if-left.true

pub loop-k-preserved : goal.loop-k-preserved
loop-k-preserved g c =
    let old = c.args.runners.now.items in
    let now = c.loop-k.runners.items in
    let number : c.loop-k.k ≡ (c.loop-k.k - 1) + 1 = omega (arith, c.loop-k-test.true) in
    let is : IsInRound c.args.slice old now ((c.loop-k.k - 1) + 1) c.loop-k.left = subst (λ (n : ℕ). IsInRound c.args.slice old now n c.loop-k.left) number c.loop-k.invariant in
    let there : c.loop-k.k - 1 < length now = (let count = c.loop-k.invariant.same.count in let most = c.loop-k.auto.k in omega (arith, number, count, most, c.len-k.ensures)) in
    round-on c.args.slice old now (c.loop-k.k - 1) c.loop-k.left is there c.index_mut.result.now c.run.new.self c.index_mut.ensures.value c.run.ensures.same c.in_ok-goes_on.goes_on c.requires c.in_ok-goes_on.ensures.ok c.if-left.false
