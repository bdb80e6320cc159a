use Rattle.std.proofs.Common.{ℕ, ◌%◌, sym, ap, ◌∙◌, arith}
use Rattle.recorder.specs.Gathered.{thread_of_hand}
use Rattle.recorder.proofs.Sharing.{shares-nil}
use Rattle.recorder.proofs.Dealing.{dealt-there, dealt-more}
use Rattle.recorder.proofs.workers.dealt.Goals as goal

pub loop-hand-init : goal.loop-hand-init
loop-hand-init c = c.in_ok-groups.ensures ∙ sym (shares-nil thread_of_hand c.args.workers)

pub index_mut-requires : goal.index_mut-requires
index_mut-requires c =
    let own = c.worker_of.ensures ∙ ap (λ (t : ℕ). t % c.args.workers) c.thread.ensures in
    let there = dealt-there c.args.workers c.requires c.loop-hand.groups.items c.loop-hand.yielded c.loop-hand.invariant c.in-Some.hand c.worker_of.result own in
    omega (arith, there)

pub loop-hand-preserved : goal.loop-hand-preserved
loop-hand-preserved c =
    let own = c.worker_of.ensures ∙ ap (λ (t : ℕ). t % c.args.workers) c.thread.ensures in
    dealt-more c.args.workers c.requires c.loop-hand.groups.items c.loop-hand.yielded c.loop-hand.invariant c.in-Some.hand c.worker_of.result own c.index_mut.result.now c.push.new.self c.index_mut.ensures.value c.in_ok-push.ensures.items
