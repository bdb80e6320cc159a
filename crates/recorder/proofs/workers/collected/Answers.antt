use Rattle.std.proofs.Common.{◌≡◌, ℕ, ◌+◌, ◌-◌, ◌++◌, map, reverse, arith, ap, ◌∙◌, sym}
use Rattle.std.specs.List.{range_with_len}
use Rattle.std.proofs.lemmas.List.Sorted.{All-permutation}
use Rattle.recorder.specs.Gathered.{IsDone, thread_in}
use Rattle.recorder.proofs.Dealing.{collected-there, collected-some, collected-shared, collected-order, collected-each, none-left}
use Rattle.recorder.proofs.Endings.{map-back}
use Rattle.recorder.proofs.workers.collected.Goals as goal

pub index_mut-requires : goal.index_mut-requires
index_mut-requires c =
    let number : c.loop-thread.thread ≡ (c.loop-thread.thread - 1) + 1 = omega (arith, c.loop-thread-test.true) in
    let there = collected-there c.args.workers c.requires.workers c.loop-thread.groups.items c.loop-thread.thread (c.loop-thread.thread - 1) number c.loop-thread.invariant.shared c.worker_of.result c.worker_of.ensures in
    omega (arith, there)

pub unreachable-requires : goal.unreachable-requires
unreachable-requires c =
    let number : c.loop-thread.thread ≡ (c.loop-thread.thread - 1) + 1 = omega (arith, c.loop-thread-test.true) in
    let some = collected-some c.args.workers c.requires.workers c.loop-thread.groups.items c.loop-thread.thread (c.loop-thread.thread - 1) number c.loop-thread.invariant.shared c.worker_of.result c.worker_of.ensures c.index_mut.result.now c.index_mut.ensures.value in
    none-left c.pop.result c.in_default.is (c.pop.ensures.variant.1 (omega (arith, some)))

pub loop-thread-preserved : goal.loop-thread-preserved
loop-thread-preserved c =
    let number : c.loop-thread.thread ≡ (c.loop-thread.thread - 1) + 1 = omega (arith, c.loop-thread-test.true) in
    record {
      shared = collected-shared c.args.workers c.requires.workers c.loop-thread.groups.items c.loop-thread.thread (c.loop-thread.thread - 1) number c.loop-thread.invariant.shared c.worker_of.result c.worker_of.ensures c.index_mut.result.now c.index_mut.ensures.value
          c.pop.new.self c.in-Some.finished c.in-Some.ensures.items;
      order = collected-order c.args.workers c.requires.workers c.loop-thread.groups.items c.loop-thread.thread (c.loop-thread.thread - 1) number c.loop-thread.invariant.shared c.worker_of.result c.worker_of.ensures c.index_mut.result.now c.index_mut.ensures.value
          c.pop.new.self c.in-Some.finished c.in-Some.ensures.items c.loop-thread.all.items c.push.new.self.items c.in_ok-push.ensures.items _ c.loop-thread.invariant.order;
      each = λ words p limits inputs h. collected-each c.args.workers c.requires.workers c.loop-thread.groups.items c.loop-thread.thread (c.loop-thread.thread - 1) number c.loop-thread.invariant.shared c.worker_of.result c.worker_of.ensures c.index_mut.result.now c.index_mut.ensures.value
          c.pop.new.self c.in-Some.finished c.in-Some.ensures.items c.loop-thread.all.items c.push.new.self.items c.in_ok-push.ensures.items words p limits inputs (c.loop-thread.invariant.each words p limits inputs h);
    }

pub returns-clause-each : goal.returns-clause-each
returns-clause-each c = λ words p limits inputs h.
    All-permutation (IsDone words p limits inputs) c.loop-thread.all.items c.reverse.new.self.items c.reverse.ensures.permutation (c.loop-thread.invariant.each words p limits inputs h).1

pub returns-clause-threads : goal.returns-clause-threads
returns-clause-threads c =
    let none : c.loop-thread.thread ≡ 0 = omega (arith, c.loop-thread-test.false) in
    let order : reverse (map thread_in c.loop-thread.all.items) ≡ range_with_len 0 c.args.threads =
    sym (ap (λ (n : ℕ). range_with_len 0 n ++ reverse (map thread_in c.loop-thread.all.items)) none) ∙ c.loop-thread.invariant.order in
    ap (map thread_in) c.reverse.ensures.items ∙ map-back thread_in c.loop-thread.all.items ∙ order
