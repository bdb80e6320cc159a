use Rattle.std.proofs.Common.{◌≡◌, ◌∙◌, ap, arith}
use Rattle.std.proofs.lemmas.List.Elements.{All-push, All-same}
use Rattle.machine.specs.Inputs.{inputs_of}
use Rattle.recorder.specs.Running.{Running}
use Rattle.recorder.specs.Gathered.{IsReady}
use Rattle.recorder.specs.Grouped.{IsAtStart, RunsIn}
use Rattle.recorder.proofs.Endings.{front-all, last-all, new-runs, new-starts, started-order}
use Rattle.recorder.proofs.groups.start_all.Goals as goal

pub loop-hand-preserved : goal.loop-hand-preserved
loop-hand-preserved c =
    let words = c.args.words.now in
    let program = c.args.program.now in
    let limits = c.args.limits.now in
    let inputs = c.args.inputs.now in
    let hand = c.in-Some.hand in
    let runner = c.in-Ok-new.runner in
    let all = c.loop-hand.runners.items in
    let ready = last-all (IsReady words program) c.loop-hand.hands.items c.pop.new.self.items hand c.in-Some.ensures.items c.loop-hand.invariant.ready in
    let list : c.threads-list.result.now ≡ inputs_of inputs hand.thread = c.threads-list.ensures.value ∙ ap (inputs_of inputs) (c.from.ensures ∙ c.thread.ensures) in
    let runs = new-runs words program limits inputs hand c.threads-list.result.now runner ready.0 list c.in-Ok-new.ensures.ok in
    let len = c.in-Some.ensures.len in
    let room = c.in-Some.ensures.capacity in
    let more = c.push_reserved.ensures.len in
    let space = c.push_reserved.ensures.capacity in
    record {
      ready = front-all (IsReady words program) c.loop-hand.hands.items c.pop.new.self.items hand c.in-Some.ensures.items c.loop-hand.invariant.ready;
      each = All-same (RunsIn words program limits inputs) _ _ c.push_reserved.ensures.items (All-push (RunsIn words program limits inputs) all runner c.loop-hand.invariant.each runs);
      starts = All-same (IsAtStart program limits inputs) _ _ c.push_reserved.ensures.items (All-push (IsAtStart program limits inputs) all runner c.loop-hand.invariant.starts (new-starts program limits inputs hand _ runner list c.in-Ok-new.ensures.ok));
      order = started-order c.loop-hand.hands.items c.pop.new.self.items hand c.in-Some.ensures.items all c.push_reserved.new.self.items runner c.push_reserved.ensures.items
          (ap (λ (r : Running). r.hand) c.in-Ok-new.ensures.ok) _ c.loop-hand.invariant.order;
      room = let before = c.loop-hand.invariant.room in omega (arith, before, len, room, more);
      space = let before = c.loop-hand.invariant.space in omega (arith, before, len, more, space);
    }
