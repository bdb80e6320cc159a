use Rattle.std.proofs.Common.{◌≡◌, ◌+◌, ◌++◌, ◌∷◌, [], drop, sum, get_or, ◌∙◌, ap, arith}
use Rattle.std.proofs.lemmas.List.{drop_more}
use Rattle.machine.specs.Inputs.{input_lists}
use Rattle.machine.specs.InputTexts.{lists_at}
use Rattle.machine.proofs.ImageSteps.{sum-cons}
use Rattle.machine.proofs.InputHead.{lists_go_on, lists_end, input_lists_push}
use Rattle.machine.proofs.input_reading.lists_of.Goals as goal

pub loop-count-preserved : goal.loop-count-preserved
loop-count-preserved c =
    let counts = c.args.counts.now in
    let t = c.loop-count.count-index in
    let count = get_or counts t 0 in
    let list = c.in_ok-numbers_of.field-0 in
    let front : input_lists c.push.new.self.items ≡ input_lists c.loop-count.lists.items ++ list.items ∷ [] = rw c.in_ok-push.ensures.items (input_lists_push c.loop-count.lists.items list) in
    let total : sum (drop t counts) ≡ count + sum (drop (t + 1) counts) = ap sum (drop_more counts t 0 c.loop-count-test.true) ∙ sum-cons count (drop (t + 1) counts) in
    record {
      read = rw (front, c.split_at.ensures.back) (lists_go_on counts t (input_lists c.loop-count.lists.items) c.loop-count.rest.now (lists_at counts c.args.bytes.now) list.items c.loop-count-test.true c.in_ok-numbers_of.ensures c.loop-count.invariant.read);
      there = omega (arith, total, c.split_at.ensures.back_len, c.loop-count.invariant.there);
    }

pub returns : goal.returns
returns c = lists_end c.args.counts.now c.loop-count.count-index (input_lists c.loop-count.lists.items) c.loop-count.rest.now (lists_at c.args.counts.now c.args.bytes.now) c.loop-count-test.false c.loop-count.invariant.read
