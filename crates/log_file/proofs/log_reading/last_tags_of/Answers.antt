use Rattle.std.proofs.Common.{◌≡◌, ◌+◌, ◌*◌, Some, None, length, arith, rules}
use Rattle.log_file.specs.LogFaults.{fault}
use Rattle.log_file.specs.declared.log_fault.LogKind.TheVariants.{Source}
use Rattle.log_file.specs.LogReading.{next_last, last_tags_in}
use Rattle.log_file.proofs.RowSteps.{rows_go_on, rows_stop, rows_end}
use Rattle.log_file.proofs.RowReads.{last_read}
use Rattle.log_file.proofs.log_reading.last_tags_of.Goals as goal

pub returns-in-None : goal.returns-in-None
returns-in-None c =
    let steps = c.args.steps.now in
    let bytes = c.args.bytes.now in
    let before = c.loop-word.last_tags.items in
    let place : c.args.at + 4 * c.loop-word.word ≡ c.args.at + 4 * length before = omega (arith, c.loop-word.invariant.count) in
    rw c.new.ensures (λ _. rows_stop (next_last steps bytes c.args.at) before c.args.words c.loop-word.word (fault Source (c.args.at + 4 * c.loop-word.word)) (last_tags_in steps bytes c.args.at c.args.words) c.loop-word-test.true
    (last_read steps bytes c.args.at before (c.args.at + 4 * c.loop-word.word) c.number_at.result None place c.number_at.ensures c.in-None.ensures) c.loop-word.invariant.read)

pub loop-word-preserved : goal.loop-word-preserved
loop-word-preserved c =
    let steps = c.args.steps.now in
    let bytes = c.args.bytes.now in
    let before = c.loop-word.last_tags.items in
    let place : c.args.at + 4 * c.loop-word.word ≡ c.args.at + 4 * length before = omega (arith, c.loop-word.invariant.count) in
    record {
      read = rw c.in_ok-push-in-Some.ensures.items
          (rows_go_on (next_last steps bytes c.args.at) before c.args.words c.loop-word.word c.in-Some.tag (last_tags_in steps bytes c.args.at c.args.words) c.loop-word-test.true
          (last_read steps bytes c.args.at before (c.args.at + 4 * c.loop-word.word) c.number_at.result (Some c.in-Some.tag) place c.number_at.ensures c.in-Some.ensures) c.loop-word.invariant.read);
      count = search rules;
    }

pub returns : goal.returns
returns c =
    rows_end (next_last c.args.steps.now c.args.bytes.now c.args.at) c.loop-word.last_tags.items c.args.words c.loop-word.word (last_tags_in c.args.steps.now c.args.bytes.now c.args.at c.args.words)
    c.loop-word-test.false c.loop-word.invariant.read
