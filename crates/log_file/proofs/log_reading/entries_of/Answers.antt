use Rattle.std.proofs.Common.{[], ◌∷◌, length-append, Ok, Err, length, ap, ◌∙◌, arith}
use Rattle.std.proofs.lemmas.Result.{err_from_is_err_and}
use Rattle.log_file.specs.LogReading.{next_entry, entries_at}
use Rattle.log_file.proofs.RowSteps.{rows_go_on, rows_stop, rows_end}
use Rattle.log_file.proofs.RowReads.{entry_read}
use Rattle.log_file.proofs.log_reading.entries_of.Goals as goal

pub returns-in_err-entry-clause-value : goal.returns-in_err-entry-clause-value
returns-in_err-entry-clause-value c =
    let words = c.args.words in
    let steps = c.args.steps.now in
    let own = c.args.own in
    let bytes = c.args.bytes.now in
    let before = c.loop-i.seen.entries.items in
    let f = c.in_err-entry.field-0.0 in
    let p = err_from_is_err_and c.from_residual-in_err-entry.result c.from_residual-in_err-entry.ensures.1 in
    rw (p.1, p.2)
    (λ _. rows_stop (next_entry words steps own bytes c.args.at) before c.args.count c.loop-i.i f (entries_at words steps own bytes c.args.at c.args.count) c.loop-i-test.true
    (entry_read words steps own bytes c.args.at before (length c.loop-i.seen.ends.items) c.loop-i.i (Err f) c.loop-i.invariant.words c.loop-i.invariant.count c.in_err-entry.ensures.value) c.loop-i.invariant.read)

pub loop-i-preserved : goal.loop-i-preserved
loop-i-preserved c =
    let words = c.args.words in
    let steps = c.args.steps.now in
    let own = c.args.own in
    let bytes = c.args.bytes.now in
    let before = c.loop-i.seen.entries.items in
    let entry = c.in_ok-entry.entry in
    record {
      read = rw c.in_ok-push.ensures.entries
          (rows_go_on (next_entry words steps own bytes c.args.at) before c.args.count c.loop-i.i entry (entries_at words steps own bytes c.args.at c.args.count) c.loop-i-test.true
          (entry_read words steps own bytes c.args.at before (length c.loop-i.seen.ends.items) c.loop-i.i (Ok entry) c.loop-i.invariant.words c.loop-i.invariant.count c.in_ok-entry.ensures.value) c.loop-i.invariant.read);
      count = ap length c.in_ok-push.ensures.entries ∙ omega (arith, length-append before (entry ∷ []), c.loop-i.invariant.count);
      kept = c.in_ok-push.ensures.kept;
      words = c.in_ok-push.ensures.words ∙ c.loop-i.invariant.words;
    }

pub returns-clause-value : goal.returns-clause-value
returns-clause-value c =
    rows_end (next_entry c.args.words c.args.steps.now c.args.own c.args.bytes.now c.args.at) c.loop-i.seen.entries.items c.args.count c.loop-i.i
    (entries_at c.args.words c.args.steps.now c.args.own c.args.bytes.now c.args.at c.args.count) c.loop-i-test.false c.loop-i.invariant.read
