use Rattle.std.proofs.Common.{[], ◌∷◌, Ok, Err, length, get_or, ap, ◌∙◌, arith, length-append}
use Rattle.std.proofs.lemmas.Result.{err_from_is_err_and}
use Rattle.log_file.specs.LogReading.{Header, no_header, next_thread, threads_in}
use Rattle.log_file.proofs.RowSteps.{rows_go_on, rows_stop, rows_end}
use Rattle.log_file.proofs.RowReads.{thread_read, entries_left, taken_left, entries_more, taken_more}
use Rattle.log_file.proofs.log_reading.threads_of.Goals as goal

pub thread_at-requires-clause-entries : goal.thread_at-requires-clause-entries
thread_at-requires-clause-entries c =
    omega (arith, entries_left c.args.headers.now c.loop-header.header-index c.loop-header-test.true, c.loop-header.invariant.entries_left, c.requires.entries)

pub thread_at-requires-clause-taken : goal.thread_at-requires-clause-taken
thread_at-requires-clause-taken c =
    omega (arith, taken_left c.args.headers.now c.loop-header.header-index c.loop-header-test.true, c.loop-header.invariant.taken_left, c.requires.taken)

pub returns-in_err-thread : goal.returns-in_err-thread
returns-in_err-thread c =
    let read = next_thread c.args.words c.args.headers.now c.args.bytes.now c.args.entries_place c.args.taken_place in
    let before = c.loop-header.threads.items in
    let p = err_from_is_err_and c.from_residual-in_err-thread.result c.from_residual-in_err-thread.ensures.1 in
    rw (p.1, p.2)
    (λ h. rows_stop read before (length c.args.headers.now) c.loop-header.header-index c.in_err-thread.field-0.0
    (threads_in c.args.words c.args.headers.now c.args.bytes.now c.args.entries_place c.args.taken_place) c.loop-header-test.true
    (thread_read c.args.words c.args.steps.now c.args.headers.now c.args.bytes.now c.args.entries_place c.args.taken_place before c.loop-header.header-index c.loop-header.at c.loop-header.from (Err c.in_err-thread.field-0.0)
    c.requires.steps c.loop-header.invariant.count c.loop-header.invariant.at c.loop-header.invariant.from (c.in_err-thread.ensures.value h)) c.loop-header.invariant.read)

pub loop-header-preserved : goal.loop-header-preserved
loop-header-preserved c =
    let read = next_thread c.args.words c.args.headers.now c.args.bytes.now c.args.entries_place c.args.taken_place in
    let before = c.loop-header.threads.items in
    let thread = c.in_ok-thread.thread in
    let i = c.loop-header.header-index in
    let h : Header = get_or c.args.headers.now i no_header in
    let new = c.in_ok-push.ensures.items in
    record {
      read = rw new
          (rows_go_on read before (length c.args.headers.now) i thread (threads_in c.args.words c.args.headers.now c.args.bytes.now c.args.entries_place c.args.taken_place) c.loop-header-test.true
          (thread_read c.args.words c.args.steps.now c.args.headers.now c.args.bytes.now c.args.entries_place c.args.taken_place before i c.loop-header.at c.loop-header.from (Ok thread)
          c.requires.steps c.loop-header.invariant.count c.loop-header.invariant.at c.loop-header.invariant.from c.in_ok-thread.ensures.value) c.loop-header.invariant.read);
      count = ap length new ∙ omega (arith, length-append before (thread ∷ []), c.loop-header.invariant.count);
      at = rw new (omega (arith, entries_more before thread, c.in_ok-thread.ensures.entries, c.loop-header.invariant.at));
      from = rw new (omega (arith, taken_more before thread, c.in_ok-thread.ensures.taken, c.loop-header.invariant.from));
      entries_left = omega (arith, entries_left c.args.headers.now i c.loop-header-test.true, c.loop-header.invariant.entries_left);
      taken_left = omega (arith, taken_left c.args.headers.now i c.loop-header-test.true, c.loop-header.invariant.taken_left);
    }

pub returns : goal.returns
returns c =
    rows_end (next_thread c.args.words c.args.headers.now c.args.bytes.now c.args.entries_place c.args.taken_place) c.loop-header.threads.items (length c.args.headers.now) c.loop-header.header-index
    (threads_in c.args.words c.args.headers.now c.args.bytes.now c.args.entries_place c.args.taken_place) c.loop-header-test.false c.loop-header.invariant.read
