use Rattle.std.proofs.Common.{◌≡◌, ◌+◌, ◌*◌, length, sym, ap, ◌∙◌, rules}
use Rattle.std.proofs.lemmas.List.Elements.{All-push}
use Rattle.std.proofs.lemmas.Result.{err_from_is_err_and}
use Rattle.log_file.specs.Versions.{header_len}
use Rattle.log_file.specs.LogReading.{IsSmall, next_header, header_at, headers_in}
use Rattle.log_file.proofs.RowSteps.{rows_go_on, rows_stop, rows_end}
use Rattle.log_file.proofs.heads.headers_of.Goals as goal

pub returns-in_err-header-clause-value : goal.returns-in_err-header-clause-value
returns-in_err-header-clause-value c =
    let v = c.args.version in
    let head = c.args.head.now in
    let bytes = c.args.bytes.now in
    let i = c.loop-thread.thread in
    let place : 51 + header_len v * length c.loop-thread.headers.items ≡ 51 + c.header_len.result * i = cc (c.loop-thread.invariant.count, c.header_len.ensures) in
    let p = err_from_is_err_and c.from_residual-in_err-header.result c.from_residual-in_err-header.ensures.1 in
    rw (p.1, p.2)
    (λ _. rows_stop (next_header v head bytes) c.loop-thread.headers.items head.threads i c.in_err-header.field-0.0 (headers_in v head bytes) c.loop-thread-test.true
    (ap (header_at v head bytes) place ∙ sym c.in_err-header.ensures.value) c.loop-thread.invariant.read)

pub loop-thread-preserved : goal.loop-thread-preserved
loop-thread-preserved c =
    let v = c.args.version in
    let head = c.args.head.now in
    let bytes = c.args.bytes.now in
    let i = c.loop-thread.thread in
    let place : 51 + header_len v * length c.loop-thread.headers.items ≡ 51 + c.header_len.result * i = cc (c.loop-thread.invariant.count, c.header_len.ensures) in
    record {
      read = rw c.in_ok-push.ensures.items
          (rows_go_on (next_header v head bytes) c.loop-thread.headers.items head.threads i c.in_ok-header.header (headers_in v head bytes) c.loop-thread-test.true
          (ap (header_at v head bytes) place ∙ sym c.in_ok-header.ensures.value) c.loop-thread.invariant.read);
      count = search rules;
      small = rw c.in_ok-push.ensures.items (All-push IsSmall c.loop-thread.headers.items c.in_ok-header.header c.loop-thread.invariant.small c.in_ok-header.ensures.small);
    }

pub returns-clause-value : goal.returns-clause-value
returns-clause-value c =
    rows_end (next_header c.args.version c.args.head.now c.args.bytes.now) c.loop-thread.headers.items c.args.head.now.threads c.loop-thread.thread (headers_in c.args.version c.args.head.now c.args.bytes.now)
    c.loop-thread-test.false c.loop-thread.invariant.read
