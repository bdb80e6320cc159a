use Rattle.std.proofs.Common.{Ok, Err, arith}
use Rattle.std.specs.Prelude.{slice_range}
use Rattle.std.proofs.lemmas.Result.{err_from_is_err_and}
use Rattle.replay_model.specs.Logs.{Log}
use Rattle.log_file.proofs.LogLaws.{log_take}
use Rattle.log_file.proofs.TextLaws.{only_is, refused_is}
use Rattle.log_file.proofs.log_reading.read_as.Goals as goal

pub returns-in_err-limits-clause-only : goal.returns-in_err-limits-clause-only
returns-in_err-limits-clause-only c =
    let p = err_from_is_err_and c.from_residual.result c.from_residual.ensures.1 in
    rw (p.1, p.2) (λ log text. only_is c.args.version c.args.bytes.now (Err c.in_err-limits.field-0.0) log c.in_err-limits.ensures.read text)

pub returns-in_err-limits-clause-refused : goal.returns-in_err-limits-clause-refused
returns-in_err-limits-clause-refused c =
    let p = err_from_is_err_and c.from_residual.result c.from_residual.ensures.1 in
    rw (p.1, p.2) (refused_is c.args.version c.args.bytes.now (Err c.in_err-limits.field-0.0) c.in_err-limits.ensures.read)

pub new-requires : goal.new-requires
new-requires c =
    let log : Log = record { digest = slice_range c.args.bytes.now 7 39; limits = c.in_ok-limits.limits; threads = c.in_ok-limits.threads.items; last_tags = c.in_ok-limits.last_tags.items } in
    rw c.digest_in.ensures ((log_take c.args.version c.args.bytes.now log (λ i. omega (arith, c.type_inv.bytes i)) c.in_ok-limits.ensures.read).formed)

pub returns-clause-found : goal.returns-clause-found
returns-clause-found c =
    let log : Log = record { digest = slice_range c.args.bytes.now 7 39; limits = c.in_ok-limits.limits; threads = c.in_ok-limits.threads.items; last_tags = c.in_ok-limits.last_tags.items } in
    rw (c.new.ensures, c.digest_in.ensures) (log_take c.args.version c.args.bytes.now log (λ i. omega (arith, c.type_inv.bytes i)) c.in_ok-limits.ensures.read)

pub returns-clause-only : goal.returns-clause-only
returns-clause-only c =
    let log : Log = record { digest = slice_range c.args.bytes.now 7 39; limits = c.in_ok-limits.limits; threads = c.in_ok-limits.threads.items; last_tags = c.in_ok-limits.last_tags.items } in
    rw (c.new.ensures, c.digest_in.ensures) (λ other text. only_is c.args.version c.args.bytes.now (Ok log) other c.in_ok-limits.ensures.read text)
