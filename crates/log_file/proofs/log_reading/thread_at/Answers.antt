use Rattle.std.proofs.Common.{length, ap, ◌∙◌}
use Rattle.std.specs.Int.{w32}
use Rattle.replay_model.specs.Logs.{ThreadLog}
use Rattle.log_file.proofs.RowReads.{length-numbers_at}
use Rattle.log_file.proofs.log_reading.thread_at.Goals as goal

pub returns-clause-taken : goal.returns-clause-taken
returns-clause-taken c =
    ap (λ (t : ThreadLog). length t.taken) c.new.ensures ∙ ap length c.in_ok-taken.ensures ∙ length-numbers_at w32 c.args.header.now.taken _
