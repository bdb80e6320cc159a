use Rattle.std.proofs.Common.{List, sym, ◌∙◌, ap, subst}
use Rattle.replay_model.specs.declared.Entry.{Entry}
use Rattle.replay_model.specs.MoreReads.{with_read}
use Rattle.dep_log.specs.DepLogs.{DepLogState, LogsRead}
use Rattle.dep_log.proofs.Noted.{logs_read}
use Rattle.dep_log.proofs.dep_log.DepLog.saw.Goals as goal

pub returns-in-Some-clause-logs : goal.returns-in-Some-clause-logs
returns-in-Some-clause-logs c =
    let old = ap (λ (s : DepLogState). s.entries) c.self.view_is in
    subst (λ (new : List Entry). LogsRead c.args.word c.args.source c.args.step c.args.self.now.entries new)
    (sym (c.end_at.ensures.items ∙ ap (with_read c.args.word c.args.source c.args.step) old))
    (logs_read c.args.word c.args.source c.args.step c.args.self.now.entries)
