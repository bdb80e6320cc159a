use Rattle.std.proofs.Common.{length, ap, sym, ◌∙◌}
use Rattle.machine.specs.Programs.{ProgramValue}
use Rattle.machine.specs.Inputs.{InputsValue}
use Rattle.replay_model.specs.Logs.{Log}
use Rattle.replay_model.specs.RunLogs.{last_tags}
use Rattle.recorder.specs.Records.{RecordedValue}
use Rattle.recorder.specs.ThreadLogs.{entry_lists, logs_by}
use Rattle.recorder.proofs.Logs.{entries-counted, reports-counted}
use Rattle.recorder.proofs.Records.{recorded-parts, recorded-formed}
use Rattle.recorder.proofs.turns.record.Goals as goal

pub thread_logs-requires-clause-listed : goal.thread_logs-requires-clause-listed
thread_logs-requires-clause-listed c =
    c.requires.listed ∙ ap (λ (p : ProgramValue). length p.threads) (sym c.requires.program) ∙ sym (reports-counted c.args.plain c.deref.result.now (c.deref.ensures.value ∙ c.in_ok-reports.ensures))

pub thread_logs-requires-clause-counted : goal.thread_logs-requires-clause-counted
thread_logs-requires-clause-counted c =
    entries-counted c.args.plain c.in_ok-all.all.items c.in_ok-all.ensures ∙ sym (reports-counted c.args.plain c.deref.result.now (c.deref.ensures.value ∙ c.in_ok-reports.ensures))

pub new-log-requires : goal.new-log-requires
new-log-requires c =
    recorded-formed c.args.plain c.args.program.now c.args.limits.now c.args.inputs.now c.requires.program c.requires.limits c.requires.inputs _ c.in_ok-reports.reports.items c.in_ok-threads.threads.items c.in_ok-tags.tags.items c.in_ok-last_values.last_values.items
    (record {
      entries = c.in_ok-all.ensures;
      reported = c.in_ok-reports.ensures;
      logged = c.in_ok-threads.ensures ∙ ap (logs_by c.args.inputs.now 0 _) c.deref.ensures.value ∙ ap (λ (i : InputsValue). logs_by i 0 (entry_lists c.in_ok-all.all.items) c.in_ok-reports.reports.items) (sym c.requires.inputs);
      tags = c.in_ok-tags.ensures ∙ ap last_tags c.cells.ensures;
      values = c.in_ok-last_values.ensures;
    }) c.threads_count-2.ensures.rules c.entries.ensures.rules c.threads_count.ensures.rules.short c.requires.whole

pub returns : goal.returns
returns c =
    let made : Log → RecordedValue = λ log. record { log = log; reports = c.in_ok-reports.reports.items; last_values = c.in_ok-last_values.last_values.items } in
    c.new.ensures ∙ ap made c.new-log.ensures ∙
    recorded-parts c.args.plain c.args.program.now c.args.limits.now c.args.inputs.now c.requires.program c.requires.limits c.requires.inputs _ c.in_ok-reports.reports.items c.in_ok-threads.threads.items c.in_ok-tags.tags.items c.in_ok-last_values.last_values.items
    (record {
      entries = c.in_ok-all.ensures;
      reported = c.in_ok-reports.ensures;
      logged = c.in_ok-threads.ensures ∙ ap (logs_by c.args.inputs.now 0 _) c.deref.ensures.value ∙ ap (λ (i : InputsValue). logs_by i 0 (entry_lists c.in_ok-all.all.items) c.in_ok-reports.reports.items) (sym c.requires.inputs);
      tags = c.in_ok-tags.ensures ∙ ap last_tags c.cells.ensures;
      values = c.in_ok-last_values.ensures;
    })
