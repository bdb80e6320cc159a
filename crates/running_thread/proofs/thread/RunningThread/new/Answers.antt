use Rattle.std.proofs.Common.{ℕ, length, ap, ◌∙◌}
use Rattle.dep_log.specs.DepLogs.{no_entries}
use Rattle.running_thread.proofs.Stepping.{fresh-thread}
use Rattle.running_thread.proofs.thread.RunningThread.new.Goals as goal

pub returns : goal.returns
returns c = record {
  is =
      fresh-thread c.args.on.now.program.now c.args.on.now.limits.now c.args.on.now.inputs.now c.args.thread c.new.result c.in_ok-new.field-0
      c.words.ensures.rules c.entries.ensures.rules c.requires.thread c.requires.inputs c.new.ensures
      (c.in_ok-new.ensures ∙ ap (λ (n : ℕ). no_entries n c.entries.result) (ap length c.words.ensures.value) ∙ ap (no_entries (length c.args.on.now.program.now.words)) c.entries.ensures.value);
  core = c.new.ensures;
}
