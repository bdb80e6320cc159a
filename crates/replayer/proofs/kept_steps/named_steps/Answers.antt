use Rattle.std.specs.Prelude.{Some, List, ℕ}
use Rattle.std.proofs.Common.{subst, arith}
use Rattle.std.proofs.lemmas.List.{take_all}
use Rattle.std.specs.List.{list_any}
use Rattle.replay_model.specs.declared.Entry.{Entry}
use Rattle.replay_model.specs.Logs.{ThreadLog}
use Rattle.replay_model.specs.Events.{names_source}
use Rattle.replayer.specs.KeptSteps.{event_at, is_source, AreAdded}
use Rattle.replayer.proofs.Adding.{add_more, named_all}
use Rattle.replayer.proofs.kept_steps.named_steps.Goals as goal

pub loop-logged-preserved : goal.loop-logged-preserved
loop-logged-preserved c =
    let P : List Entry → Type 0 = λ entries. AreAdded (is_source c.args.thread entries) c.loop-logged.steps.items c.add_sources.new.steps.items in
    add_more (λ (logged : ThreadLog) (m : ℕ). names_source (Some (event_at c.args.thread m)) logged) c.threads-logged-items.result.now c.loop-logged.logged-index _ c.logged-item.result _ _ _ c.loop-logged-test.true c.logged-item.is
    c.loop-logged.invariant (subst P c.entries.ensures c.in_ok-add_sources.ensures)

pub returns : goal.returns
returns c =
    let all : List ThreadLog = c.threads-logged-items.result.now in
    let P : List ThreadLog → Type 0 = λ logged. AreAdded (λ (m : ℕ). list_any (names_source (Some (event_at c.args.thread m))) logged) c.new-steps.result.items c.loop-logged.steps.items in
    named_all c.args.log.now c.args.thread all c.finals.result.now c.new-steps.result.items c.loop-logged.steps.items _ c.new-steps.ensures.items c.threads-logged-items.ensures.value c.finals.ensures.value
    (subst P (take_all c.loop-logged.logged-index all (omega (arith, c.loop-logged-test.false))) c.loop-logged.invariant) c.in_ok-add_tags.ensures
