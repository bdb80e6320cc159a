use Rattle.std.proofs.Common.{◌≡◌, ℕ, ◌<◌, List, map, sym, ◌∙◌, ap, subst}
use Rattle.std.specs.Prelude.{All}
use Rattle.std.proofs.lemmas.Result.{IfOk-weaker}
use Rattle.light_base.specs.declared.tag.Cell.{Cell}
use Rattle.replay_model.specs.Logs.{ThreadLog}
use Rattle.replay_model.specs.RunLogs.{last_tags}
use Rattle.replay_model.specs.WellFormed.{IsWellFormed}
use Rattle.replay_laws.specs.BridgeLaws.{threads_in}
use Rattle.machine.specs.Cores.{Report}
use Rattle.tagged_words.specs.Views.{Start, Progress}
use Rattle.tagged_words.specs.Hands.{IsOf, HasHand, AreAllSteps}
use Rattle.recorder.specs.Records.{RecordedValue, no_digest, recorded_of}
use Rattle.recorder.specs.Gathered.{hand_in, log_in, report_in}
use Rattle.recorder.proofs.Gathering.{all-own, all-hands, history-all, recorded-all, formed-all}
use Rattle.recorder.proofs.threads.gather.Goals as goal

pub close-requires-clause-own : goal.close-requires-clause-own
close-requires-clause-own c =
    subst (λ (hands : List Progress). All (IsOf c.args.words) hands) (sym c.in_ok-hands.ensures.hands)
    (all-own c.args.program.now c.args.limits.now c.args.inputs.now c.args.words c.args.all.items c.requires.each c.requires.threads)

pub close-requires-clause-all : goal.close-requires-clause-all
close-requires-clause-all c = λ t l.
    subst (λ (hands : List Progress). HasHand t hands) (sym c.in_ok-hands.ensures.hands)
    (all-hands c.args.program.now c.args.limits.now c.args.inputs.now c.args.words c.args.all.items c.requires.each c.requires.threads t
    (subst (λ (n : ℕ). t < n) (ap (λ (s : Start). s.threads) c.requires.start) l))

pub recorded-requires : goal.recorded-requires
recorded-requires c =
    let list = c.in_ok-cells.ensures.0 in
    let steps : AreAllSteps c.args.words (map hand_in c.args.all.items) c.in_ok-cells.cells.items list =
    subst (λ (hands : List Progress). AreAllSteps c.args.words hands c.in_ok-cells.cells.items list) c.in_ok-hands.ensures.hands c.in_ok-cells.ensures.1 in
    let formed = formed-all c.args.program.now c.args.limits.now c.args.inputs.now c.args.words c.args.all.items c.requires.each c.requires.threads c.requires.start c.in_ok-cells.cells.items list steps
    c.words.ensures.rules c.entries.ensures.rules c.threads_count.ensures.rules.short in
    let P : List ThreadLog → List Cell → Type 0 = λ logs cells. IsWellFormed (record { digest = no_digest; limits = c.args.limits.now; threads = logs; last_tags = last_tags cells }) in
    subst (λ (logs : List ThreadLog). P logs c.deref.result.now) (sym c.in_ok-hands.ensures.logs) (subst (P (map log_in c.args.all.items)) (sym c.deref.ensures.value) formed)

pub returns : goal.returns
returns c =
    let list = c.in_ok-cells.ensures.0 in
    let steps : AreAllSteps c.args.words (map hand_in c.args.all.items) c.in_ok-cells.cells.items list =
    subst (λ (hands : List Progress). AreAllSteps c.args.words hands c.in_ok-cells.cells.items list) c.in_ok-hands.ensures.hands c.in_ok-cells.ensures.1 in
    let whole = history-all c.args.program.now c.args.limits.now c.args.inputs.now c.args.words c.args.all.items c.requires.each c.requires.threads c.requires.start c.in_ok-cells.cells.items list steps in
    let made : List ThreadLog → List Report → List Cell → RecordedValue = λ logs reports cells.
    record { log = record { digest = no_digest; limits = c.args.limits.now; threads = logs; last_tags = last_tags cells }; reports = reports; last_values = map (λ (cell : Cell). cell.value) cells } in
    let is : made c.in_ok-hands.logs.items c.in_ok-hands.reports.items c.deref.result.now ≡ recorded_of c.args.program.now c.args.limits.now c.args.inputs.now (threads_in list) =
    ap (λ (logs : List ThreadLog). made logs c.in_ok-hands.reports.items c.deref.result.now) c.in_ok-hands.ensures.logs ∙
    ap (λ (reports : List Report). made (map log_in c.args.all.items) reports c.deref.result.now) c.in_ok-hands.ensures.reports ∙
    ap (made (map log_in c.args.all.items) (map report_in c.args.all.items)) c.deref.ensures.value ∙
    recorded-all c.args.program.now c.args.limits.now c.args.inputs.now c.args.words c.args.all.items c.requires.each c.requires.threads c.requires.start c.in_ok-cells.cells.items list steps in
    IfOk-weaker c.recorded.result _ _ (λ r e. (threads_in list, whole, e ∙ is)) c.recorded.ensures
