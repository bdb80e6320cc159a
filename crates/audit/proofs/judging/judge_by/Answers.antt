use Rattle.std.proofs.Common.{List, ◌∙◌, sym, subst}
use Rattle.light_base.specs.declared.tag.Event.{Event}
use Rattle.replay_model.specs.Orders.{Respects}
use Rattle.replay_model.specs.WellFormed.{IsWellFormed}
use Rattle.replayer.specs.declared.notes.Written.{Written}
use Rattle.replayer.specs.Notes.{AreWrites}
use Rattle.replayer.specs.Replays.{replay_by}
use Rattle.replayer.specs.Verdicts.{IsVerdict, IsExact}
use Rattle.history.specs.HistoryLogs.{FitsProgram}
use Rattle.audit.proofs.Judged.{runs-fit}
use Rattle.audit.proofs.Making.{writes-tagged}
use Rattle.audit.proofs.judging.judge_by.Goals as goal

pub returns-in-Differs : goal.returns-in-Differs
returns-in-Differs c =
    c.legal_law.ensures.runs c.args.program.now c.args.log.now
    (subst (IsExact c.args.program.now c.args.log.now) c.in-Differs.is (c.in_ok-replayed.ensures.exact (subst (Respects c.args.log.now) (sym c.deref.ensures.value) c.requires.order)))

pub judge_case-requires-clause-case : goal.judge_case-requires-clause-case
judge_case-requires-clause-case c =
    let p = c.args.program.now in
    let log = c.args.log.now in
    let order = c.args.order.now.items in
    let formed : IsWellFormed log = subst IsWellFormed (c.problem.view_is ∙ c.in_ok-problem.ensures) c.problem.invariant.formed in
    let verdict = subst (IsVerdict p log (replay_by p log c.deref.result.now)) c.in_default.is c.in_ok-replayed.ensures.verdict in
    let F : List Event → Type 0 = λ events. FitsProgram p log (replay_by p log events).threads in
    let W : List Event → Type 0 = λ events. AreWrites (replay_by p log events).threads c.deref-2.result.now in
    let V : List Written → Type 0 = λ writes. AreWrites (replay_by p log c.deref.result.now).threads writes in
    let fits : F order = subst F c.deref.ensures.value (runs-fit p log c.deref.result.now c.requires.threads verdict.0) in
    let writes : W order = subst W c.deref.ensures.value (subst V (sym c.deref-2.ensures.value) c.in_ok-replayed.ensures.writes) in
    record {
      problem = c.in_ok-problem.ensures;
      fits = fits;
      writes = writes;
      tagged = writes-tagged p log (replay_by p log order).threads c.deref-2.result.now formed fits writes;
    }
