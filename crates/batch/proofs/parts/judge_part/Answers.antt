use Rattle.std.proofs.Common.{List, sym, subst, arith}
use Rattle.batch.specs.Jobs.{IsShort}
use Rattle.batch.specs.Parts.{AreVerdicts}
use Rattle.batch.specs.declared.verdict.Verdict.{Verdict}
use Rattle.std.specs.List.{slice_range}
use Rattle.batch.proofs.Joining.{none_judged, judged_more}
use Rattle.batch.proofs.parts.judge_part.Goals as goal

pub loop-number-init : goal.loop-number-init
loop-number-init g c =
    let from = c.part_ends-from.result.0 in
    subst (λ (vs : List Verdict). AreVerdicts c.args.budget (slice_range c.args.jobs.now from from) vs) (sym c.in_ok-verdicts.ensures.items) (none_judged c.args.budget c.args.jobs.now from)

pub judge-requires : goal.judge-requires
judge-requires g c =
    subst IsShort (sym c.index-jobs-number.is) (c.requires.files c.loop-number.number c.index-jobs-number.result (omega (arith, c.part_ends-from.ensures.within)))

pub loop-number-preserved : goal.loop-number-preserved
loop-number-preserved g c =
    judged_more c.args.budget c.args.jobs.now c.part_ends-from.result.0 c.loop-number.number c.index-jobs-number.result c.loop-number.verdicts.items c.push.new.self.items c.in_ok-judge.field-0
    c.loop-number.auto.number (omega (arith, c.part_ends-from.ensures.within)) c.index-jobs-number.is c.loop-number.invariant c.in_ok-judge.ensures c.in_ok-push.ensures.items
