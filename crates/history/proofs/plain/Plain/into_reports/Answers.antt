use Rattle.std.proofs.Common.{◌∙◌, sym, ap, subst}
use Rattle.machine.specs.Runs.{reports_of}
use Rattle.std.proofs.lemmas.Result.{IfOk-weaker}
use Rattle.history.specs.Played.{Played, world_of, IsOver}
use Rattle.history.proofs.Reports.{may-report, reports-are}
use Rattle.history.proofs.plain.Plain.into_reports.Goals as goal

pub reports-requires : goal.reports-requires
reports-requires c =
    let played : Played = record { program = c.self.inside.program.now; limits = c.self.inside.limits; inputs = c.self.inside.inputs.now; taken = c.self.inside.taken.items } in
    record {
      listed = c.self.invariant.listed;
      ended = λ k d l. may-report played c.self.inside.words c.self.inside.seats.items c.self.invariant (subst IsOver (sym c.self.view_is) c.requires) k d l;
    }

pub returns : goal.returns
returns c =
    let played : Played = record { program = c.self.inside.program.now; limits = c.self.inside.limits; inputs = c.self.inside.inputs.now; taken = c.self.inside.taken.items } in
    IfOk-weaker c.reports.result _ _ (λ reports h. h ∙ reports-are played c.self.inside.words c.self.inside.seats.items c.self.invariant ∙
    ap (λ (p : Played). reports_of p.program p.limits p.inputs (world_of p)) c.self.view_is) c.reports.ensures
