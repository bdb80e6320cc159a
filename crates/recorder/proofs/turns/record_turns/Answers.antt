use Rattle.std.proofs.Common.{◌≡◌, ℕ, List, ap, subst}
use Rattle.std.specs.Prelude.{IfOk}
use Rattle.history.specs.Played.{Played}
use Rattle.recorder.specs.Records.{RecordedValue, recorded_of}
use Rattle.recorder.proofs.Followed.{followed}
use Rattle.recorder.proofs.turns.record_turns.Goals as goal

pub returns : goal.returns
returns c =
    let played = followed c.args.program.now c.args.limits.now c.args.inputs.now c.args.order.now c.in_ok-plain.plain c.follow.new.plain c.turns.new.self c.in_ok-plain.ensures c.in_ok-follow.ensures c.in_ok-turns.ensures.ok in
    let P : List ℕ → Type 0 = λ taken. IfOk c.record.result (λ (recorded : RecordedValue). recorded ≡ recorded_of c.args.program.now c.args.limits.now c.args.inputs.now taken) in
    subst P (ap (λ (p : Played). p.taken) played) c.record.ensures
