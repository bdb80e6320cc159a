use Rattle.std.proofs.Common.{◌≡◌, ◌<◌, List, map, sym, ap, subst}
use Rattle.std.proofs.lemmas.Result.{IfOk-weaker}
use Rattle.std.specs.Mem.Slots.{slots_items}
use Rattle.light_base.specs.Cells.{unpacked}
use Rattle.replay_model.specs.WordSteps.{WordStep}
use Rattle.replay_model.specs.Steps.{Cell}
use Rattle.tagged_words.specs.Views.{SharedWords}
use Rattle.tagged_words.specs.Hands.{AreAllSteps}
use Rattle.tagged_words.proofs.Bounds.{last_tags, all_steps}
use Rattle.tagged_words.proofs.words.Words.close.Goals as goal

pub read_all-cells-requires-clause-tags : goal.read_all-cells-requires-clause-tags
read_all-cells-requires-clause-tags c = last_tags c.self.inside.table.shared.key c.self.invariant.few _ _ _ _ c.close_with-closed.ensures.values.2

pub returns : goal.returns
returns c =
    let words = slots_items c.close_with-closed.result.words in
    let start = ap (λ (w : SharedWords). w.start) c.self.view_is in
    let steps = all_steps c.self.inside.table.shared.key c.self.invariant.few _ _ words _ c.close_with-closed.ensures.values.2 c.args.self (sym start) c.args.hands.items c.gather-seat.ensures.parts
    (λ t low. c.requires.all t (subst (λ (w : SharedWords). t < w.start.threads) c.self.view_is low)) in
    IfOk-weaker c.read_all-cells.result (λ cells. cells.items ≡ map unpacked words) (λ cells. (list : List WordStep) × AreAllSteps c.args.self c.args.hands.items cells.items list)
    (λ cells is. subst (λ (l : List Cell). (list : List WordStep) × AreAllSteps c.args.self c.args.hands.items l list) (sym is) steps) c.read_all-cells.ensures
