use Rattle.std.proofs.Common.{ℕ, [], ◌∷◌, sym, ap, ◌∙◌, get_or}
use Rattle.std.proofs.lemmas.List.{take_more}
use Rattle.history.specs.Played.{Played, after_turns}
use Rattle.history.proofs.Turns.{after_turns-nil, after_turns-append}
use Rattle.recorder.proofs.turns.follow.Goals as goal

pub loop-thread-init : goal.loop-thread-init
loop-thread-init c = after_turns-nil c.args.plain.now

pub loop-thread-preserved : goal.loop-thread-preserved
loop-thread-preserved c =
    let thread : ℕ = get_or c.args.order.now c.loop-thread.thread-index 0 in
    c.in_ok-turn.ensures ∙ ap (λ (played : Played). after_turns played (thread ∷ [])) c.loop-thread.invariant ∙
    sym (after_turns-append c.args.plain.now _ (thread ∷ [])) ∙
    ap (after_turns c.args.plain.now) (sym (take_more c.args.order.now c.loop-thread.thread-index 0 c.loop-thread-test.true))
