use Rattle.std.proofs.Common.{◌≡◌, ◌-◌, ◌+◌, refl, sym, ◌∙◌, ap, subst, arith}
use Rattle.tagged_words.specs.Views.{SharedWords}
use Rattle.tagged_words.specs.Rule.{seat_of}
use Rattle.tagged_words.proofs.Shares.{may_deal, dealt_one, dealt_rest, alone_again, one_more_hand}
use Rattle.tagged_words.proofs.words.Words.deal.Goals as goal

pub split_seat-first-requires : goal.split_seat-first-requires
split_seat-first-requires c =
    let before = c.loop-thread.invariant in
    let is = subst (λ (w : SharedWords). c.loop-thread.seat.me ≡ seat_of w.start c.loop-thread.thread (c.args.threads - c.loop-thread.thread)) (sym c.self.view_is) before.rest in (
      before.own ∙ sym (ap (λ (w : SharedWords). w.table) c.self.view_is),
      omega (arith, c.self.invariant.words, c.self.invariant.some_word),
      may_deal c.self.inside.table.shared.key _ c.loop-thread.thread c.args.threads c.loop-thread.seat.me (omega arith) is,
    )

pub new-requires-clause-seat : goal.new-requires-clause-seat
new-requires-clause-seat c =
    let before = c.loop-thread.invariant in
    alone_again _ c.args.self.now.start _ _ (dealt_one _ c.loop-thread.thread c.args.threads c.loop-thread.seat.me c.split_seat-first.result.me (omega arith) before.rest c.split_seat-first.ensures.4)

pub loop-thread-preserved : goal.loop-thread-preserved
loop-thread-preserved c =
    let before = c.loop-thread.invariant in
    let split = c.split_seat-first.ensures in
    let first = dealt_one c.args.self.now.start c.loop-thread.thread c.args.threads c.loop-thread.seat.me c.split_seat-first.result.me (omega arith) before.rest split.4 in record {
      own = split.0 ∙ before.own;
      rest = dealt_rest c.args.self.now.start c.loop-thread.thread c.args.threads c.loop-thread.seat.me c.split_seat-first.new.seat.me (omega arith) before.rest split.2;
      dealt = one_more_hand c.args.self.now c.loop-thread.thread c.loop-thread.thread (c.loop-thread.thread + 1) c.loop-thread.hands.items c.push.new.self.items _ c.new.result
          before.dealt c.new.ensures (λ i. record { table = (split.3 ∙ before.own) i; start = (first i).0.start }) refl refl c.in_ok-push.ensures.items;
    }

pub returns : goal.returns
returns c =
    let before = c.loop-thread.invariant in
    one_more_hand c.args.self.now c.loop-thread.thread (c.args.threads - 1) c.args.threads c.loop-thread.hands.items c.push-2.new.self.items _ c.new-2.result
    before.dealt c.new-2.ensures (λ i. record { table = before.own i; start = (before.rest i).0.start }) (omega arith) (omega arith) c.in_ok-push-2.ensures.items
