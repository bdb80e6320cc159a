use Rattle.std.proofs.Common.{◌≡◌, List, [], ◌∷◌, ◌++◌, sym, ◌∙◌, ap, subst, arith}
use Rattle.std.specs.Prelude.{All, Some}
use Rattle.std.proofs.lemmas.List.{append_assoc, nil_from_length}
use Rattle.std.proofs.lemmas.List.Elements.{All-pop}
use Rattle.tagged_words.specs.Views.{SharedWords, Progress}
use Rattle.tagged_words.specs.Rule.{Knows, HasPart}
use Rattle.tagged_words.specs.Hands.{IsOf}
use Rattle.tagged_words.proofs.Shares.{may_join, gathered_more}
use Rattle.tagged_words.proofs.words.Words.gather.Goals as goal

pub join_seat-requires : goal.join_seat-requires
join_seat-requires c =
    let table = ap (λ (w : SharedWords). w.table) c.self.view_is in
    let own : c.in-Some-pop.hand.words ≡ c.args.self.now = (All-pop (IsOf c.args.self.now) _ _ (Some c.in-Some-pop.hand) c.in-Some-pop.ensures.items c.loop-hand.invariant.rest).1 in (
      c.loop-hand.invariant.own ∙ sym table,
      c.into_seat-other.ensures.own ∙ ap (λ (w : SharedWords). w.table) own ∙ sym table,
      ap (λ (m : Knows). m.1) c.into_seat-other.ensures.knows,
      omega (arith, c.self.invariant.words, c.self.invariant.some_word),
      may_join c.self.inside.table.shared.key _ _ _ _,
    )

pub loop-hand-preserved : goal.loop-hand-preserved
loop-hand-preserved c =
    let (done, are, have) = c.loop-hand.invariant.gathered in record {
      own = c.join_seat.ensures.0 ∙ c.loop-hand.invariant.own;
      rest = (All-pop (IsOf c.args.self.now) _ _ (Some c.in-Some-pop.hand) c.in-Some-pop.ensures.items c.loop-hand.invariant.rest).0;
      gathered = (
        c.in-Some-pop.hand ∷ done,
        are ∙ ap (λ (hs : List Progress). hs ++ done) c.in-Some-pop.ensures.items ∙ append_assoc c.pop-in-loop-hand.new.self.items (c.in-Some-pop.hand ∷ []) done,
        gathered_more c.loop-hand.seat.me c.into_seat-other.result.me c.join_seat.new.seat.me c.in-Some-pop.hand done c.into_seat-other.ensures.knows c.join_seat.ensures.2 have,
      );
    }

pub returns-clause-parts : goal.returns-clause-parts
returns-clause-parts c =
    let (done, are, have) = c.loop-hand.invariant.gathered in
    let none : c.loop-hand.hands.items ≡ [] = nil_from_length c.loop-hand.hands.items (omega (arith, c.in_default-pop.ensures.cases.0, c.loop-hand.hands.ok)) in
    subst (All (HasPart c.loop-hand.seat.me.0)) (sym (are ∙ ap (λ (hs : List Progress). hs ++ done) none)) have
