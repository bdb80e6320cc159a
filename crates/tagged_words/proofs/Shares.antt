-- Numbers go from one seat to another, with their lists.
use Rattle.std.proofs.Common.{◌≡◌, ℕ, zero, suc, ◌+◌, ◌-◌, ◌<◌, ◌≤◌, ◌≢◌, cond, eqb, List, [], ◌∷◌, ◌++◌, map, length, refl, sym, ◌∙◌, ap, subst, zero-add, arith}
use Rattle.std.specs.Prelude.{All, Contains, slice_set}
use Rattle.std.proofs.Math.Logic.{⊎_elim}
use Rattle.std.proofs.lemmas.List.{length-set}
use Rattle.std.proofs.lemmas.List.Elements.{All-nil, All-cons, All-head, All-tail, All-weaker, All-append, Contains-push, Contains-append_left}
use Rattle.std.specs.List.{range_with_len}
use Rattle.std.proofs.lemmas.List.FromFn.{map-range_with_len_more}
use Rattle.std.proofs.lemmas.Bool.{eq-eqb, ne_eqb, cond-true, cond-false}
use mathlib.Core.Option.{some}
use lib.ListN.{get_elem?}
use Rattle.atomic_table.specs.Table.{State, Splits, Joins}
use Rattle.atomic_table.proofs.Lists.{at_set}
use Rattle.replay_model.specs.Steps.{Cell, Step}
use Rattle.replay_model.specs.WordSteps.{WordStep}
use Rattle.tagged_words.specs.Views.{Start, Part, View, SharedWords, Progress}
use Rattle.tagged_words.specs.Rule.{FitsPart, IsKept, Recorded, Knows, alone, fresh, seat_of, first_part, other_parts, joined, spent, HasPart}
use Rattle.tagged_words.specs.Hands.{new_hand}
use Rattle.tagged_words.proofs.Places.{at_end}

-- the numbers of a seat that gave none away yet
pub fresh_parts : (from count : ℕ) → All (λ (p : Part). (from ≤ p.thread) × (p.steps ≡ [])) (fresh from count)
fresh_parts from zero = All-nil (λ (p : Part). (from ≤ p.thread) × (p.steps ≡ []))
fresh_parts from (suc count) = All-cons (λ (p : Part). (from ≤ p.thread) × (p.steps ≡ [])) (record { thread = from; steps = [] }) (fresh (from + 1) count) (omega arith, refl)
    (All-weaker (λ (p : Part). (from + 1 ≤ p.thread) × (p.steps ≡ [])) (λ (p : Part). (from ≤ p.thread) × (p.steps ≡ [])) (λ p h. let l = h.0 in (omega arith, h.1)) (fresh (from + 1) count) (fresh_parts (from + 1) count))

-- a list that fits one seat fits another, where the number goes from the one to the other
moved : (list : List WordStep) (holder after : ℕ → ℕ) (id to : ℕ) → ((t : ℕ) → holder t ≡ id → after t ≡ to) → (ps : List Part) → All (FitsPart list holder id) ps → All (FitsPart list after to) ps
moved list holder after id to goes ps all = All-weaker (FitsPart list holder id) (FitsPart list after to) (λ p f. (goes p.thread f.0, f.1)) ps all

-- the first number of a seat goes to a new one
module _ (start : Start) (s : State (Unit {0}) View) (list : List WordStep) (cells : List Cell) (holder : ℕ → ℕ) (kept : IsKept start s list cells holder)
    (id : ℕ) (from : Start) (p : Part) (ps : List Part) (others : All (λ (q : Part). q.thread ≢ p.thread) ps) (at : get_elem? s.views id ≡ some (record { start = from; parts = p ∷ ps })) where
  abbrev holder_split : ℕ → ℕ
  holder_split t = cond (eqb t p.thread) (length s.views) (holder t)

  mine : All (FitsPart list holder id) (p ∷ ps)
  mine = kept.known id (record { start = from; parts = p ∷ ps }) at

  first : FitsPart list holder id p
  first = All-head (FitsPart list holder id) p ps mine

  given : holder_split p.thread ≡ length s.views
  given = cond-true (eqb p.thread p.thread) (length s.views) (holder p.thread) (eq-eqb p.thread p.thread refl)

  stays : (t : ℕ) → t ≢ p.thread → holder_split t ≡ holder t
  stays t ne = cond-false (eqb t p.thread) (length s.views) (holder t) (ne_eqb t p.thread ne)

  known_split : (j : ℕ) (u : View) → get_elem? (slice_set s.views id (record { start = from; parts = ps }) ++ (record { start = from; parts = p ∷ [] }) ∷ []) j ≡ some u → All (FitsPart list holder_split j) u.parts
  known_split j u in_all = ⊎_elim old new (at_end (slice_set s.views id (record { start = from; parts = ps })) (record { start = from; parts = p ∷ [] }) u j in_all)
    where
      new : (j ≡ length (slice_set s.views id (record { start = from; parts = ps }))) × ((record { start = from; parts = p ∷ [] }) ≡ u) → All (FitsPart list holder_split j) u.parts
      new r = subst (λ (v : View). All (FitsPart list holder_split j) v.parts) r.1
          (All-cons (FitsPart list holder_split j) p [] (given ∙ sym (r.0 ∙ length-set s.views id (record { start = from; parts = ps })), first.1) (All-nil (FitsPart list holder_split j)))

      old : get_elem? (slice_set s.views id (record { start = from; parts = ps })) j ≡ some u → All (FitsPart list holder_split j) u.parts
      old e = ⊎_elim
          (λ (r : (j ≡ id) × ((record { start = from; parts = ps }) ≡ u)). subst (λ (v : View). All (FitsPart list holder_split j) v.parts) r.1
          (λ k d h. let f = All-tail (FitsPart list holder id) p ps mine k d h in (stays _ (others k d h) ∙ f.0 ∙ sym r.0, f.1)))
          (λ (r : (j ≢ id) × (get_elem? s.views j ≡ some u)). moved list holder holder_split j j
          (λ t held. stays t (λ q. r.0 (sym held ∙ ap holder q ∙ first.0)) ∙ held) u.parts (kept.known j u r.1))
          (at_set s.views id j (record { start = from; parts = ps }) u e)

may_split : (start : Start) (id : ℕ) (from : Start) (p : Part) (ps : List Part) → All (λ (q : Part). q.thread ≢ p.thread) ps →
    Splits (Recorded start) id (record { start = from; parts = p ∷ ps }) (record { start = from; parts = ps }) (record { start = from; parts = p ∷ [] })
may_split start id from p ps others s (list, cells, holder, kept) at = (
  list,
  cells,
  holder_split start s list cells holder kept id from p ps others at,
  record {
    initial = kept.initial;
    folds = kept.folds;
    fitting = kept.fitting;
    held = kept.held;
    known = known_split start s list cells holder kept id from p ps others at;
  },
)

-- with a number left after the first, the numbers are that one and those from the next on
pub fresh_more : (from total : ℕ) → from < total → fresh from (total - from) ≡ (record { thread = from; steps = [] }) ∷ fresh (from + 1) (total - (from + 1))
fresh_more from total low = let e : total - from ≡ suc (total - (from + 1)) = omega arith in ap (fresh from) e

pub may_deal : (start : Start) (id from total : ℕ) (me : Knows) → from < total → me ≡ seat_of start from (total - from) → Splits (Recorded start) id me.0 (other_parts me.0) (first_part me.0)
may_deal start id from total me low is =
    subst (λ (m : Knows). Splits (Recorded start) id m.0 (other_parts m.0) (first_part m.0)) (sym (is ∙ ap (λ (ps : List Part). (record { start = start; parts = ps }, [])) (fresh_more from total low)))
    (may_split start id start (record { thread = from; steps = [] }) (fresh (from + 1) (total - (from + 1)))
    (All-weaker (λ (q : Part). (from + 1 ≤ q.thread) × (q.steps ≡ [])) (λ (q : Part). q.thread ≢ from) (λ q h same. let l = h.0 in omega arith) (fresh (from + 1) (total - (from + 1))) (fresh_parts (from + 1) (total - (from + 1)))))

-- the numbers of a seat go to another
module _ (start : Start) (s : State (Unit {0}) View) (list : List WordStep) (cells : List Cell) (holder : ℕ → ℕ) (kept : IsKept start s list cells holder)
    (id : ℕ) (v : View) (other : ℕ) (w : View) (at : get_elem? s.views id ≡ some v) (ne : other ≢ id) (there : get_elem? (slice_set s.views id (joined v w)) other ≡ some w) where
  abbrev holder_joined : ℕ → ℕ
  holder_joined t = cond (eqb (holder t) other) id (holder t)

  gone : (t : ℕ) → holder t ≡ other → holder_joined t ≡ id
  gone t q = cond-true (eqb (holder t) other) id (holder t) (eq-eqb (holder t) other q)

  kept_by : (t j : ℕ) → j ≢ other → holder t ≡ j → holder_joined t ≡ j
  kept_by t j n q = cond-false (eqb (holder t) other) id (holder t) (ne_eqb (holder t) other (λ e. n (sym q ∙ e))) ∙ q

  theirs : All (FitsPart list holder other) w.parts
  theirs = ⊎_elim (λ (r : (other ≡ id) × (joined v w ≡ w)). absurd (ne r.0)) (λ (r : (other ≢ id) × (get_elem? s.views other ≡ some w)). kept.known other w r.1) (at_set s.views id other (joined v w) w there)

  known_joined : (j : ℕ) (u : View) → get_elem? (slice_set (slice_set s.views id (joined v w)) other spent) j ≡ some u → All (FitsPart list holder_joined j) u.parts
  known_joined j u in_all = ⊎_elim
      (λ (r : (j ≡ other) × (spent ≡ u)). subst (λ (z : View). All (FitsPart list holder_joined j) z.parts) r.1 (All-nil (FitsPart list holder_joined j)))
      (λ (r : (j ≢ other) × (get_elem? (slice_set s.views id (joined v w)) j ≡ some u)). ⊎_elim
      (λ (o : (j ≡ id) × (joined v w ≡ u)). subst (λ (z : View). All (FitsPart list holder_joined j) z.parts) o.1
      (All-append (FitsPart list holder_joined j) v.parts w.parts
      (moved list holder holder_joined id j (λ t q. kept_by t id (λ e. ne (sym e)) q ∙ sym o.0) v.parts (kept.known id v at))
      (moved list holder holder_joined other j (λ t q. gone t q ∙ sym o.0) w.parts theirs)))
      (λ (o : (j ≢ id) × (get_elem? s.views j ≡ some u)). moved list holder holder_joined j j (λ t q. kept_by t j r.0 q) u.parts (kept.known j u o.1))
      (at_set s.views id j (joined v w) u r.1))
      (at_set (slice_set s.views id (joined v w)) other j spent u in_all)

pub may_join : (start : Start) (id : ℕ) (v : View) (other : ℕ) (w : View) → Joins (Recorded start) id v other w (joined v w) spent
may_join start id v other w s (list, cells, holder, kept) at ne there = (
  list,
  cells,
  holder_joined start s list cells holder kept id v other w at ne there,
  record {
    initial = kept.initial;
    folds = kept.folds;
    fitting = kept.fitting;
    held = kept.held;
    known = known_joined start s list cells holder kept id v other w at ne there;
  },
)

-- the new seat has the first number alone
pub dealt_one : (start : Start) (from total : ℕ) (me new : Knows) → from < total → me ≡ seat_of start from (total - from) → new ≡ (first_part me.0, []) → new ≡ alone start from []
dealt_one start from total me new low is e =
    e ∙ ap (λ (m : Knows). (first_part m.0, [])) (is ∙ ap (λ (ps : List Part). (record { start = start; parts = ps }, [])) (fresh_more from total low))

-- and the old one the others
pub dealt_rest : (start : Start) (from total : ℕ) (me after : Knows) → from < total → me ≡ seat_of start from (total - from) → after ≡ (other_parts me.0, me.1) → after ≡ seat_of start (from + 1) (total - (from + 1))
dealt_rest start from total me after low is e =
    e ∙ ap (λ (m : Knows). (other_parts m.0, m.1)) (is ∙ ap (λ (ps : List Part). (record { start = start; parts = ps }, [])) (fresh_more from total low))

-- a seat that has one number, by what it knows of the start itself
pub alone_again : (me : Knows) (start : Start) (thread : ℕ) (steps : List Step) → me ≡ alone start thread steps → me ≡ alone me.0.start thread steps
alone_again me start thread steps is = is ∙ ap (λ (m : Knows). alone m.0.start thread steps) (sym is)

-- what a seat has after it took in the number of one more hand
pub gathered_more : (me other after : Knows) (hand : Progress) (done : List Progress) → other ≡ alone hand.words.start hand.thread hand.steps → after ≡ (joined me.0 other.0, me.1) →
    All (HasPart me.0) done → All (HasPart after.0) (hand ∷ done)
gathered_more me other after hand done is joins have = All-cons (HasPart after.0) hand done new old
  where
    both : after.0.parts ≡ me.0.parts ++ (record { thread = hand.thread; steps = hand.steps }) ∷ []
    both = ap (λ (m : Knows). m.0.parts) joins ∙ ap (λ (m : Knows). me.0.parts ++ m.0.parts) is

    new : HasPart after.0 hand
    new = subst (λ (ps : List Part). Contains ps (record { thread = hand.thread; steps = hand.steps })) (sym both) (Contains-push me.0.parts (record { thread = hand.thread; steps = hand.steps }))

    old : All (HasPart after.0) done
    old = All-weaker (HasPart me.0) (HasPart after.0)
        (λ h c. subst (λ (ps : List Part). Contains ps (record { thread = h.thread; steps = h.steps })) (sym both) (Contains-append_left me.0.parts ((record { thread = hand.thread; steps = hand.steps }) ∷ []) (record { thread = h.thread; steps = h.steps }) c)) done have

-- one more hand that was dealt
pub one_more_hand : (words : SharedWords) (n number total : ℕ) (hands after : List Progress) (seat_words : SharedWords) (hand : Progress) → hands ≡ map (new_hand words) (range_with_len 0 n) → hand ≡ new_hand seat_words number →
    seat_words ≡ words → number ≡ n → n + 1 ≡ total → after ≡ hands ++ hand ∷ [] → after ≡ map (new_hand words) (range_with_len 0 total)
one_more_hand words n number total hands after seat_words hand dealt is same at count more =
    more ∙ (λ i. dealt i ++ (is ∙ (λ j. new_hand (same j) (at j))) i ∷ []) ∙ sym (map-range_with_len_more (new_hand words) 0 n n (zero-add n)) ∙ ap (λ (k : ℕ). map (new_hand words) (range_with_len 0 k)) count
