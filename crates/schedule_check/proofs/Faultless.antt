-- What an order without a fault keeps, and that this is to respect the log.
use Rattle.std.proofs.Common.{◌≡◌, ℕ, zero, suc, ◌<◌, ◌≤◌, true, false, Some, None, eqb, List, [], ◌∷◌, length, get_or, refl, sym, ◌∙◌, ap, subst, arith, inl, inr, ◌⊎◌}
use Rattle.std.specs.Prelude.{◌≢◌, ◌&&◌, not, nat_lt, Contains}
use Rattle.std.proofs.lemmas.Bool.{cases_Bool, cases_lt, cases_order, both_ways, and_parts, and_from, and_cases, not-true, not_from_false, false_from_ne_true, eqb-true, eq-eqb, ltb-true, ltb-false}
use Rattle.std.proofs.lemmas.List.{get_or_default}
use Rattle.std.proofs.lemmas.List.Elements.{Contains-get_or}
use Rattle.light_base.specs.declared.tag.Event.{Event}
use Rattle.light_base.specs.declared.tag.Tag.{Tag}
use Rattle.replay_model.specs.declared.Entry.{Entry}
use Rattle.replay_model.specs.Steps.{same_event, same_tag}
use Rattle.replay_model.specs.Logs.{Log, HasEntry, last_tag, last_event}
use Rattle.replay_model.specs.Events.{IsEvent}
use Rattle.replay_model.specs.Orders.{place, Respects}
use Rattle.replay_model.specs.WellFormed.{IsWellFormed}
use Rattle.replay_model.proofs.Tags.{same_event-same, same_tag-true, same_tag-same}
use Rattle.replay_laws.proofs.Places.{place-contains, at_place, Contains-place, same_place, place_at}
use Rattle.constraints.specs.Positions.{no_event, event_list}
use Rattle.constraints.proofs.Listed.{entry_is, of_list, in_list}
use Rattle.schedule_check.specs.Faults.{entries_of, rank_of, source_rank, first_rank, last_rank, are_crossed, outlives}
use Rattle.schedule_check.specs.Turns.{at, IsInTurn}
use Rattle.schedule_check.proofs.Entries.{in_entries, of_entries}

pub record IsFaultless (log : Log) (order : List Event) : Type 0 where
  pub known : (k : ℕ) → k < length order → IsEvent log (at order k)
  pub once : (k : ℕ) → k < length order → k ≤ place order (at order k)
  pub present : (e : Event) → Contains (event_list log) e → place order e < length order
  pub in_turn : IsInTurn order (length order)
  pub timely : (x : ℕ × Entry) → Contains (entries_of log) x → source_rank order x < first_rank order x
  pub apart : (x y : ℕ × Entry) → Contains (entries_of log) x → Contains (entries_of log) y → are_crossed order x y ≡ false
  pub over : (word : ℕ) (x : ℕ × Entry) → word < length log.last_tags → Contains (entries_of log) x → outlives log order word x ≡ false

-- an event stands at its place and nowhere before
pub place-first : (order : List Event) (k : ℕ) (d : Event) → k < length order → place order (get_or order k d) ≤ k
place-first [] k d l = absurd (omega (arith, l))
place-first (e ∷ order) zero d l = rw (same_event-same e) (omega arith)
place-first (e ∷ order) (suc k) d l = go (cases_Bool (same_event e (get_or order k d))) (place-first order k d (omega (arith, l)))
  where
    go : (same_event e (get_or order k d) ≡ true) ⊎ (same_event e (get_or order k d) ≡ false) → place order (get_or order k d) ≤ k → place (e ∷ order) (get_or order k d) ≤ suc k
    go (inl t) ih = rw t (omega arith)
    go (inr t) ih = rw t (omega (arith, ih))

rank-some : (order : List Event) (a : Tag) (x : Event) → a ≡ Some x → rank_of order a ≡ suc (place order x)
rank-some order a x p = ap (rank_of order) p

-- two entries of one word with different sources that are not crossed: the last of the one stands no later than the source of the other
pub uncrossed : (order : List Event) (x y : ℕ × Entry) → are_crossed order x y ≡ false → x.1.word ≡ y.1.word → x.1.source ≢ y.1.source →
    (last_rank order x ≤ source_rank order y) ⊎ (last_rank order y ≤ source_rank order x)
uncrossed order x y h w n = last (and_cases (eqb x.1.word y.1.word && not (same_tag x.1.source y.1.source) && nat_lt (source_rank order y) (last_rank order x)) (nat_lt (source_rank order x) (last_rank order y)) h)
  where
    different : not (same_tag x.1.source y.1.source) ≡ true
    different = not_from_false (same_tag x.1.source y.1.source) (false_from_ne_true (same_tag x.1.source y.1.source) (λ t. n (same_tag-true x.1.source y.1.source t)))

    first : (eqb x.1.word y.1.word && not (same_tag x.1.source y.1.source) ≡ false) ⊎ (nat_lt (source_rank order y) (last_rank order x) ≡ false) → (last_rank order x ≤ source_rank order y) ⊎ (last_rank order y ≤ source_rank order x)
    first (inl t) = absurd (both_ways _ t (and_from (eqb x.1.word y.1.word) (not (same_tag x.1.source y.1.source)) (eq-eqb x.1.word y.1.word w) different))
    first (inr t) = inl (ltb-false (source_rank order y) (last_rank order x) t)

    last : (eqb x.1.word y.1.word && not (same_tag x.1.source y.1.source) && nat_lt (source_rank order y) (last_rank order x) ≡ false) ⊎ (nat_lt (source_rank order x) (last_rank order y) ≡ false) →
        (last_rank order x ≤ source_rank order y) ⊎ (last_rank order y ≤ source_rank order x)
    last (inl t) = first (and_cases (eqb x.1.word y.1.word && not (same_tag x.1.source y.1.source)) (nat_lt (source_rank order y) (last_rank order x)) t)
    last (inr t) = inr (ltb-false (source_rank order x) (last_rank order y) t)

-- and the other way round
pub not_crossed : (order : List Event) (x y : ℕ × Entry) → (x.1.word ≡ y.1.word → x.1.source ≢ y.1.source → (last_rank order x ≤ source_rank order y) ⊎ (last_rank order y ≤ source_rank order x)) → are_crossed order x y ≡ false
not_crossed order x y h = false_from_ne_true (are_crossed order x y) (λ t.
    let (abc, d) = and_parts (eqb x.1.word y.1.word && not (same_tag x.1.source y.1.source) && nat_lt (source_rank order y) (last_rank order x)) (nat_lt (source_rank order x) (last_rank order y)) t in
    let (ab, c) = and_parts (eqb x.1.word y.1.word && not (same_tag x.1.source y.1.source)) (nat_lt (source_rank order y) (last_rank order x)) abc in
    let (a, b) = and_parts (eqb x.1.word y.1.word) (not (same_tag x.1.source y.1.source)) ab in
    go c d (h (eqb-true x.1.word y.1.word a) (λ e. both_ways _ (not-true (same_tag x.1.source y.1.source) b) (let P : Tag → Type 0 = λ v. same_tag x.1.source v ≡ true in subst P e (same_tag-same x.1.source)))))
  where
    go : nat_lt (source_rank order y) (last_rank order x) ≡ true → nat_lt (source_rank order x) (last_rank order y) ≡ true → (last_rank order x ≤ source_rank order y) ⊎ (last_rank order y ≤ source_rank order x) → ⊥
    go c d (inl l) = let m = ltb-true (source_rank order y) (last_rank order x) c in omega (arith, l, m)
    go c d (inr l) = let m = ltb-true (source_rank order x) (last_rank order y) d in omega (arith, l, m)

-- an entry of a word with another source than the word's last tag that does not outlive it
pub not_outliving : (log : Log) (order : List Event) (word : ℕ) (x : ℕ × Entry) → outlives log order word x ≡ false → x.1.word ≡ word → x.1.source ≢ last_tag log word → last_rank order x ≤ rank_of order (last_tag log word)
not_outliving log order word x h w n = last (and_cases (eqb x.1.word word && not (same_tag x.1.source (last_tag log word))) (nat_lt (rank_of order (last_tag log word)) (last_rank order x)) h)
  where
    different : not (same_tag x.1.source (last_tag log word)) ≡ true
    different = not_from_false (same_tag x.1.source (last_tag log word)) (false_from_ne_true (same_tag x.1.source (last_tag log word)) (λ t. n (same_tag-true x.1.source (last_tag log word) t)))

    last : (eqb x.1.word word && not (same_tag x.1.source (last_tag log word)) ≡ false) ⊎ (nat_lt (rank_of order (last_tag log word)) (last_rank order x) ≡ false) → last_rank order x ≤ rank_of order (last_tag log word)
    last (inl t) = absurd (both_ways _ t (and_from (eqb x.1.word word) (not (same_tag x.1.source (last_tag log word))) (eq-eqb x.1.word word w) different))
    last (inr t) = ltb-false (rank_of order (last_tag log word)) (last_rank order x) t

pub no_outliving : (log : Log) (order : List Event) (word : ℕ) (x : ℕ × Entry) → (x.1.word ≡ word → x.1.source ≢ last_tag log word → last_rank order x ≤ rank_of order (last_tag log word)) → outlives log order word x ≡ false
no_outliving log order word x h = false_from_ne_true (outlives log order word x) (λ t.
    let (ab, c) = and_parts (eqb x.1.word word && not (same_tag x.1.source (last_tag log word))) (nat_lt (rank_of order (last_tag log word)) (last_rank order x)) t in
    let (a, b) = and_parts (eqb x.1.word word) (not (same_tag x.1.source (last_tag log word))) ab in
    let l = h (eqb-true x.1.word word a) (λ e. both_ways _ (not-true (same_tag x.1.source (last_tag log word)) b) (let P : Tag → Type 0 = λ v. same_tag x.1.source v ≡ true in subst P e (same_tag-same x.1.source))) in
    let m = ltb-true (rank_of order (last_tag log word)) (last_rank order x) c in
    omega (arith, l, m))

-- an order without a fault respects the log
pub faultless-respects : (log : Log) (order : List Event) → IsWellFormed log → IsFaultless log order → Respects log order
faultless-respects log order formed f = record {
  all = λ e i. Contains-place order e (f.present e (in_list log formed e i));
  only = λ e (k, l, h). let P : Event → Type 0 = IsEvent log in subst P (get_or_default order k no_event e l ∙ h) (f.known k l);
  once = once;
  rising = rising;
  source_first = λ t a source h q.
      let l = f.timely (t, a) (in_entries log t a h) in
      let s = rank-some order a.source source q in omega (arith, l, s);
  apart = λ t u a b x y h k w p q n.
      let s = rank-some order a.source x p in
      let r = rank-some order b.source y q in
      go_apart t u a b x y s r (uncrossed order (t, a) (u, b) (f.apart (t, a) (u, b) (in_entries log t a h) (in_entries log u b k)) w (λ e. n (one_event x y (sym p ∙ e ∙ q))));
  from_initial = λ t u a b y h k w p q.
      let s : rank_of order a.source ≡ 0 = ap (rank_of order) p in
      let r = rank-some order b.source y q in
      go_initial t u a b y s r (uncrossed order (t, a) (u, b) (f.apart (t, a) (u, b) (in_entries log t a h) (in_entries log u b k)) w (λ e. not_none y (sym p ∙ e ∙ q)));
  final = λ t a h n. final t a (last_tag log a.word) refl (not_outliving log order a.word (t, a) (f.over a.word (t, a) (entry_is log formed t a h).word (in_entries log t a h)) refl n);
}
  where
    one_event : (x y : Event) → Some x ≡ Some y → x ≡ y
    one_event x y h = cc

    not_none : (y : Event) → None ≡ Some y → ⊥
    not_none y h = cc

    once : (i j : ℕ) (d : Event) → i < j → j < length order → get_or order i d ≢ get_or order j d
    once i j d l m e =
        let a = f.once j m in
        let b = place-first order i d (omega (arith, l, m)) in
        let s : place order (get_or order i d) ≡ place order (at order j) = ap (place order) (e ∙ get_or_default order j d no_event m) in
        omega (arith, a, b, s, l)

    rising : (a b : Event) → Contains order a → Contains order b → a.thread ≡ b.thread → a.step < b.step → place order a < place order b
    rising a b c d t less = go (cases_order (place order a) (place order b))
      where
        la : place order a < length order
        la = place-contains order a c

        lb : place order b < length order
        lb = place-contains order b d

        go : (place order a ≡ place order b) ⊎ ((place order a < place order b) ⊎ (place order b < place order a)) → place order a < place order b
        go (inl e) = let s : a.step ≡ b.step = ap (λ (x : Event). x.step) (same_place order a b e la) in absurd (omega (arith, s, less))
        go (inr (inl l)) = l
        go (inr (inr l)) =
            let ea = at_place order a no_event la in
            let eb = at_place order b no_event lb in
            let s = f.in_turn (place order b) (place order a) l la (ap (λ (x : Event). x.thread) eb ∙ sym t ∙ sym (ap (λ (x : Event). x.thread) ea)) in
            let p : (at order (place order a)).step ≡ a.step = ap (λ (x : Event). x.step) ea in
            let q : (at order (place order b)).step ≡ b.step = ap (λ (x : Event). x.step) eb in
            absurd (omega (arith, s, p, q, less))

    go_apart : (t u : ℕ) (a b : Entry) (x y : Event) → rank_of order a.source ≡ suc (place order x) → rank_of order b.source ≡ suc (place order y) →
        (last_rank order (t, a) ≤ source_rank order (u, b)) ⊎ (last_rank order (u, b) ≤ source_rank order (t, a)) → (place order (last_event t a) ≤ place order y) ⊎ (place order (last_event u b) ≤ place order x)
    go_apart t u a b x y s r (inl l) = inl (omega (arith, l, r))
    go_apart t u a b x y s r (inr l) = inr (omega (arith, l, s))

    go_initial : (t u : ℕ) (a b : Entry) (y : Event) → rank_of order a.source ≡ 0 → rank_of order b.source ≡ suc (place order y) →
        (last_rank order (t, a) ≤ source_rank order (u, b)) ⊎ (last_rank order (u, b) ≤ source_rank order (t, a)) → place order (last_event t a) ≤ place order y
    go_initial t u a b y s r (inl l) = omega (arith, l, r)
    go_initial t u a b y s r (inr l) = absurd (omega (arith, l, s))

    final : (t : ℕ) (a : Entry) (tag : Tag) → last_tag log a.word ≡ tag → last_rank order (t, a) ≤ rank_of order (last_tag log a.word) →
        (z : Event) × (last_tag log a.word ≡ Some z) × (place order (last_event t a) ≤ place order z)
    final t a None e l = let s : rank_of order (last_tag log a.word) ≡ 0 = ap (rank_of order) e in absurd (omega (arith, l, s))
    final t a (Some z) e l = let s = rank-some order (last_tag log a.word) z e in (z, e, omega (arith, l, s))

-- an order that respects the log has no fault
pub respects-faultless : (log : Log) (order : List Event) → IsWellFormed log → Respects log order → IsFaultless log order
respects-faultless log order formed r = record {
  known = λ k l. r.only (at order k) (Contains-get_or order k no_event l);
  once = λ k l. let e = place_at order r.once k no_event l in omega (arith, e);
  present = λ e c. place-contains order e (r.all e (of_list log e c));
  in_turn = in_turn;
  timely = λ x c. timely x (of_entries log x c) x.1.source refl;
  apart = λ x y c d. not_crossed order x y (λ w n. apart x y (of_entries log x c) (of_entries log y d) w n x.1.source y.1.source refl refl);
  over = λ word x l c. no_outliving log order word x (λ w n. over word x (of_entries log x c) w n);
}
  where
    in_turn : IsInTurn order (length order)
    in_turn p q l m t = go (cases_lt (at order q).step (at order p).step)
      where
        go : ((at order q).step < (at order p).step) ⊎ ((at order p).step ≤ (at order q).step) → (at order p).step ≤ (at order q).step
        go (inl s) =
            let k = r.rising (at order q) (at order p) (Contains-get_or order q no_event m) (Contains-get_or order p no_event (omega (arith, l, m))) (sym t) s in
            let a = place_at order r.once q no_event m in
            let b = place_at order r.once p no_event (omega (arith, l, m)) in
            absurd (omega (arith, k, a, b, l))
        go (inr s) = s

    timely : (x : ℕ × Entry) → HasEntry log x.0 x.1 → (tag : Tag) → x.1.source ≡ tag → source_rank order x < first_rank order x
    timely x h None e = let s : rank_of order x.1.source ≡ 0 = ap (rank_of order) e in omega (arith, s)
    timely x h (Some source) e = let s = rank-some order x.1.source source e in let l = r.source_first x.0 x.1 source h e in omega (arith, s, l)

    apart : (x y : ℕ × Entry) → HasEntry log x.0 x.1 → HasEntry log y.0 y.1 → x.1.word ≡ y.1.word → x.1.source ≢ y.1.source → (a b : Tag) → x.1.source ≡ a → y.1.source ≡ b →
        (last_rank order x ≤ source_rank order y) ⊎ (last_rank order y ≤ source_rank order x)
    apart x y h k w n None None p q = absurd (n (p ∙ sym q))
    apart x y h k w n None (Some b) p q =
        let s = rank-some order y.1.source b q in
        let l = r.from_initial x.0 y.0 x.1 y.1 b h k w p q in inl (omega (arith, s, l))
    apart x y h k w n (Some a) None p q =
        let s = rank-some order x.1.source a p in
        let l = r.from_initial y.0 x.0 y.1 x.1 a k h (sym w) q p in inr (omega (arith, s, l))
    apart x y h k w n (Some a) (Some b) p q = go (r.apart x.0 y.0 x.1 y.1 a b h k w p q (λ e. n (p ∙ ap (λ (v : Event). Some v) e ∙ sym q)))
      where
        go : (place order (last_event x.0 x.1) ≤ place order b) ⊎ (place order (last_event y.0 y.1) ≤ place order a) → (last_rank order x ≤ source_rank order y) ⊎ (last_rank order y ≤ source_rank order x)
        go (inl l) = let s = rank-some order y.1.source b q in inl (omega (arith, s, l))
        go (inr l) = let s = rank-some order x.1.source a p in inr (omega (arith, s, l))

    over : (word : ℕ) (x : ℕ × Entry) → HasEntry log x.0 x.1 → x.1.word ≡ word → x.1.source ≢ last_tag log word → last_rank order x ≤ rank_of order (last_tag log word)
    over word x h w n =
        let same : last_tag log x.1.word ≡ last_tag log word = ap (last_tag log) w in
        let (z, e, l) = r.final x.0 x.1 h (λ p. n (p ∙ same)) in
        let s = rank-some order (last_tag log word) z (sym same ∙ e) in
        omega (arith, s, l)
