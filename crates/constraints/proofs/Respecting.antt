-- An order respects a log exactly where it has each event once, and the places of the events keep the log's rules.
use Rattle.std.proofs.Common.{◌≡◌, ℕ, ◌<◌, ◌≤◌, true, false, List, refl, sym, ◌∙◌, ap, subst, arith, inl, inr, ◌⊎◌}
use Rattle.std.specs.Prelude.{◌≢◌, Contains, not, Some, None}
use Rattle.std.specs.List.{list_any}
use Rattle.std.proofs.lemmas.Bool.{cases_order, and_parts, and_from, not-true, not_from_false, false_from_ne_true, both_ways}
use Rattle.std.proofs.lemmas.List.{get_or_default}
use Rattle.std.proofs.lemmas.List.Elements.{Contains-get_or}
use Rattle.light_base.specs.declared.tag.Event.{Event}
use Rattle.light_base.specs.declared.tag.Tag.{Tag}
use Rattle.replay_model.specs.declared.Entry.{Entry}
use Rattle.replay_model.specs.Steps.{same_tag}
use Rattle.replay_model.specs.Logs.{ThreadLog, Log, no_thread, thread_of, HasEntry, last_tag, last_event}
use Rattle.replay_model.specs.Events.{IsEvent}
use Rattle.replay_model.specs.WellFormed.{IsWellFormed}
use Rattle.replay_model.specs.Orders.{place, Respects}
use Rattle.replay_model.proofs.Tags.{same_tag-true, any-element, element-any}
use Rattle.replay_laws.proofs.Places.{entry_thread, place-contains, same_place}
use Rattle.plain_search.specs.Searches.{Solves}
use Rattle.constraints.specs.Constraints.{problem_of_log, is_never_over, impossible}
use Rattle.constraints.specs.Laws.{IsOrdering, places_in, RespectsIsSolving}
use Rattle.constraints.proofs.Listed.{entry_is, in_list, event-position}
use Rattle.constraints.proofs.Sources.{last_in}
use Rattle.constraints.proofs.Keeping.{IsUpTo, Keeps, keeps_along}
use Rattle.constraints.proofs.Solving.{rank_at, solves-keeps, keeps-solves}

-- the log is impossible exactly where some entry of another source is of a word whose last tag is initial
pub impossible-entry : (log : Log) → impossible log ≡ true → (t : ℕ) × (a : Entry) × HasEntry log t a × (last_tag log a.word ≡ None) × (a.source ≢ None)
unfolding impossible
impossible-entry log h =
    let (thread, (t, l, at), k) = any-element (λ (thread : ThreadLog). list_any (is_never_over log) thread.entries) log.threads h in
    let (a, c, m) = any-element (is_never_over log) thread.entries k in
    let s : thread_of log t ≡ thread = get_or_default log.threads t no_thread thread l ∙ at in
    let (p, q) = and_parts (same_tag (last_tag log a.word) None) (not (same_tag a.source None)) m in (
      t,
      a,
      subst (λ (x : ThreadLog). Contains x.entries a) (sym s) c,
      same_tag-true (last_tag log a.word) None p,
      λ e. both_ways _ (not-true (same_tag a.source None) q) (let P : Tag → Type 0 = λ x. same_tag x None ≡ true in subst P (sym e) refl),
    )

pub entry-impossible : (log : Log) (t : ℕ) (a : Entry) → HasEntry log t a → last_tag log a.word ≡ None → a.source ≢ None → impossible log ≡ true
unfolding impossible
entry-impossible log t a c q n =
    let l = entry_thread log t a c in
    element-any (λ (thread : ThreadLog). list_any (is_never_over log) thread.entries) log.threads (thread_of log t) (Contains-get_or log.threads t no_thread l)
    (element-any (is_never_over log) (thread_of log t).entries a c
    (and_from (same_tag (last_tag log a.word) None) (not (same_tag a.source None)) (let P : Tag → Type 0 = λ x. same_tag x None ≡ true in subst P (sym q) refl)
    (not_from_false (same_tag a.source None) (false_from_ne_true _ (λ t. n (same_tag-true a.source None t))))))

-- a last tag is an event
pub last_tag_in : (log : Log) → IsWellFormed log → (t : ℕ) (a : Entry) (z : Event) → HasEntry log t a → last_tag log a.word ≡ Some z → IsEvent log z
last_tag_in log formed t a z c q = inl (inr (a.word, (entry_is log formed t a c).word, get_or_default log.last_tags a.word (Some z) None (entry_is log formed t a c).word ∙ q))

up_to : (order : List Event) (a b : Event) → Contains order a → place order a ≤ place order b → IsUpTo (place order) a b
up_to order a b c l = go (cases_order (place order a) (place order b))
  where
    go : (place order a ≡ place order b) ⊎ ((place order a < place order b) ⊎ (place order b < place order a)) → IsUpTo (place order) a b
    go (inl e) = inl (same_place order a b e (place-contains order a c))
    go (inr (inl m)) = inr m
    go (inr (inr m)) = absurd (omega (arith, l, m))

no_later : (order : List Event) (a b : Event) → IsUpTo (place order) a b → place order a ≤ place order b
no_later order a b (inl e) = let q = ap (place order) e in omega (arith, q)
no_later order a b (inr l) = omega (arith, l)

one_event : (a b : Event) → Some a ≡ Some b → a ≡ b
one_event a b h = cc

pub respects-keeps : (log : Log) (order : List Event) → Respects log order → Keeps log (place order)
respects-keeps log order r = record {
  rising = λ a b ea eb s l. r.rising a b (r.all a ea) (r.all b eb) s l;
  source_first = r.source_first;
  apart = λ t u a b x y c d w p q n. two (r.all (last_event t a) (last_in log t a c)) (r.all (last_event u b) (last_in log u b d)) (r.apart t u a b x y c d w p q n);
  from_initial = λ t u a b y c d w p q. up_to order (last_event t a) y (r.all (last_event t a) (last_in log t a c)) (r.from_initial t u a b y c d w p q);
  final = λ t a z c q n. final t a z c q (r.final t a c (λ e. n (e ∙ q)));
}
  where
    two : {a b c d : Event} → Contains order a → Contains order c → (place order a ≤ place order b) ⊎ (place order c ≤ place order d) → IsUpTo (place order) a b ⊎ IsUpTo (place order) c d
    two {a} {b} {c} {d} ca cc' (inl l) = inl (up_to order a b ca l)
    two {a} {b} {c} {d} ca cc' (inr l) = inr (up_to order c d cc' l)

    final : (t : ℕ) (a : Entry) (z : Event) → HasEntry log t a → last_tag log a.word ≡ Some z →
        (y : Event) × (last_tag log a.word ≡ Some y) × (place order (last_event t a) ≤ place order y) → IsUpTo (place order) (last_event t a) z
    final t a z c q (y, p, l) =
        let e : y ≡ z = one_event y z (sym p ∙ q) in
        subst (λ (x : Event). IsUpTo (place order) (last_event t a) x) e (up_to order (last_event t a) y (r.all (last_event t a) (last_in log t a c)) l)

pub respects-possible : (log : Log) (order : List Event) → Respects log order → impossible log ≡ false
respects-possible log order r = false_from_ne_true (impossible log) (λ h.
    let (t, a, c, q, n) = impossible-entry log h in
    let (y, p, l) = r.final t a c (λ e. n (e ∙ q)) in
    no y (sym q ∙ p))
  where
    no : (y : Event) → None ≡ Some y → ⊥
    no y e = cc

pub keeps-respects : (log : Log) (order : List Event) → IsOrdering log order → impossible log ≡ false → Keeps log (place order) → Respects log order
keeps-respects log order o possible k = record {
  all = o.all;
  only = o.only;
  once = o.once;
  rising = λ a b ca cb s l. k.rising a b (o.only a ca) (o.only b cb) s l;
  source_first = k.source_first;
  apart = λ t u a b x y c d w p q n. two (k.apart t u a b x y c d w p q n);
  from_initial = λ t u a b y c d w p q. no_later order (last_event t a) y (k.from_initial t u a b y c d w p q);
  final = λ t a c n. final t a c n (last_tag log a.word) refl;
}
  where
    two : {a b c d : Event} → IsUpTo (place order) a b ⊎ IsUpTo (place order) c d → (place order a ≤ place order b) ⊎ (place order c ≤ place order d)
    two {a} {b} {c} {d} (inl h) = inl (no_later order a b h)
    two {a} {b} {c} {d} (inr h) = inr (no_later order c d h)

    final : (t : ℕ) (a : Entry) → HasEntry log t a → a.source ≢ last_tag log a.word → (tag : Tag) → last_tag log a.word ≡ tag →
        (z : Event) × (last_tag log a.word ≡ Some z) × (place order (last_event t a) ≤ place order z)
    final t a c n None q = absurd (both_ways (impossible log) possible (entry-impossible log t a c q (λ e. n (e ∙ sym q))))
    final t a c n (Some z) q = (z, q, no_later order (last_event t a) z (k.final t a z c q (λ e. n (e ∙ sym q))))

-- the rank of an event by places is its place
placed : (log : Log) (order : List Event) → IsWellFormed log → (e : Event) → IsEvent log e → rank_at log (places_in log order) e ≡ place order e
placed log order formed e is = ap (place order) (event-position log e (in_list log formed e is))

pub respects_is_solving : RespectsIsSolving
respects_is_solving log order formed = (there, back)
  where
    there : Respects log order → IsOrdering log order × (impossible log ≡ false) × Solves (problem_of_log log) (places_in log order)
    there r = (
      record { all = r.all; only = r.only; once = r.once },
      respects-possible log order r,
      keeps-solves log (places_in log order) formed (keeps_along log (place order) (rank_at log (places_in log order)) formed
          (λ a b ea eb l. let p = placed log order formed a ea in let q = placed log order formed b eb in omega (arith, p, q, l)) (respects-keeps log order r)),
    )

    back : IsOrdering log order × (impossible log ≡ false) × Solves (problem_of_log log) (places_in log order) → Respects log order
    back (o, p, s) = keeps-respects log order o p (keeps_along log (rank_at log (places_in log order)) (place order) formed
        (λ a b ea eb l. let p = placed log order formed a ea in let q = placed log order formed b eb in omega (arith, p, q, l)) (solves-keeps log (places_in log order) formed s))
