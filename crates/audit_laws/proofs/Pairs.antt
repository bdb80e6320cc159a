-- Placings by pairs of writes.
use Rattle.std.proofs.Common.{◌≡◌, ℕ, ◌<◌, ◌≤◌, List, refl, sym, ◌∙◌, ap, subst, arith, inl, inr, ◌⊎◌}
use Rattle.std.specs.Prelude.{◌≢◌, ◌↔◌, Some, None}
use Rattle.std.proofs.lemmas.Bool.{cases_lt}
use Rattle.replay_model.specs.Steps.{Event, Tag, Step}
use Rattle.replay_model.specs.declared.Entry.{Entry}
use Rattle.replay_model.specs.Threads.{Threads}
use Rattle.replay_model.specs.Logs.{Log, HasEntry, last_event}
use Rattle.replay_model.specs.RunLogs.{Tallies}
use Rattle.replay_model.specs.Orders.{place}
use Rattle.replay_model.specs.Fitting.{HasWritten, Fits}
use Rattle.replay_laws.proofs.Places.{place-contains, same_place}
use Rattle.replay_laws.proofs.Skip.{Told, IsOutside, same_word}
use Rattle.replay_laws.proofs.Told.{told_by_fit}
use Rattle.audit_laws.specs.Placings.{Places}
use Rattle.audit_laws.specs.Pairs.{ComesFirst, PlacesByPairs}

module _ (threads : Threads) (tallies : Tallies) (initial : List ℕ) (log : Log) (runs : List (List Step)) (order : List Event) (fits : Fits threads tallies initial log runs) where
  told : Told initial log runs
  told = told_by_fit threads tallies initial log runs fits

  -- in a placing, of two writes to a word the one that stands earlier stands before the other with all its reads
  before : Places log runs order → (word v w : ℕ) (x y : Event) → HasWritten runs x word v → HasWritten runs y word w → place order x < place order y → ComesFirst log order x y
  before places word v w x y hx hy l = record { before = l; reads = λ t a h q. over t a h q (places.apart t a y w h (to_word t a h q) (other t a q)) }
    where
      to_word : (t : ℕ) (a : Entry) → HasEntry log t a → a.source ≡ Some x → HasWritten runs y a.word w
      to_word t a h q = let (u, hu) = told.sources t a x h q in subst (λ (k : ℕ). HasWritten runs y k w) (same_word runs x word a.word v u hx hu) hy

      other : (t : ℕ) (a : Entry) → a.source ≡ Some x → a.source ≢ Some y
      other t a q r = let e : Some x ≡ Some y = sym q ∙ r in let same : x ≡ y = cc e in let p = ap (place order) same in omega (arith, p, l)

      over : (t : ℕ) (a : Entry) → HasEntry log t a → a.source ≡ Some x → IsOutside order t a y → place order (last_event t a) ≤ place order y
      over t a h q (inl m) = m
      over t a h q (inr (s, r, m)) = absurd (let e : Some s ≡ Some x = sym r ∙ q in let same : s ≡ x = cc e in let p = ap (place order) same in omega (arith, p, l, m))

  by_pairs : Places log runs order → PlacesByPairs log runs order
  by_pairs places = record {
    all = places.all;
    only = places.only;
    once = places.once;
    rising = places.rising;
    source_first = places.source_first;
    from_initial = λ t a w v h hw q. over t a w q (places.apart t a w v h hw (λ r. let no : None ≡ Some w = sym q ∙ r in cc no));
    pairs = λ word v w x y hx hy ne read. go word v w x y hx hy ne (cases_lt (place order x) (place order y));
    final = places.final;
  }
    where
      over : (t : ℕ) (a : Entry) (w : Event) → a.source ≡ None → IsOutside order t a w → place order (last_event t a) ≤ place order w
      over t a w q (inl l) = l
      over t a w q (inr (s, r, l)) = let no : None ≡ Some s = sym q ∙ r in cc no

      go : (word v w : ℕ) (x y : Event) → HasWritten runs x word v → HasWritten runs y word w → x ≢ y → (place order x < place order y) ⊎ (place order y ≤ place order x) →
          ComesFirst log order x y ⊎ ComesFirst log order y x
      go word v w x y hx hy ne (inl l) = inl (before places word v w x y hx hy l)
      go word v w x y hx hy ne (inr l) = inr (before places word w v y x hy hx (strict (cases_lt (place order y) (place order x))))
        where
          strict : (place order y < place order x) ⊎ (place order x ≤ place order y) → place order y < place order x
          strict (inl m) = m
          strict (inr m) = absurd (ne (same_place order x y (omega arith) (place-contains order x (places.all x (inr (word, v, hx))))))

  by_places : PlacesByPairs log runs order → Places log runs order
  by_places pairs = record {
    all = pairs.all;
    only = pairs.only;
    once = pairs.once;
    rising = pairs.rising;
    source_first = pairs.source_first;
    apart = λ t a w v h hw ne. apart t a w v h hw ne a.source refl;
    final = pairs.final;
  }
    where
      apart : (t : ℕ) (a : Entry) (w : Event) (v : ℕ) → HasEntry log t a → HasWritten runs w a.word v → a.source ≢ Some w → (tag : Tag) → a.source ≡ tag → IsOutside order t a w
      apart t a w v h hw ne None q = inl (pairs.from_initial t a w v h hw q)
      apart t a w v h hw ne (Some s) q = let (u, hs) = told.sources t a s h q in go (pairs.pairs a.word u v s w hs hw (λ e. ne (q ∙ ap Some e)) (inl (t, a, h, q)))
        where
          go : ComesFirst log order s w ⊎ ComesFirst log order w s → IsOutside order t a w
          go (inl b) = inl (b.reads t a h q)
          go (inr b) = inr (s, q, b.before)

  pub places_pairs : Places log runs order ↔ PlacesByPairs log runs order
  places_pairs = (by_pairs, by_places)
