-- Ranks of steps that keep the rules of placings: the middle between placings and rankings that solve their problem.
use Rattle.std.proofs.Common.{◌≡◌, ℕ, ◌<◌, ◌≤◌, true, false, List, length, refl, sym, ◌∙◌, ap, subst, arith, inl, inr, ◌⊎◌}
use Rattle.std.specs.Prelude.{◌≢◌, is_some, Some, None}
use Rattle.std.proofs.lemmas.Bool.{cases_Bool, cases_lt, cases_order, and_parts, and_from, both_ways}
use Rattle.std.proofs.lemmas.List.{get_or_past, get_or_default}
use Rattle.light_base.specs.declared.tag.Event.{Event}
use Rattle.light_base.specs.declared.tag.Tag.{Tag}
use Rattle.replay_model.specs.declared.Entry.{Entry}
use Rattle.replay_model.specs.Steps.{Step, same_tag}
use Rattle.replay_model.specs.Threads.{Threads}
use Rattle.replay_model.specs.Logs.{Log, HasEntry, last_tag, first_event, last_event}
use Rattle.replay_model.specs.RunLogs.{Tallies}
use Rattle.replay_model.specs.Orders.{place}
use Rattle.replay_model.specs.Fitting.{HasWritten, Fits}
use Rattle.replay_model.proofs.RunLogs.{logged_threads}
use Rattle.replay_model.proofs.Tags.{same_tag-true, any-element, element-any}
use Rattle.replay_laws.proofs.Places.{place-contains, same_place}
use Rattle.replay_laws.proofs.Skip.{Told, IsOutside}
use Rattle.replay_laws.proofs.Told.{told_by_fit}
use Rattle.audit_laws.specs.Placings.{IsPlaced, Places}
use Rattle.audit_laws.specs.Pairs.{IsRead, ComesFirst, PlacesByPairs}
use Rattle.audit_laws.proofs.Pairs.{places_pairs}
use Rattle.constraints.proofs.Keeping.{IsUpTo}
use Rattle.audit.specs.Positions.{placed_list}
use Rattle.audit.specs.Constraints.{word_at, has_written, is_read, is_never_last, impossible}
use Rattle.audit.specs.PlacingLaws.{HasEachOnce}
use Rattle.audit.proofs.Listed.{taken, written-at, of_list, in_list}
use Rattle.audit.proofs.Writes.{read-entry, entry-read}

-- the last reads of a write rank up to another one; where nobody read it, it does itself
pub record ComesUpTo (log : Log) (at : Event → ℕ) (x y : Event) : Type 0 where
  pub reads : (t : ℕ) (a : Entry) → HasEntry log t a → a.source ≡ Some x → IsUpTo at (last_event t a) y
  pub unread : (IsRead log x → ⊥) → IsUpTo at x y

-- steps of a thread rank by their numbers, a source below the first read of it; last reads of initial contents up to each write of the word; of two writes
-- to a word, one of which was read, one comes up to the other; last reads of other writes rank up to the last tag, and so do the writes
pub record Keeps (log : Log) (runs : List (List Step)) (at : Event → ℕ) : Type 0 where
  pub rising : (a b : Event) → IsPlaced log runs a → IsPlaced log runs b → a.thread ≡ b.thread → a.step < b.step → at a < at b
  pub source_first : (t : ℕ) (a : Entry) (source : Event) → HasEntry log t a → a.source ≡ Some source → at source < at (first_event t a)
  pub from_initial : (t : ℕ) (a : Entry) (write : Event) (v : ℕ) → HasEntry log t a → HasWritten runs write a.word v → a.source ≡ None → IsUpTo at (last_event t a) write
  pub pairs : (word v w : ℕ) (x y : Event) → HasWritten runs x word v → HasWritten runs y word w → x ≢ y → IsRead log x ⊎ IsRead log y → ComesUpTo log at x y ⊎ ComesUpTo log at y x
  pub last_read : (t : ℕ) (a : Entry) (z : Event) → HasEntry log t a → last_tag log a.word ≡ Some z → a.source ≢ Some z → IsUpTo at (last_event t a) z
  pub final : (word v : ℕ) (write z : Event) → HasWritten runs write word v → last_tag log word ≡ Some z → IsUpTo at write z

-- a word with a last tag that is not initial is one of the log's
pub last_inside : (log : Log) (word : ℕ) (z : Event) → last_tag log word ≡ Some z → word < length log.last_tags
last_inside log word z q = go (cases_lt word (length log.last_tags))
  where
    go : (word < length log.last_tags) ⊎ (length log.last_tags ≤ word) → word < length log.last_tags
    go (inl l) = l
    go (inr l) = let no : None ≡ Some z = sym (get_or_past log.last_tags word None l) ∙ q in cc no

-- the events of an entry, and a last tag, have a place
pub source_placed : (log : Log) (runs : List (List Step)) (t : ℕ) (a : Entry) (e : Event) → HasEntry log t a → a.source ≡ Some e → IsPlaced log runs e
source_placed log runs t a e c q = inl (inl (inl (t, a, c, q)))

pub first_placed : (log : Log) (runs : List (List Step)) (t : ℕ) (a : Entry) → HasEntry log t a → IsPlaced log runs (first_event t a)
first_placed log runs t a c = inl (inr (t, a, c, inl refl))

pub last_placed : (log : Log) (runs : List (List Step)) (t : ℕ) (a : Entry) → HasEntry log t a → IsPlaced log runs (last_event t a)
last_placed log runs t a c = inl (inr (t, a, c, inr refl))

pub tag_placed : (log : Log) (runs : List (List Step)) (word : ℕ) (z : Event) → last_tag log word ≡ Some z → IsPlaced log runs z
tag_placed log runs word z q = let l = last_inside log word z q in inl (inl (inr (word, l, get_or_default log.last_tags word (Some z) None l ∙ q)))

one_event : (a b : Event) → Some a ≡ Some b → a ≡ b
one_event a b h = cc

module _ (threads : Threads) (tallies : Tallies) (initial : List ℕ) (log : Log) (runs : List (List Step)) (fits : Fits threads tallies initial log runs) where
  pub told : Told initial log runs
  told = told_by_fit threads tallies initial log runs fits

  pub counted : length log.threads ≡ length runs
  counted = logged_threads threads tallies log runs fits.logs

  -- some step wrote a word whose last tag is initial
  pub never-last : impossible log runs ≡ true → (e : Event) × (word : ℕ) × (v : ℕ) × HasWritten runs e word v × (last_tag log word ≡ None)
  unfolding impossible
  never-last h =
      let (e, c, m) = any-element (is_never_last log runs) (placed_list log runs) h in
      let (p, q) = and_parts (has_written runs e) (same_tag (last_tag log (word_at runs e)) None) m in
      let (lo, hi) = taken initial log runs told counted e (of_list initial log runs told counted e c) in
      let (v, hw) = written-at runs e lo hi p in
      (e, word_at runs e, v, hw, same_tag-true (last_tag log (word_at runs e)) None q)

  pub last-never : (e : Event) (word v : ℕ) → HasWritten runs e word v → last_tag log word ≡ None → impossible log runs ≡ true
  unfolding impossible
  last-never e word v hw q = element-any (is_never_last log runs) (placed_list log runs) e (in_list initial log runs told counted e (inr (word, v, hw)))
      (and_from (has_written runs e) (same_tag (last_tag log (word_at runs e)) None) (ap is_some hw.wrote)
      (let P : ℕ → Type 0 = λ w. same_tag (last_tag log w) None ≡ true in
      let R : Tag → Type 0 = λ x. same_tag x None ≡ true in
      let r : R (last_tag log word) = subst R (sym q) refl in subst P (sym hw.to) r))

  module _ (order : List Event) (at : Event → ℕ) (same : (e : Event) → IsPlaced log runs e → at e ≡ place order e) where
    lower : (a b : Event) → IsPlaced log runs a → IsPlaced log runs b → place order a < place order b → at a < at b
    lower a b pa pb l = let p = same a pa in let q = same b pb in omega (arith, p, q, l)

    earlier : (a b : Event) → IsPlaced log runs a → IsPlaced log runs b → at a < at b → place order a < place order b
    earlier a b pa pb l = let p = same a pa in let q = same b pb in omega (arith, p, q, l)

    no_later : (a b : Event) → IsPlaced log runs a → IsPlaced log runs b → IsUpTo at a b → place order a ≤ place order b
    no_later a b pa pb (inl e) = let q = ap (place order) e in omega (arith, q)
    no_later a b pa pb (inr l) = let m = earlier a b pa pb l in omega (arith, m)

    module _ (places : Places log runs order) where
      up_to : (a b : Event) → IsPlaced log runs a → IsPlaced log runs b → place order a ≤ place order b → IsUpTo at a b
      up_to a b pa pb l = go (cases_order (place order a) (place order b))
        where
          go : (place order a ≡ place order b) ⊎ ((place order a < place order b) ⊎ (place order b < place order a)) → IsUpTo at a b
          go (inl e) = inl (same_place order a b e (place-contains order a (places.all a pa)))
          go (inr (inl m)) = inr (lower a b pa pb m)
          go (inr (inr m)) = absurd (omega (arith, l, m))

      final_up_to : (word v : ℕ) (w z : Event) → HasWritten runs w word v → last_tag log word ≡ Some z → place order w ≤ place order z
      final_up_to word v w z hw q =
          let (x, p, l) = places.final word v w hw in
          subst (λ (e : Event). place order w ≤ place order e) (one_event x z (sym p ∙ q)) l

      -- a placing keeps the rules
      pub places-keeps : Keeps log runs at
      places-keeps = record {
        rising = λ a b pa pb s l. lower a b pa pb (places.rising a b (places.all a pa) (places.all b pb) s l);
        source_first = λ t a x c q. lower x (first_event t a) (source_placed log runs t a x c q) (first_placed log runs t a c) (places.source_first t a x c q);
        from_initial = λ t a w v c hw q. up_to (last_event t a) w (last_placed log runs t a c) (inr (a.word, v, hw)) (pairs.from_initial t a w v c hw q);
        pairs = λ word v w x y hx hy ne read. two word v w x y hx hy (pairs.pairs word v w x y hx hy ne read);
        last_read = λ t a z c q n.
            let (v, hz) = fits.last_tags a.word z (let l = last_inside log a.word z q in let k = fits.words in omega (arith, l, k)) q in
            last_read t a z c q (places.apart t a z v c hz n);
        final = λ word v w z hw q. up_to w z (inr (word, v, hw)) (tag_placed log runs word z q) (final_up_to word v w z hw q);
      }
        where
          pairs : PlacesByPairs log runs order
          pairs = (places_pairs threads tallies initial log runs order fits).0 places

          first : (word v w : ℕ) (x y : Event) → HasWritten runs x word v → HasWritten runs y word w → ComesFirst log order x y → ComesUpTo log at x y
          first word v w x y hx hy b = record {
            reads = λ t a c q. up_to (last_event t a) y (last_placed log runs t a c) (inr (word, w, hy)) (b.reads t a c q);
            unread = λ n. inr (lower x y (inr (word, v, hx)) (inr (word, w, hy)) b.before);
          }

          two : (word v w : ℕ) (x y : Event) → HasWritten runs x word v → HasWritten runs y word w → ComesFirst log order x y ⊎ ComesFirst log order y x → ComesUpTo log at x y ⊎ ComesUpTo log at y x
          two word v w x y hx hy (inl b) = inl (first word v w x y hx hy b)
          two word v w x y hx hy (inr b) = inr (first word w v y x hy hx b)

          last_read : (t : ℕ) (a : Entry) (z : Event) → HasEntry log t a → last_tag log a.word ≡ Some z → IsOutside order t a z → IsUpTo at (last_event t a) z
          last_read t a z c q (inl l) = up_to (last_event t a) z (last_placed log runs t a c) (tag_placed log runs a.word z q) l
          last_read t a z c q (inr (s, p, l)) =
              let (u, hs) = told.sources t a s c p in
              let m = final_up_to a.word u s z hs q in absurd (omega (arith, l, m))

    -- and an order that has each step once, and keeps them, is a placing
    pub keeps-places : HasEachOnce log runs order → impossible log runs ≡ false → Keeps log runs at → Places log runs order
    keeps-places each possible k = (places_pairs threads tallies initial log runs order fits).1 (record {
      all = each.all;
      only = each.only;
      once = each.once;
      rising = λ a b ca cb s l. earlier a b (each.only a ca) (each.only b cb) (k.rising a b (each.only a ca) (each.only b cb) s l);
      source_first = λ t a x c q. earlier x (first_event t a) (source_placed log runs t a x c q) (first_placed log runs t a c) (k.source_first t a x c q);
      from_initial = λ t a w v c hw q. no_later (last_event t a) w (last_placed log runs t a c) (inr (a.word, v, hw)) (k.from_initial t a w v c hw q);
      pairs = λ word v w x y hx hy ne read. two word v w x y hx hy ne (k.pairs word v w x y hx hy ne read);
      final = λ word v w hw. final word v w hw (last_tag log word) refl;
    })
      where
        -- an entry's first stands no later than its last
        first_last : (t : ℕ) (a : Entry) → HasEntry log t a → (a.first ≡ a.last) ⊎ ((a.first < a.last) ⊎ (a.last < a.first)) → at (first_event t a) ≤ at (last_event t a)
        first_last t a c (inl e) = let P : ℕ → Type 0 = λ n. at (first_event t a) ≤ at (record { thread = t; step = n }) in subst P e (omega arith)
        first_last t a c (inr (inl l)) = let r = k.rising (first_event t a) (last_event t a) (first_placed log runs t a c) (last_placed log runs t a c) refl l in omega (arith, r)
        first_last t a c (inr (inr l)) = absurd (let x = (told.inside t a c).1 in omega (arith, x, l))

        first : (word v w : ℕ) (x y : Event) → HasWritten runs x word v → HasWritten runs y word w → x ≢ y → ComesUpTo log at x y → ComesFirst log order x y
        first word v w x y hx hy ne b = record {
          before = earlier x y (inr (word, v, hx)) (inr (word, w, hy)) (by (cases_Bool (is_read log x)));
          reads = λ t a c q. no_later (last_event t a) y (last_placed log runs t a c) (inr (word, w, hy)) (b.reads t a c q);
        }
          where
            past : (n m : ℕ) (e : Event) → n < m → m ≤ at e → IsUpTo at e y → n < at y
            past n m e l g (inl s) = let q = ap at s in omega (arith, l, g, q)
            past n m e l g (inr h) = omega (arith, l, g, h)

            by : (is_read log x ≡ true) ⊎ (is_read log x ≡ false) → at x < at y
            by (inl r) =
                let (t, a, c, q) = read-entry log x r in
                past (at x) (at (first_event t a)) (last_event t a) (k.source_first t a x c q) (first_last t a c (cases_order a.first a.last)) (b.reads t a c q)
            by (inr r) = alone (b.unread (λ some. both_ways (is_read log x) r (entry-read log x some)))
              where
                alone : IsUpTo at x y → at x < at y
                alone (inl e) = absurd (ne e)
                alone (inr l) = l

        two : (word v w : ℕ) (x y : Event) → HasWritten runs x word v → HasWritten runs y word w → x ≢ y → ComesUpTo log at x y ⊎ ComesUpTo log at y x → ComesFirst log order x y ⊎ ComesFirst log order y x
        two word v w x y hx hy ne (inl b) = inl (first word v w x y hx hy ne b)
        two word v w x y hx hy ne (inr b) = inr (first word w v y x hy hx (λ e. ne (sym e)) b)

        final : (word v : ℕ) (w : Event) → HasWritten runs w word v → (tag : Tag) → last_tag log word ≡ tag →
            (z : Event) × (last_tag log word ≡ Some z) × (place order w ≤ place order z)
        final word v w hw None q = absurd (both_ways (impossible log runs) possible (last-never w word v hw q))
        final word v w hw (Some z) q = (z, q, no_later w z (inr (word, v, hw)) (tag_placed log runs word z q) (k.final word v w z hw q))
