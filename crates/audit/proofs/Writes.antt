-- Positions of writes and of their last reads, and which pairs there are.
use Rattle.std.proofs.Common.{◌≡◌, ℕ, ◌<◌, Bool, true, false, eqb, List, [], ◌∷◌, ◌++◌, length, map, refl, sym, ◌∙◌, ap, subst, arith, inl, inr, ◌⊎◌}
use Rattle.std.specs.Prelude.{Contains, ◌&&◌, is_some, Some, filter}
use Rattle.std.specs.List.{range_with_len}
use Rattle.std.proofs.lemmas.Bool.{cases_Bool, cond-true, cond-false, and_parts, and_from, eqb-true, eq-eqb, both_ways}
use Rattle.std.proofs.lemmas.List.{get_or_default}
use Rattle.std.proofs.lemmas.List.Elements.{Contains-get_or, Contains-append_left, Contains-append_right, Contains-append_cases, All-contains}
use Rattle.light_base.specs.declared.tag.Event.{Event}
use Rattle.light_base.specs.declared.tag.Tag.{Tag}
use Rattle.plain_search.specs.Searches.{Pair}
use Rattle.replay_model.specs.declared.Entry.{Entry}
use Rattle.replay_model.specs.Steps.{Step, same_tag}
use Rattle.replay_model.specs.Logs.{ThreadLog, Log, no_thread, thread_of, HasEntry, last_event}
use Rattle.replay_model.specs.Events.{names_source}
use Rattle.replay_model.specs.Fitting.{HasWritten}
use Rattle.replay_model.proofs.Tags.{same_tag-true, same_tag-same, any-element, element-any}
use Rattle.replay_laws.proofs.Places.{entry_thread}
use Rattle.replay_laws.proofs.Skip.{Told}
use Rattle.audit_laws.specs.Placings.{IsPlaced}
use Rattle.audit_laws.specs.Pairs.{IsRead}
use Rattle.constraints.proofs.Members.{Rising, contains_none, contains_here, contains_next, contains_cases, of_filter, in_filter, of_map, in_map, of_flat_map, in_flat_map, in_range, AllPairs-head, AllPairs-tail}
use Rattle.audit.specs.Positions.{placed_list, placed_at, position_of, positions_where}
use Rattle.order_solver.specs.Rivals.{pairs_where}
use Rattle.audit.specs.Constraints.{word_at, has_written, is_write_to, writes_to, is_read, is_last_of, last_reads_of, pair_of, one_is_read, pairs_at, pairs_of}
use Rattle.audit.proofs.Listed.{written-at, taken, position-at, at-position, position-below, placed_there, of_positions, in_positions, positions-rising}

-- a step is read exactly where some entry has it as its source
pub read-entry : (log : Log) (e : Event) → is_read log e ≡ true → IsRead log e
read-entry log e h =
    let (thread, (t, l, at), k) = any-element (names_source (Some e)) log.threads h in
    let (a, c, m) = any-element (λ (entry : Entry). same_tag entry.source (Some e)) thread.entries k in
    let s : thread_of log t ≡ thread = get_or_default log.threads t no_thread thread l ∙ at in
    (t, a, subst (λ (x : ThreadLog). Contains x.entries a) (sym s) c, same_tag-true a.source (Some e) m)

pub entry-read : (log : Log) (e : Event) → IsRead log e → is_read log e ≡ true
entry-read log e (t, a, c, q) =
    element-any (names_source (Some e)) log.threads (thread_of log t) (Contains-get_or log.threads t no_thread (entry_thread log t a c))
    (element-any (λ (entry : Entry). same_tag entry.source (Some e)) (thread_of log t).entries a c
    (let P : Tag → Type 0 = λ x. same_tag a.source x ≡ true in subst P q (same_tag-same a.source)))

-- a step is the last read of some entry of this source
pub last-entry : (log : Log) (source : Tag) (e : Event) → is_last_of log source e ≡ true → (a : Entry) × HasEntry log e.thread a × (a.source ≡ source) × (last_event e.thread a ≡ e)
last-entry log source e h =
    let (a, c, m) = any-element (λ (entry : Entry). same_tag entry.source source && eqb e.step entry.last) (thread_of log e.thread).entries h in
    let (p, q) = and_parts (same_tag a.source source) (eqb e.step a.last) m in
    let l : e.step ≡ a.last = eqb-true e.step a.last q in
    (a, c, same_tag-true a.source source p, λ i. record { thread = e.thread; step = sym l i })

pub entry-last : (log : Log) (source : Tag) (t : ℕ) (a : Entry) → HasEntry log t a → a.source ≡ source → is_last_of log source (last_event t a) ≡ true
entry-last log source t a c q =
    element-any (λ (entry : Entry). same_tag entry.source source && eqb a.last entry.last) (thread_of log t).entries a c
    (and_from (same_tag a.source source) (eqb a.last a.last) (let P : Tag → Type 0 = λ x. same_tag a.source x ≡ true in subst P q (same_tag-same a.source)) (eq-eqb a.last a.last refl))

-- each of a list with each later one that passes the test
of_where : (test : ℕ → ℕ → Bool) (f : ℕ → ℕ → Pair) (xs : List ℕ) (p : Pair) → Rising xs → Contains (pairs_where test f xs) p →
    (s : ℕ) × (t : ℕ) × Contains xs s × Contains xs t × (s < t) × (test s t ≡ true) × (f s t ≡ p)
of_where test f [] p r c = absurd (contains_none p c)
of_where test f (x ∷ xs) p r c =
    go (of_where test f xs p (AllPairs-tail (λ a b. a < b) x xs r)) (Contains-append_cases (map (f x) (filter (test x) xs)) (pairs_where test f xs) p c)
  where
    go : (Contains (pairs_where test f xs) p → (s : ℕ) × (t : ℕ) × Contains xs s × Contains xs t × (s < t) × (test s t ≡ true) × (f s t ≡ p)) →
        Contains (map (f x) (filter (test x) xs)) p ⊎ Contains (pairs_where test f xs) p →
        (s : ℕ) × (t : ℕ) × Contains (x ∷ xs) s × Contains (x ∷ xs) t × (s < t) × (test s t ≡ true) × (f s t ≡ p)
    go ih (inl m) =
        let (t, d, e) = of_map (f x) (filter (test x) xs) p m in
        let (k, h) = of_filter (test x) xs t d in
        (x, t, contains_here x xs, contains_next x xs t k, All-contains (λ b. x < b) xs t (AllPairs-head (λ a b. a < b) x xs r) k, h, e)
    go ih (inr m) = let (s, t, d, e, l, h, q) = ih m in (s, t, contains_next x xs s d, contains_next x xs t e, l, h, q)

in_where : (test : ℕ → ℕ → Bool) (f : ℕ → ℕ → Pair) (xs : List ℕ) (s t : ℕ) → Rising xs → Contains xs s → Contains xs t → s < t → test s t ≡ true → Contains (pairs_where test f xs) (f s t)
in_where test f [] s t r c d l h = absurd (contains_none s c)
in_where test f (x ∷ xs) s t r c d l h = go (in_where test f xs s t (AllPairs-tail (λ a b. a < b) x xs r)) (contains_cases x xs s c) (contains_cases x xs t d)
  where
    above : (n : ℕ) → Contains xs n → x < n
    above n m = All-contains (λ b. x < b) xs n (AllPairs-head (λ a b. a < b) x xs r) m

    go : (Contains xs s → Contains xs t → s < t → test s t ≡ true → Contains (pairs_where test f xs) (f s t)) → (x ≡ s) ⊎ Contains xs s → (x ≡ t) ⊎ Contains xs t →
        Contains (map (f x) (filter (test x) xs) ++ pairs_where test f xs) (f s t)
    go ih (inl e) (inl q) = absurd (omega (arith, l, e, q))
    go ih (inl e) (inr m) =
        let P : ℕ → Type 0 = λ k. test k t ≡ true → Contains (map (f x) (filter (test x) xs) ++ pairs_where test f xs) (f k t) in
        subst P e (λ g. Contains-append_left (map (f x) (filter (test x) xs)) (pairs_where test f xs) (f x t) (in_map (f x) (filter (test x) xs) t (in_filter (test x) xs t m g))) h
    go ih (inr m) (inl q) = let k = above s m in absurd (omega (arith, l, k, q))
    go ih (inr m) (inr k) = Contains-append_right (map (f x) (filter (test x) xs)) (pairs_where test f xs) (f s t) (ih m k l h)

module _ (initial : List ℕ) (log : Log) (runs : List (List Step)) (told : Told initial log runs) (counted : length log.threads ≡ length runs) where
  -- a position among a word's writes is that of a step that wrote it
  pub of_writes : (word s : ℕ) → Contains (writes_to log runs word) s → (s < length (placed_list log runs)) × (v : ℕ) × HasWritten runs (placed_at log runs s) word v
  unfolding writes_to
  of_writes word s c =
      let (l, h) = of_positions log runs (is_write_to runs word) s c in
      let (p, q) = and_parts (eqb (word_at runs (placed_at log runs s)) word) (has_written runs (placed_at log runs s)) h in
      let (lo, hi) = taken initial log runs told counted (placed_at log runs s) (placed_there initial log runs told counted s l) in
      let (v, hw) = written-at runs (placed_at log runs s) lo hi q in
      (l, v, subst (λ (x : ℕ). HasWritten runs (placed_at log runs s) x v) (eqb-true (word_at runs (placed_at log runs s)) word p) hw)

  pub in_writes : (word v : ℕ) (e : Event) → HasWritten runs e word v → Contains (writes_to log runs word) (position_of log runs e)
  unfolding writes_to
  in_writes word v e hw = in_positions log runs (is_write_to runs word) (position_of log runs e) (position-below initial log runs told counted e (inr (word, v, hw)))
      (subst (λ (x : Event). is_write_to runs word x ≡ true) (sym (at-position initial log runs told counted e (inr (word, v, hw))))
      (and_from (eqb (word_at runs e) word) (has_written runs e) (eq-eqb (word_at runs e) word hw.to) (ap is_some hw.wrote)))

  pub writes-rising : (word : ℕ) → Rising (writes_to log runs word)
  unfolding writes_to
  writes-rising word = positions-rising log runs (is_write_to runs word)

  -- a last read of a write is that of an entry of which it is the source, or the write itself, where nobody read it
  pub of_last_reads : (s p : ℕ) → s < length (placed_list log runs) → Contains (last_reads_of log runs s) p →
      ((t : ℕ) × (a : Entry) × HasEntry log t a × (a.source ≡ Some (placed_at log runs s)) × (p ≡ position_of log runs (last_event t a))) ⊎
      ((p ≡ s) × (IsRead log (placed_at log runs s) → ⊥))
  unfolding last_reads_of
  of_last_reads s p l c = go (cases_Bool (is_read log (placed_at log runs s)))
    where
      go : (is_read log (placed_at log runs s) ≡ true) ⊎ (is_read log (placed_at log runs s) ≡ false) →
          ((t : ℕ) × (a : Entry) × HasEntry log t a × (a.source ≡ Some (placed_at log runs s)) × (p ≡ position_of log runs (last_event t a))) ⊎
          ((p ≡ s) × (IsRead log (placed_at log runs s) → ⊥))
      go (inl r) =
          let d = subst (λ (x : List ℕ). Contains x p) (cond-true (is_read log (placed_at log runs s)) (positions_where log runs (is_last_of log (Some (placed_at log runs s)))) (s ∷ []) r) c in
          let (m, h) = of_positions log runs (is_last_of log (Some (placed_at log runs s))) p d in
          let (a, e, q, k) = last-entry log (Some (placed_at log runs s)) (placed_at log runs p) h in
          inl ((placed_at log runs p).thread, a, e, q, sym (position-at initial log runs told counted p m) ∙ ap (position_of log runs) (sym k))
      go (inr r) =
          let d = subst (λ (x : List ℕ). Contains x p) (cond-false (is_read log (placed_at log runs s)) (positions_where log runs (is_last_of log (Some (placed_at log runs s)))) (s ∷ []) r) c in
          inr (one (contains_cases s [] p d), λ some. both_ways _ r (entry-read log (placed_at log runs s) some))
        where
          one : (s ≡ p) ⊎ Contains [] p → p ≡ s
          one (inl e) = sym e
          one (inr k) = absurd (contains_none p k)

  pub in_last_reads : (s t : ℕ) (a : Entry) → HasEntry log t a → a.source ≡ Some (placed_at log runs s) → Contains (last_reads_of log runs s) (position_of log runs (last_event t a))
  unfolding last_reads_of
  in_last_reads s t a c q =
      let is : IsPlaced log runs (last_event t a) = inl (inr (t, a, c, inr refl)) in
      let m = in_positions log runs (is_last_of log (Some (placed_at log runs s))) (position_of log runs (last_event t a)) (position-below initial log runs told counted (last_event t a) is)
      (subst (λ (x : Event). is_last_of log (Some (placed_at log runs s)) x ≡ true) (sym (at-position initial log runs told counted (last_event t a) is)) (entry-last log (Some (placed_at log runs s)) t a c q)) in
      subst (λ (x : List ℕ). Contains x (position_of log runs (last_event t a)))
      (sym (cond-true (is_read log (placed_at log runs s)) (positions_where log runs (is_last_of log (Some (placed_at log runs s)))) (s ∷ []) (entry-read log (placed_at log runs s) (t, a, c, q)))) m

  pub unread_last : (s : ℕ) → is_read log (placed_at log runs s) ≡ false → Contains (last_reads_of log runs s) s
  unfolding last_reads_of
  unread_last s r = subst (λ (x : List ℕ). Contains x s)
      (sym (cond-false (is_read log (placed_at log runs s)) (positions_where log runs (is_last_of log (Some (placed_at log runs s)))) (s ∷ []) r)) (contains_here s [])

  -- a pair is of two writes to a word, one of which was read
  pub of_pairs : (p : Pair) → Contains (pairs_of log runs) p →
      (word : ℕ) × (s : ℕ) × (t : ℕ) × Contains (writes_to log runs word) s × Contains (writes_to log runs word) t × (s < t) × (one_is_read log runs s t ≡ true) × (pair_of log runs s t ≡ p)
  unfolding pairs_of
  of_pairs p c =
      let (word, m, d) = of_flat_map (pairs_at log runs) (range_with_len 0 (length log.last_tags)) p c in
      let (s, t, a, b, l, h, q) = of_where (one_is_read log runs) (pair_of log runs) (writes_to log runs word) p (writes-rising word) d in
      (word, s, t, a, b, l, h, q)

  pub in_pairs : (word s t : ℕ) → word < length log.last_tags → Contains (writes_to log runs word) s → Contains (writes_to log runs word) t → s < t → one_is_read log runs s t ≡ true →
      Contains (pairs_of log runs) (pair_of log runs s t)
  unfolding pairs_of
  in_pairs word s t w c d l h =
      in_flat_map (pairs_at log runs) (range_with_len 0 (length log.last_tags)) word (pair_of log runs s t) (in_range 0 (length log.last_tags) word (omega arith) (omega (arith, w)))
      (in_where (one_is_read log runs) (pair_of log runs) (writes_to log runs word) s t (writes-rising word) c d l h)
