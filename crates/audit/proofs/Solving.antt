-- A ranking solves the problem of placings exactly where the ranks that it gives the steps keep the rules.
use Rattle.std.proofs.Common.{◌≡◌, ℕ, ◌+◌, ◌<◌, Bool, true, false, cond, List, [], ◌∷◌, length, get_or, refl, sym, ◌∙◌, ap, subst, arith, inl, inr, ◌⊎◌}
use Rattle.std.specs.Prelude.{◌≢◌, Contains, Some, None}
use Rattle.std.specs.List.{flat_map, range_with_len, AllPairs}
use Rattle.std.proofs.lemmas.Bool.{cases_Bool, cases_order, both_ways, or_cases, or_left, or_right, false_from_ne_true}
use Rattle.std.proofs.lemmas.List.{get_or_default}
use Rattle.std.proofs.lemmas.List.Elements.{All-contains, All-append, All-nil, All-cons, All-head, Contains-append_left, Contains-append_right, Contains-append_cases}
use Rattle.light_base.specs.declared.tag.Event.{Event}
use Rattle.light_base.specs.declared.tag.Tag.{Tag}
use Rattle.plain_search.specs.declared.Edge.{Edge}
use Rattle.plain_search.specs.Edges.{Holds}
use Rattle.plain_search.specs.Chains.{arrow, chains_from}
use Rattle.plain_search.specs.Searches.{Pair, HoldsOneSide, Solves}
use Rattle.replay_model.specs.declared.Entry.{Entry}
use Rattle.replay_model.specs.Steps.{Step, same_tag}
use Rattle.replay_model.specs.Logs.{Log, thread_of, HasEntry, last_tag, first_event, last_event}
use Rattle.replay_model.specs.Fitting.{HasWritten}
use Rattle.replay_model.proofs.Tags.{same_tag-true, same_tag-same}
use Rattle.replay_laws.proofs.Places.{entry_thread}
use Rattle.replay_laws.proofs.Skip.{Told}
use Rattle.audit_laws.specs.Placings.{IsPlaced}
use Rattle.audit_laws.specs.Pairs.{IsRead}
use Rattle.constraints.specs.Positions.{thread_numbers, no_event}
use Rattle.constraints.specs.Constraints.{edges_to}
use Rattle.constraints.proofs.Members.{contains_none, contains_here, contains_cases, of_flat_map, in_flat_map, in_range}
use Rattle.constraints.proofs.Listed.{Before}
use Rattle.constraints.proofs.Ranked.{Rises, NotAfter, RankedAt, All-from, Holds-split, edges_to-hold, hold-edges_to, edges_from-hold, hold-edges_from, chains-hold, hold-chains}
use Rattle.constraints.proofs.Keeping.{IsUpTo}
use Rattle.audit.specs.Positions.{placed_of_thread, placed_list, placed_counts, placed_at, position_of}
use Rattle.audit.specs.Constraints.{writes_to, is_read, last_reads_of, source_edges, last_tag_edges, entry_edges, word_edges, base_of, pair_of, one_is_read, pairs_of, placing_problem}
use Rattle.audit.proofs.Listed.{thread_below, of_thread, in_thread, thread_before, position-at, at-position, one_position}
use Rattle.audit.proofs.Writes.{read-entry, entry-read, of_writes, in_writes, of_last_reads, in_last_reads, unread_last, of_pairs, in_pairs}
use Rattle.audit.proofs.Keeping.{ComesUpTo, Keeps, last_inside, last_placed}

-- the rank of a step
abbrev pub rank_at : Log → List (List Step) → (ℕ → ℕ) → Event → ℕ
rank_at log runs rank e = rank (position_of log runs e)

-- the base edges are those of entries and of words
of_base : (log : Log) (runs : List (List Step)) (e : Edge) → Contains (base_of log runs) e →
    ((t : ℕ) × (a : Entry) × HasEntry log t a × Contains (entry_edges log runs t a) e) ⊎ ((word : ℕ) × Contains (word_edges log runs word (last_tag log word)) e)
unfolding base_of
of_base log runs e c = go (Contains-append_cases (flat_map (λ t. flat_map (entry_edges log runs t) (thread_of log t).entries) (thread_numbers log))
    (flat_map (λ word. word_edges log runs word (last_tag log word)) (range_with_len 0 (length log.last_tags))) e c)
  where
    go : Contains (flat_map (λ t. flat_map (entry_edges log runs t) (thread_of log t).entries) (thread_numbers log)) e ⊎
        Contains (flat_map (λ word. word_edges log runs word (last_tag log word)) (range_with_len 0 (length log.last_tags))) e →
        ((t : ℕ) × (a : Entry) × HasEntry log t a × Contains (entry_edges log runs t a) e) ⊎ ((word : ℕ) × Contains (word_edges log runs word (last_tag log word)) e)
    go (inl m) =
        let (t, k, d) = of_flat_map (λ t. flat_map (entry_edges log runs t) (thread_of log t).entries) (thread_numbers log) e m in
        let (a, h, i) = of_flat_map (entry_edges log runs t) (thread_of log t).entries e d in inl (t, a, h, i)
    go (inr m) =
        let (word, k, d) = of_flat_map (λ word. word_edges log runs word (last_tag log word)) (range_with_len 0 (length log.last_tags)) e m in inr (word, d)

of_entry : (log : Log) (runs : List (List Step)) (t : ℕ) (a : Entry) (e : Edge) → HasEntry log t a → Contains (entry_edges log runs t a) e → Contains (base_of log runs) e
unfolding base_of
of_entry log runs t a e h c =
    let l = entry_thread log t a h in
    Contains-append_left (flat_map (λ t. flat_map (entry_edges log runs t) (thread_of log t).entries) (thread_numbers log)) (flat_map (λ word. word_edges log runs word (last_tag log word)) (range_with_len 0 (length log.last_tags))) e
    (in_flat_map (λ t. flat_map (entry_edges log runs t) (thread_of log t).entries) (thread_numbers log) t e (in_range 0 (length log.threads) t (omega arith) (omega (arith, l)))
    (in_flat_map (entry_edges log runs t) (thread_of log t).entries a e h c))

of_word : (log : Log) (runs : List (List Step)) (word : ℕ) (e : Edge) → word < length log.last_tags → Contains (word_edges log runs word (last_tag log word)) e → Contains (base_of log runs) e
unfolding base_of
of_word log runs word e l c =
    Contains-append_right (flat_map (λ t. flat_map (entry_edges log runs t) (thread_of log t).entries) (thread_numbers log)) (flat_map (λ word. word_edges log runs word (last_tag log word)) (range_with_len 0 (length log.last_tags))) e
    (in_flat_map (λ word. word_edges log runs word (last_tag log word)) (range_with_len 0 (length log.last_tags)) word e (in_range 0 (length log.last_tags) word (omega arith) (omega (arith, l))) c)

up_to-not_after : (log : Log) (runs : List (List Step)) (rank : ℕ → ℕ) (a b : Event) → IsUpTo (rank_at log runs rank) a b → NotAfter rank (position_of log runs a) (position_of log runs b)
up_to-not_after log runs rank a b (inl e) = inl (ap (position_of log runs) e)
up_to-not_after log runs rank a b (inr l) = inr l

module _ (initial : List ℕ) (log : Log) (runs : List (List Step)) (told : Told initial log runs) (counted : length log.threads ≡ length runs)
    (inside : (e : Event) (word v : ℕ) → HasWritten runs e word v → word < length log.last_tags) (rank : ℕ → ℕ) where
  not_after-up_to : (a b : Event) → IsPlaced log runs a → NotAfter rank (position_of log runs a) (position_of log runs b) → IsUpTo (rank_at log runs rank) a b
  not_after-up_to a b pa (inl e) = inl (one_position initial log runs told counted a b pa e)
  not_after-up_to a b pa (inr l) = inr l

  -- steps of a thread stand in its list by rising number
  by_number : (t : ℕ) → AllPairs (λ a b. rank_at log runs rank a < rank_at log runs rank b) (placed_of_thread log runs t) →
      (a b : Event) → Contains (placed_of_thread log runs t) a → Contains (placed_of_thread log runs t) b → a.step < b.step → rank_at log runs rank a < rank_at log runs rank b
  by_number t h a b (i, l, x) (j, m, y) s = go (cases_order i j)
    where
      step_at : (k : ℕ) (e : Event) → k < length (placed_of_thread log runs t) → get_or (placed_of_thread log runs t) k e ≡ e → get_or (placed_of_thread log runs t) k no_event ≡ e
      step_at k e n q = get_or_default (placed_of_thread log runs t) k no_event e n ∙ q

      go : (i ≡ j) ⊎ ((i < j) ⊎ (j < i)) → rank_at log runs rank a < rank_at log runs rank b
      go (inl q) =
          let e : a ≡ b = sym (step_at i a l x) ∙ ap (λ n. get_or (placed_of_thread log runs t) n no_event) q ∙ step_at j b m y in
          let r : a.step ≡ b.step = ap (λ (k : Event). k.step) e in absurd (omega (arith, s, r))
      go (inr (inl q)) =
          let r : rank_at log runs rank (get_or (placed_of_thread log runs t) i no_event) < rank_at log runs rank (get_or (placed_of_thread log runs t) j no_event) = h i j no_event q m in
          let u = ap (rank_at log runs rank) (step_at i a l x) in
          let v = ap (rank_at log runs rank) (step_at j b m y) in
          omega (arith, r, u, v)
      go (inr (inr q)) = absurd (no (thread_before initial log runs told counted t j i no_event q l))
        where
          no : Before (get_or (placed_of_thread log runs t) j no_event) (get_or (placed_of_thread log runs t) i no_event) → ⊥
          no (inl r) =
              let u = ap (λ (k : Event). k.thread) (step_at i a l x) in
              let v = ap (λ (k : Event). k.thread) (step_at j b m y) in
              let p = (of_thread initial log runs told counted t a (i, l, x)).0 in
              let o = (of_thread initial log runs told counted t b (j, m, y)).0 in absurd (omega (arith, r, u, v, p, o))
          no (inr (p, r)) =
              let u = ap (λ (k : Event). k.step) (step_at i a l x) in
              let v = ap (λ (k : Event). k.step) (step_at j b m y) in absurd (omega (arith, r, u, v, s))

  -- the rank of the step at each position
  ranked_list : RankedAt rank (rank_at log runs rank) 0 (flat_map (placed_of_thread log runs) (thread_numbers log))
  unfolding placed_list
  ranked_list k d l =
      let q : position_of log runs (placed_at log runs k) ≡ k = position-at initial log runs told counted k l in
      let p : get_or (placed_list log runs) k d ≡ placed_at log runs k = get_or_default (placed_list log runs) k d no_event l in
      ap rank (let z : 0 + k ≡ k = omega arith in z ∙ sym q ∙ ap (position_of log runs) (sym p))

  pub chains_keep : Holds rank (chains_from 0 (placed_counts log runs)) → (a b : Event) → IsPlaced log runs a → IsPlaced log runs b → a.thread ≡ b.thread → a.step < b.step →
      rank_at log runs rank a < rank_at log runs rank b
  unfolding placed_counts
  chains_keep h a b pa pb s l =
      let m = thread_below initial log runs told counted a pa in
      by_number a.thread
      (hold-chains rank (rank_at log runs rank) (placed_of_thread log runs) 0 (thread_numbers log) ranked_list h a.thread (in_range 0 (length log.threads) a.thread (omega arith) (omega (arith, m))))
      a b (in_thread initial log runs told counted a pa)
      (let P : ℕ → Type 0 = λ t. Contains (placed_of_thread log runs t) b in subst P (sym s) (in_thread initial log runs told counted b pb)) l

  keep_chains : ((a b : Event) → IsPlaced log runs a → IsPlaced log runs b → a.thread ≡ b.thread → a.step < b.step → rank_at log runs rank a < rank_at log runs rank b) →
      Holds rank (chains_from 0 (placed_counts log runs))
  unfolding placed_counts
  keep_chains h = chains-hold rank (rank_at log runs rank) (placed_of_thread log runs) 0 (thread_numbers log) ranked_list (λ t c i j d l m. pair t i j d l m)
    where
      pair : (t i j : ℕ) (d : Event) → i < j → j < length (placed_of_thread log runs t) →
          rank_at log runs rank (get_or (placed_of_thread log runs t) i d) < rank_at log runs rank (get_or (placed_of_thread log runs t) j d)
      pair t i j d l m =
          let k : i < length (placed_of_thread log runs t) = omega (arith, l, m) in
          let a = get_or (placed_of_thread log runs t) i d in
          let b = get_or (placed_of_thread log runs t) j d in
          let (p, ea) = of_thread initial log runs told counted t a (there i k) in
          let (q, eb) = of_thread initial log runs told counted t b (there j m) in
          h a b ea eb (p ∙ sym q) (steps (thread_before initial log runs told counted t i j d l m))
        where
          there : (n : ℕ) → n < length (placed_of_thread log runs t) → Contains (placed_of_thread log runs t) (get_or (placed_of_thread log runs t) n d)
          there n o = (n, o, get_or_default (placed_of_thread log runs t) n _ d o)

          steps : Before (get_or (placed_of_thread log runs t) i d) (get_or (placed_of_thread log runs t) j d) → (get_or (placed_of_thread log runs t) i d).step < (get_or (placed_of_thread log runs t) j d).step
          steps (inl r) =
              let p = (of_thread initial log runs told counted t (get_or (placed_of_thread log runs t) i d) (there i (omega (arith, l, m)))).0 in
              let q = (of_thread initial log runs told counted t (get_or (placed_of_thread log runs t) j d) (there j m)).0 in absurd (omega (arith, r, p, q))
          steps (inr (p, r)) = r

  -- a source ranks below the first read of it
  pub source_rises : Holds rank (base_of log runs) → (t : ℕ) (a : Entry) (x : Event) → HasEntry log t a → a.source ≡ Some x → rank_at log runs rank x < rank_at log runs rank (first_event t a)
  source_rises h t a x c q =
      let P : Tag → Type 0 = λ tag. Holds rank (source_edges log runs t a tag) in
      let parts = Holds-split rank (source_edges log runs t a a.source) (last_tag_edges log runs t a (last_tag log a.word))
      (All-from (Rises rank) (entry_edges log runs t a) (λ e m. All-contains (Rises rank) (base_of log runs) e h (of_entry log runs t a e c m))) in
      All-head (Rises rank) (arrow (position_of log runs x) (position_of log runs (first_event t a))) [] (subst P q parts.0)

  -- a ranking that solves the problem keeps the rules
  pub solves-keeps : Solves (placing_problem log runs) rank → Keeps log runs (rank_at log runs rank)
  solves-keeps solves = record {
    rising = chains_keep parts.0;
    source_first = source_rises parts.1;
    from_initial = λ t a w v c hw q.
        let P : Tag → Type 0 = λ tag. Holds rank (source_edges log runs t a tag) in
        not_after-up_to (last_event t a) w (last_placed log runs t a c)
        (hold-edges_from rank (position_of log runs (last_event t a)) (writes_to log runs a.word) (position_of log runs w) (subst P q (entry_holds t a c).0) (in_writes initial log runs told counted a.word v w hw));
    pairs = λ word v w x y hx hy ne read. two word v w x y hx hy ne read (cases_order (position_of log runs x) (position_of log runs y));
    last_read = λ t a z c q n. last_read t a z c q n (cases_Bool (same_tag a.source (Some z)));
    final = λ word v w z hw q.
        let P : Tag → Type 0 = λ tag. Holds rank (word_edges log runs word tag) in
        not_after-up_to w z (inr (word, v, hw))
        (hold-edges_to rank (writes_to log runs word) (position_of log runs z) (position_of log runs w) (subst P q (word_holds word (last_inside log word z q))) (in_writes initial log runs told counted word v w hw));
  }
    where
      parts : Holds rank (chains_from 0 (placed_counts log runs)) × Holds rank (base_of log runs)
      parts = Holds-split rank (chains_from 0 (placed_counts log runs)) (base_of log runs) solves.base

      entry_holds : (t : ℕ) (a : Entry) → HasEntry log t a → Holds rank (source_edges log runs t a a.source) × Holds rank (last_tag_edges log runs t a (last_tag log a.word))
      entry_holds t a c = Holds-split rank (source_edges log runs t a a.source) (last_tag_edges log runs t a (last_tag log a.word))
          (All-from (Rises rank) (entry_edges log runs t a) (λ e m. All-contains (Rises rank) (base_of log runs) e parts.1 (of_entry log runs t a e c m)))

      word_holds : (word : ℕ) → word < length log.last_tags → Holds rank (word_edges log runs word (last_tag log word))
      word_holds word l = All-from (Rises rank) (word_edges log runs word (last_tag log word)) (λ e m. All-contains (Rises rank) (base_of log runs) e parts.1 (of_word log runs word e l m))

      last_read : (t : ℕ) (a : Entry) (z : Event) → HasEntry log t a → last_tag log a.word ≡ Some z → a.source ≢ Some z →
          (same_tag a.source (Some z) ≡ true) ⊎ (same_tag a.source (Some z) ≡ false) → IsUpTo (rank_at log runs rank) (last_event t a) z
      last_read t a z c q n (inl s) = absurd (n (same_tag-true a.source (Some z) s))
      last_read t a z c q n (inr s) =
          let P : Tag → Type 0 = λ tag. Holds rank (last_tag_edges log runs t a tag) in
          let Q : Bool → Type 0 = λ b. Holds rank (cond b [] (edges_to (position_of log runs (last_event t a) ∷ []) (position_of log runs z))) in
          let h : Holds rank (last_tag_edges log runs t a (Some z)) = subst P q (entry_holds t a c).1 in
          not_after-up_to (last_event t a) z (last_placed log runs t a c)
          (hold-edges_to rank (position_of log runs (last_event t a) ∷ []) (position_of log runs z) (position_of log runs (last_event t a)) (subst Q s h) (contains_here (position_of log runs (last_event t a)) []))

      side : (x y : Event) → IsPlaced log runs x → IsPlaced log runs y → Holds rank (edges_to (last_reads_of log runs (position_of log runs x)) (position_of log runs y)) → ComesUpTo log (rank_at log runs rank) x y
      side x y px py h = record {
        reads = λ t a c q. not_after-up_to (last_event t a) y (last_placed log runs t a c)
            (hold-edges_to rank (last_reads_of log runs (position_of log runs x)) (position_of log runs y) (position_of log runs (last_event t a)) h
            (in_last_reads initial log runs told counted (position_of log runs x) t a c (q ∙ ap Some (sym here))));
        unread = λ n. not_after-up_to x y px
            (hold-edges_to rank (last_reads_of log runs (position_of log runs x)) (position_of log runs y) (position_of log runs x) h
            (unread_last initial log runs told counted (position_of log runs x)
            (false_from_ne_true (is_read log (placed_at log runs (position_of log runs x))) (λ r. n (subst (IsRead log) here (read-entry log (placed_at log runs (position_of log runs x)) r))))));
      }
        where
          here : placed_at log runs (position_of log runs x) ≡ x
          here = at-position initial log runs told counted x px

      one_side : (word v w : ℕ) (x y : Event) → HasWritten runs x word v → HasWritten runs y word w → IsRead log x ⊎ IsRead log y → position_of log runs x < position_of log runs y →
          ComesUpTo log (rank_at log runs rank) x y ⊎ ComesUpTo log (rank_at log runs rank) y x
      one_side word v w x y hx hy read l = pick (All-contains (HoldsOneSide rank) (pairs_of log runs) (pair_of log runs (position_of log runs x) (position_of log runs y)) solves.sides
          (in_pairs initial log runs told counted word (position_of log runs x) (position_of log runs y) (inside x word v hx) (in_writes initial log runs told counted word v x hx) (in_writes initial log runs told counted word w y hy) l (asked read)))
        where
          px : IsPlaced log runs x
          px = inr (word, v, hx)

          py : IsPlaced log runs y
          py = inr (word, w, hy)

          at_here : (e : Event) → IsPlaced log runs e → IsRead log e → is_read log (placed_at log runs (position_of log runs e)) ≡ true
          at_here e pe r = subst (λ (k : Event). is_read log k ≡ true) (sym (at-position initial log runs told counted e pe)) (entry-read log e r)

          asked : IsRead log x ⊎ IsRead log y → one_is_read log runs (position_of log runs x) (position_of log runs y) ≡ true
          asked (inl r) = or_left (is_read log (placed_at log runs (position_of log runs x))) (is_read log (placed_at log runs (position_of log runs y))) (at_here x px r)
          asked (inr r) = or_right (is_read log (placed_at log runs (position_of log runs x))) (is_read log (placed_at log runs (position_of log runs y))) (at_here y py r)

          pick : HoldsOneSide rank (pair_of log runs (position_of log runs x) (position_of log runs y)) → ComesUpTo log (rank_at log runs rank) x y ⊎ ComesUpTo log (rank_at log runs rank) y x
          pick (inl h) = inl (side x y px py h)
          pick (inr h) = inr (side y x py px h)

      turned : {A B : Type 0} → A ⊎ B → B ⊎ A
      turned (inl a) = inr a
      turned (inr b) = inl b

      two : (word v w : ℕ) (x y : Event) → HasWritten runs x word v → HasWritten runs y word w → x ≢ y → IsRead log x ⊎ IsRead log y →
          (position_of log runs x ≡ position_of log runs y) ⊎ ((position_of log runs x < position_of log runs y) ⊎ (position_of log runs y < position_of log runs x)) →
          ComesUpTo log (rank_at log runs rank) x y ⊎ ComesUpTo log (rank_at log runs rank) y x
      two word v w x y hx hy ne read (inl e) = absurd (ne (one_position initial log runs told counted x y (inr (word, v, hx)) e))
      two word v w x y hx hy ne read (inr (inl l)) = one_side word v w x y hx hy read l
      two word v w x y hx hy ne read (inr (inr l)) = turned (one_side word w v y x hy hx (turned read) l)

  -- and ranks that keep the rules solve it
  pub keeps-solves : Keeps log runs (rank_at log runs rank) → Solves (placing_problem log runs) rank
  keeps-solves keeps = record {
    base = All-append (Rises rank) (chains_from 0 (placed_counts log runs)) (base_of log runs) (keep_chains keeps.rising) (All-from (Rises rank) (base_of log runs) (λ e m. base e (of_base log runs e m)));
    sides = All-from (HoldsOneSide rank) (pairs_of log runs) sides;
  }
    where
      -- a write of the word, told of a position
      write_here : (e : Event) (word p : ℕ) → ((w : Event) (v : ℕ) → HasWritten runs w word v → IsUpTo (rank_at log runs rank) e w) → Contains (writes_to log runs word) p → NotAfter rank (position_of log runs e) p
      write_here e word p up m =
          let (l, v, hw) = of_writes initial log runs told counted word p m in
          subst (λ (n : ℕ). NotAfter rank (position_of log runs e) n) (position-at initial log runs told counted p l)
          (up_to-not_after log runs rank e (placed_at log runs p) (up (placed_at log runs p) v hw))

      source : (t : ℕ) (a : Entry) → HasEntry log t a → (tag : Tag) → a.source ≡ tag → Holds rank (source_edges log runs t a tag)
      source t a c None q = edges_from-hold rank (position_of log runs (last_event t a)) (writes_to log runs a.word)
          (λ p m. write_here (last_event t a) a.word p (λ w v hw. keeps.from_initial t a w v c hw q) m)
      source t a c (Some x) q = All-cons (Rises rank) (arrow (position_of log runs x) (position_of log runs (first_event t a))) [] (keeps.source_first t a x c q) (All-nil (Rises rank))

      last_read : (t : ℕ) (a : Entry) → HasEntry log t a → (tag : Tag) → last_tag log a.word ≡ tag → Holds rank (last_tag_edges log runs t a tag)
      last_read t a c None q = All-nil (Rises rank)
      last_read t a c (Some z) q = go (cases_Bool (same_tag a.source (Some z)))
        where
          go : (same_tag a.source (Some z) ≡ true) ⊎ (same_tag a.source (Some z) ≡ false) → Holds rank (last_tag_edges log runs t a (Some z))
          go (inl s) = rw s (All-nil (Rises rank))
          go (inr s) = rw s (edges_to-hold rank (position_of log runs (last_event t a) ∷ []) (position_of log runs z) (λ p m. at p (contains_cases (position_of log runs (last_event t a)) [] p m)))
            where
              up : IsUpTo (rank_at log runs rank) (last_event t a) z
              up = keeps.last_read t a z c q (λ e. both_ways _ s (let P : Tag → Type 0 = λ x. same_tag a.source x ≡ true in subst P e (same_tag-same a.source)))

              at : (p : ℕ) → (position_of log runs (last_event t a) ≡ p) ⊎ Contains [] p → NotAfter rank p (position_of log runs z)
              at p (inl e) = subst (λ (n : ℕ). NotAfter rank n (position_of log runs z)) e (up_to-not_after log runs rank (last_event t a) z up)
              at p (inr k) = absurd (contains_none p k)

      word_final : (word : ℕ) (tag : Tag) → last_tag log word ≡ tag → Holds rank (word_edges log runs word tag)
      word_final word None q = All-nil (Rises rank)
      word_final word (Some z) q = edges_to-hold rank (writes_to log runs word) (position_of log runs z) each
        where
          each : (p : ℕ) → Contains (writes_to log runs word) p → NotAfter rank p (position_of log runs z)
          each p m =
              let (l, v, hw) = of_writes initial log runs told counted word p m in
              subst (λ (n : ℕ). NotAfter rank n (position_of log runs z)) (position-at initial log runs told counted p l)
              (up_to-not_after log runs rank (placed_at log runs p) z (keeps.final word v (placed_at log runs p) z hw q))

      base : (e : Edge) → ((t : ℕ) × (a : Entry) × HasEntry log t a × Contains (entry_edges log runs t a) e) ⊎ ((word : ℕ) × Contains (word_edges log runs word (last_tag log word)) e) → Rises rank e
      base e (inl (t, a, c, k)) = All-contains (Rises rank) (entry_edges log runs t a) e
          (All-append (Rises rank) (source_edges log runs t a a.source) (last_tag_edges log runs t a (last_tag log a.word)) (source t a c a.source refl) (last_read t a c (last_tag log a.word) refl)) k
      base e (inr (word, k)) = All-contains (Rises rank) (word_edges log runs word (last_tag log word)) e (word_final word (last_tag log word) refl) k

      sides : (p : Pair) → Contains (pairs_of log runs) p → HoldsOneSide rank p
      sides p m =
          let (word, s, t, c, d, l, h, q) = of_pairs initial log runs told counted p m in
          subst (HoldsOneSide rank) q (one word s t c d l h)
        where
          one : (word s t : ℕ) → Contains (writes_to log runs word) s → Contains (writes_to log runs word) t → s < t → one_is_read log runs s t ≡ true → HoldsOneSide rank (pair_of log runs s t)
          one word s t c d l h =
              let (sl, v, hs) = of_writes initial log runs told counted word s c in
              let (tl, w, ht) = of_writes initial log runs told counted word t d in
              let sp = position-at initial log runs told counted s sl in
              let tp = position-at initial log runs told counted t tl in
              pick sl tl (keeps.pairs word v w (placed_at log runs s) (placed_at log runs t) hs ht (λ e. let r : s ≡ t = sym sp ∙ ap (position_of log runs) e ∙ tp in absurd (omega (arith, l, r)))
              (read (or_cases (is_read log (placed_at log runs s)) (is_read log (placed_at log runs t)) h)))
            where
              read : (is_read log (placed_at log runs s) ≡ true) ⊎ (is_read log (placed_at log runs t) ≡ true) → IsRead log (placed_at log runs s) ⊎ IsRead log (placed_at log runs t)
              read (inl r) = inl (read-entry log (placed_at log runs s) r)
              read (inr r) = inr (read-entry log (placed_at log runs t) r)

              side : (s t : ℕ) → s < length (placed_list log runs) → t < length (placed_list log runs) → ComesUpTo log (rank_at log runs rank) (placed_at log runs s) (placed_at log runs t) → Holds rank (edges_to (last_reads_of log runs s) t)
              side s t sl tl b = edges_to-hold rank (last_reads_of log runs s) t (λ p m. each p (of_last_reads initial log runs told counted s p sl m))
                where
                  to : (e : Event) → IsUpTo (rank_at log runs rank) e (placed_at log runs t) → NotAfter rank (position_of log runs e) t
                  to e h = subst (λ (n : ℕ). NotAfter rank (position_of log runs e) n) (position-at initial log runs told counted t tl) (up_to-not_after log runs rank e (placed_at log runs t) h)

                  each : (p : ℕ) → ((u : ℕ) × (a : Entry) × HasEntry log u a × (a.source ≡ Some (placed_at log runs s)) × (p ≡ position_of log runs (last_event u a))) ⊎
                      ((p ≡ s) × (IsRead log (placed_at log runs s) → ⊥)) → NotAfter rank p t
                  each p (inl (u, a, c, q, e)) = subst (λ (n : ℕ). NotAfter rank n t) (sym e) (to (last_event u a) (b.reads u a c q))
                  each p (inr (e, n)) = subst (λ (k : ℕ). NotAfter rank k t) (position-at initial log runs told counted s sl ∙ sym e) (to (placed_at log runs s) (b.unread n))

              pick : s < length (placed_list log runs) → t < length (placed_list log runs) →
                  ComesUpTo log (rank_at log runs rank) (placed_at log runs s) (placed_at log runs t) ⊎ ComesUpTo log (rank_at log runs rank) (placed_at log runs t) (placed_at log runs s) → HoldsOneSide rank (pair_of log runs s t)
              pick sl tl (inl b) = inl (side s t sl tl b)
              pick sl tl (inr b) = inr (side t s tl sl b)
