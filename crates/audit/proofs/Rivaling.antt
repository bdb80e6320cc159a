-- Writes of runs that fit a log are what a search relies on.
use Rattle.std.proofs.Common.{◌≡◌, ℕ, ◌+◌, ◌<◌, ◌≤◌, Bool, true, false, eqb, List, [], ◌∷◌, length, get_or, sum, refl, sym, ◌∙◌, ap, subst, arith, inl, inr, ◌⊎◌}
use Rattle.std.specs.Prelude.{All, Contains, Some, None, not, filter, nat_lt}
use Rattle.std.specs.List.{flat_map, range_with_len}
use Rattle.std.proofs.lemmas.Bool.{cases_Bool, cond-false, or_left, both_ways}
use Rattle.std.proofs.lemmas.List.{length-map}
use Rattle.std.proofs.lemmas.List.Concat.{length-flat_map}
use Rattle.std.proofs.lemmas.List.Sums.{sum-map, length-filter, count_by-le-length}
use Rattle.std.proofs.lemmas.List.FromFn.{length-range_with_len}
use Rattle.std.proofs.lemmas.List.Elements.{All-nil, All-cons, All-append, All-contains, Contains-get_or, Contains-append_cases}
use Rattle.light_base.specs.declared.tag.Event.{Event}
use Rattle.light_base.specs.declared.tag.Tag.{Tag}
use Rattle.plain_search.specs.declared.Edge.{Edge}
use Rattle.plain_search.specs.Chains.{arrow, chains_from}
use Rattle.plain_search.specs.Edges.{Holds}
use Rattle.replay_model.specs.declared.Entry.{Entry}
use Rattle.replay_model.specs.Steps.{Step, same_tag}
use Rattle.replay_model.specs.Threads.{Threads, StaysWithin}
use Rattle.replay_model.specs.Logs.{Log, HasEntry, thread_of, last_tag, first_event, last_event}
use Rattle.replay_model.specs.RunLogs.{Tallies}
use Rattle.replay_model.specs.Fitting.{Fits}
use Rattle.audit_laws.specs.Placings.{IsPlaced}
use Rattle.constraints.specs.Positions.{thread_numbers, no_event}
use Rattle.constraints.specs.Constraints.{edges_to, edges_from}
use Rattle.constraints.proofs.Members.{contains_none, contains_cases, of_filter, of_map, of_flat_map}
use Rattle.constraints.proofs.Ranked.{All-from, Holds-split}
use Rattle.constraints.proofs.Listed.{Before}
use Rattle.order_solver.specs.Rivals.{AtMost, edges_in}
use Rattle.order_solver.proofs.Prefixes.{NeverFalls, count-none, count-all, count-more, count-low, count-high}
use Rattle.order_solver.proofs.Testing.{side-holds}
use Rattle.audit.specs.Positions.{placed_list, placed_counts, placed_of_thread, placed_at, position_of}
use Rattle.audit.specs.Constraints.{is_write_to, writes_to, is_read, last_reads_of, source_edges, last_tag_edges, entry_edges, word_edges, base_of, one_is_read, pairs_of}
use Rattle.audit.specs.Rivalries.{start_of, rivalry_of, PlacingsAreSearched, WritesAreRivals}
use Rattle.audit.proofs.Listed.{thread_below, list_before, position-at, position-below, placed_there}
use Rattle.audit.proofs.Writes.{of_writes, writes-rising, of_last_reads}
use Rattle.audit.proofs.Keeping.{told, counted, source_placed, first_placed, last_placed, tag_placed}
use Rattle.audit.proofs.Solving.{chains_keep}
use Rattle.audit.proofs.Placings.{inside}
use Rattle.audit.proofs.Reading.{sides_exclude}

pub placings_are_searched : PlacingsAreSearched
unfolding pairs_of
placings_are_searched log runs = refl

abbrev Ends : ℕ → Edge → Type 0
Ends count e = (e.from < count) × (e.to < count)

edges_to-end : (count : ℕ) (froms : List ℕ) (to : ℕ) → ((p : ℕ) → Contains froms p → p < count) → to < count → All (Ends count) (edges_to froms to)
edges_to-end count froms to h l = All-from (Ends count) (edges_to froms to) (λ e c.
    let (p, m, q) = of_map (λ from. arrow from to) (filter (λ from. not (eqb from to)) froms) e c in
    subst (Ends count) q (h p (of_filter (λ from. not (eqb from to)) froms p m).0, l))

edges_from-end : (count : ℕ) (from : ℕ) (tos : List ℕ) → from < count → ((p : ℕ) → Contains tos p → p < count) → All (Ends count) (edges_from from tos)
edges_from-end count from tos l h = All-from (Ends count) (edges_from from tos) (λ e c.
    let (p, m, q) = of_map (arrow from) (filter (λ to. not (eqb from to)) tos) e c in
    subst (Ends count) q (l, h p (of_filter (λ to. not (eqb from to)) tos p m).0))

-- of a write that nobody read the last read is itself
alone : (log : Log) (runs : List (List Step)) (s : ℕ) → is_read log (placed_at log runs s) ≡ false → last_reads_of log runs s ≡ s ∷ []
unfolding last_reads_of
alone log runs s r = cond-false (is_read log (placed_at log runs s)) _ (s ∷ []) r

pub counts-length : (log : Log) (runs : List (List Step)) → length (placed_counts log runs) ≡ length log.threads
unfolding placed_counts
counts-length log runs = length-map _ _ ∙ length-range_with_len 0 (length log.threads)

pub counts-sum : (log : Log) (runs : List (List Step)) → sum (placed_counts log runs) ≡ length (placed_list log runs)
unfolding placed_counts placed_list
counts-sum log runs = sum-map (λ t. length (placed_of_thread log runs t)) (thread_numbers log) ∙ sym (length-flat_map (placed_of_thread log runs) (thread_numbers log))

pub writes-length : (log : Log) (runs : List (List Step)) (word : ℕ) → length (writes_to log runs word) ≤ length (placed_list log runs)
unfolding writes_to
writes-length log runs word =
    let test : ℕ → Bool = λ p. is_write_to runs word (placed_at log runs p) in
    let a = length-filter test (range_with_len 0 (length (placed_list log runs))) in
    let b = count_by-le-length test (range_with_len 0 (length (placed_list log runs))) in
    let d = length-range_with_len 0 (length (placed_list log runs)) in
    omega (arith, a, b, d)

module _ (threads : Threads) (tallies : Tallies) (initial : List ℕ) (log : Log) (runs : List (List Step)) (within : StaysWithin threads (length initial))
    (fits : Fits threads tallies initial log runs) where
  at : (e : Event) → IsPlaced log runs e → position_of log runs e < length (placed_list log runs)
  at e is = position-below initial log runs (told threads tallies initial log runs fits) (counted threads tallies initial log runs fits) e is

  write-there : (word p : ℕ) → Contains (writes_to log runs word) p → p < length (placed_list log runs)
  write-there word p c = (of_writes initial log runs (told threads tallies initial log runs fits) (counted threads tallies initial log runs fits) word p c).0

  entry-end : (t : ℕ) (a : Entry) → HasEntry log t a → All (Ends (length (placed_list log runs))) (entry_edges log runs t a)
  entry-end t a c = All-append (Ends (length (placed_list log runs))) (source_edges log runs t a a.source) (last_tag_edges log runs t a (last_tag log a.word)) (source a.source refl) (final (last_tag log a.word) refl)
    where
      last : position_of log runs (last_event t a) < length (placed_list log runs)
      last = at (last_event t a) (last_placed log runs t a c)

      source : (tag : Tag) → a.source ≡ tag → All (Ends (length (placed_list log runs))) (source_edges log runs t a tag)
      source None q = edges_from-end (length (placed_list log runs)) (position_of log runs (last_event t a)) (writes_to log runs a.word) last (λ p m. write-there a.word p m)
      source (Some x) q = All-cons (Ends (length (placed_list log runs))) (arrow (position_of log runs x) (position_of log runs (first_event t a))) []
          (at x (source_placed log runs t a x c q), at (first_event t a) (first_placed log runs t a c)) (All-nil (Ends (length (placed_list log runs))))

      final : (tag : Tag) → last_tag log a.word ≡ tag → All (Ends (length (placed_list log runs))) (last_tag_edges log runs t a tag)
      final None q = All-nil (Ends (length (placed_list log runs)))
      final (Some z) q = go (cases_Bool (same_tag a.source (Some z)))
        where
          only : (p : ℕ) → Contains (position_of log runs (last_event t a) ∷ []) p → p < length (placed_list log runs)
          only p m = pick (contains_cases (position_of log runs (last_event t a)) [] p m)
            where
              pick : (position_of log runs (last_event t a) ≡ p) ⊎ Contains [] p → p < length (placed_list log runs)
              pick (inl e) = let l = last in omega (arith, l, e)
              pick (inr k) = absurd (contains_none p k)

          go : (same_tag a.source (Some z) ≡ true) ⊎ (same_tag a.source (Some z) ≡ false) → All (Ends (length (placed_list log runs))) (last_tag_edges log runs t a (Some z))
          go (inl s) = rw s (All-nil (Ends (length (placed_list log runs))))
          go (inr s) = rw s (edges_to-end (length (placed_list log runs)) (position_of log runs (last_event t a) ∷ []) (position_of log runs z) only (at z (tag_placed log runs a.word z q)))

  word-end : (word : ℕ) (tag : Tag) → last_tag log word ≡ tag → All (Ends (length (placed_list log runs))) (word_edges log runs word tag)
  word-end word None q = All-nil (Ends (length (placed_list log runs)))
  word-end word (Some z) q = edges_to-end (length (placed_list log runs)) (writes_to log runs word) (position_of log runs z) (λ p m. write-there word p m) (at z (tag_placed log runs word z q))

  -- base edges are between positions
  base-end : (e : Edge) → Contains (base_of log runs) e → Ends (length (placed_list log runs)) e
  unfolding base_of
  base-end e c = go (Contains-append_cases (flat_map (λ t. flat_map (entry_edges log runs t) (thread_of log t).entries) (thread_numbers log)) (flat_map (λ word. word_edges log runs word (last_tag log word)) (range_with_len 0 (length log.last_tags))) e c)
    where
      go : Contains (flat_map (λ t. flat_map (entry_edges log runs t) (thread_of log t).entries) (thread_numbers log)) e ⊎
          Contains (flat_map (λ word. word_edges log runs word (last_tag log word)) (range_with_len 0 (length log.last_tags))) e → Ends (length (placed_list log runs)) e
      go (inl m) =
          let (t, u, d) = of_flat_map (λ t. flat_map (entry_edges log runs t) (thread_of log t).entries) (thread_numbers log) e m in
          let (a, h, n) = of_flat_map (entry_edges log runs t) (thread_of log t).entries e d in
          All-contains (Ends (length (placed_list log runs))) (entry_edges log runs t a) e (entry-end t a h) n
      go (inr m) =
          let (word, u, d) = of_flat_map (λ word. word_edges log runs word (last_tag log word)) (range_with_len 0 (length log.last_tags)) e m in
          All-contains (Ends (length (placed_list log runs))) (word_edges log runs word (last_tag log word)) e (word-end word (last_tag log word) refl) d

  last-there : (word s l : ℕ) → Contains (writes_to log runs word) s → Contains (last_reads_of log runs s) l → l < length (placed_list log runs)
  last-there word s l c d = go (of_last_reads initial log runs (told threads tallies initial log runs fits) (counted threads tallies initial log runs fits) s l (write-there word s c) d)
    where
      go : ((t : ℕ) × (a : Entry) × HasEntry log t a × (a.source ≡ Some (placed_at log runs s)) × (l ≡ position_of log runs (last_event t a))) ⊎
          ((l ≡ s) × ((t : ℕ) × (a : Entry) × HasEntry log t a × (a.source ≡ Some (placed_at log runs s)) → ⊥)) → l < length (placed_list log runs)
      go (inl (t, a, h, q, e)) = let m = at (last_event t a) (last_placed log runs t a h) in omega (arith, m, e)
      go (inr (e, n)) = let m = write-there word s c in omega (arith, m, e)

  up : (word i j : ℕ) → i < j → j < length (writes_to log runs word) → Before (placed_at log runs (get_or (writes_to log runs word) i 0)) (placed_at log runs (get_or (writes_to log runs word) j 0))
  up word i j l m =
      let r = writes-rising initial log runs (told threads tallies initial log runs fits) (counted threads tallies initial log runs fits) word i j 0 l m in
      list_before initial log runs (told threads tallies initial log runs fits) (counted threads tallies initial log runs fits)
      (get_or (writes_to log runs word) i 0) (get_or (writes_to log runs word) j 0) no_event r (write-there word (get_or (writes_to log runs word) j 0) (Contains-get_or (writes_to log runs word) j 0 m))

  threads-along : (word : ℕ) → NeverFalls (λ p. (placed_at log runs p).thread) (writes_to log runs word)
  threads-along word = record { along = λ i j l m. go i j (up word i j l m) }
    where
      go : (i j : ℕ) → Before (placed_at log runs (get_or (writes_to log runs word) i 0)) (placed_at log runs (get_or (writes_to log runs word) j 0)) →
          (placed_at log runs (get_or (writes_to log runs word) i 0)).thread ≤ (placed_at log runs (get_or (writes_to log runs word) j 0)).thread
      go i j (inl l) = omega (arith, l)
      go i j (inr (e, l)) = omega (arith, e)

  thread-there : (word i : ℕ) → i < length (writes_to log runs word) → (placed_at log runs (get_or (writes_to log runs word) i 0)).thread < length (placed_counts log runs)
  thread-there word i l =
      let p = get_or (writes_to log runs word) i 0 in
      let c = placed_there initial log runs (told threads tallies initial log runs fits) (counted threads tallies initial log runs fits) p (write-there word p (Contains-get_or (writes_to log runs word) i 0 l)) in
      let t = thread_below initial log runs (told threads tallies initial log runs fits) (counted threads tallies initial log runs fits) (placed_at log runs p) c in
      let e = counts-length log runs in omega (arith, t, e)

  rises : (rank : ℕ → ℕ) (word t i j : ℕ) → Holds rank (edges_in (rivalry_of log runs)) → j < length (writes_to log runs word) → start_of log runs word t ≤ i → i < j → j < start_of log runs word (t + 1) →
      rank (get_or (writes_to log runs word) i 0) < rank (get_or (writes_to log runs word) j 0)
  rises rank word t i j h m a b d =
      let p = get_or (writes_to log runs word) i 0 in
      let q = get_or (writes_to log runs word) j 0 in
      let n : i < length (writes_to log runs word) = omega (arith, b, m) in
      let along = threads-along word in
      let low : t ≤ (placed_at log runs p).thread = count-high (λ x. (placed_at log runs x).thread) t (writes_to log runs word) i along n a in
      let high : (placed_at log runs q).thread < t + 1 = count-low (λ x. (placed_at log runs x).thread) (t + 1) (writes_to log runs word) j along m d in
      step p q (write-there word p (Contains-get_or (writes_to log runs word) i 0 n)) (write-there word q (Contains-get_or (writes_to log runs word) j 0 m)) low high (up word i j b m)
    where
      step : (p q : ℕ) → p < length (placed_list log runs) → q < length (placed_list log runs) → t ≤ (placed_at log runs p).thread → (placed_at log runs q).thread < t + 1 → Before (placed_at log runs p) (placed_at log runs q) → rank p < rank q
      step p q lp lq low high (inl l) = absurd (omega (arith, low, high, l))
      step p q lp lq low high (inr (e, l)) =
          let is = told threads tallies initial log runs fits in
          let many = counted threads tallies initial log runs fits in
          let k = chains_keep initial log runs is many (inside threads tallies initial log runs within fits) rank (Holds-split rank (chains_from 0 (placed_counts log runs)) (base_of log runs) h).0
          (placed_at log runs p) (placed_at log runs q) (placed_there initial log runs is many p lp) (placed_there initial log runs is many q lq) e l in
          let x = ap rank (position-at initial log runs is many p lp) in
          let y = ap rank (position-at initial log runs is many q lq) in
          omega (arith, k, x, y)

  -- of two writes that nobody read, the one that comes first does so with its last reads
  unread : (rank : ℕ → ℕ) (s t : ℕ) → one_is_read log runs s t ≡ false → rank s < rank t → Holds rank (edges_to (last_reads_of log runs s) t)
  unread rank s t n l = go (cases_Bool (is_read log (placed_at log runs s)))
    where
      go : (is_read log (placed_at log runs s) ≡ true) ⊎ (is_read log (placed_at log runs s) ≡ false) → Holds rank (edges_to (last_reads_of log runs s) t)
      go (inl r) = absurd (both_ways _ n (or_left (is_read log (placed_at log runs s)) (is_read log (placed_at log runs t)) r))
      go (inr r) = side-holds rank (last_reads_of log runs s) t
          (subst (λ (ls : List ℕ). All (λ x. AtMost rank x t) ls) (sym (alone log runs s r)) (All-cons (λ x. AtMost rank x t) s [] (inr l) (All-nil (λ x. AtMost rank x t))))

pub writes_are_rivals : WritesAreRivals
writes_are_rivals threads tallies initial log runs within fits formed few = record {
  nodes_few = (let e = nodes in omega (arith, e, few));
  threads_few = (let e = counts-length log runs in let t = formed.range.threads in omega (arith, e, t));
  words_few = (let w = formed.range.words in omega (arith, w));
  sources_few = λ word w. let l = writes-length log runs word in omega (arith, l, few);
  base = λ e c. let (u, v) = base-end threads tallies initial log runs within fits e c in let q = nodes in (omega (arith, u, q), omega (arith, v, q));
  source = λ word s w c. let l = write-there threads tallies initial log runs within fits word s c in let e = nodes in omega (arith, l, e);
  last = λ word s l w c d. let m = last-there threads tallies initial log runs within fits word s l c d in let e = nodes in omega (arith, m, e);
  before = λ rank word s t h w c d n side. (sides_exclude threads tallies initial log runs word s t rank within fits h c d n).0 side;
  others = λ rank word s t h w c d n l. unread threads tallies initial log runs within fits rank s t n l;
  once = λ word i j w l m e.
      let u = writes-rising initial log runs (told threads tallies initial log runs fits) (counted threads tallies initial log runs fits) word i j 0 l m in absurd (omega (arith, u, e));
  first = λ word w. count-none (λ p. (placed_at log runs p).thread) 0 (writes_to log runs word) (λ i l. omega arith);
  end = λ word w. count-all (λ p. (placed_at log runs p).thread) (length (placed_counts log runs)) (writes_to log runs word) (λ i l. thread-there threads tallies initial log runs within fits word i l);
  next = λ word t w l. count-more (λ p. (placed_at log runs p).thread) t (writes_to log runs word);
  rising = λ rank word t i j h w l a b d. rises threads tallies initial log runs within fits rank word t i j h
      (let m = count_by-le-length (λ p. nat_lt (placed_at log runs p).thread (t + 1)) (writes_to log runs word) in omega (arith, m, d)) a b d;
}
  where
    nodes : sum (placed_counts log runs) ≡ length (placed_list log runs)
    nodes = counts-sum log runs
