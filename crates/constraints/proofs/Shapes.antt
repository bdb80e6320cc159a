-- Between which numbers edges are, what rises, and that both sides of a pair never hold.
use Rattle.std.proofs.Common.{◌≡◌, ℕ, zero, suc, ◌+◌, ◌-◌, ◌<◌, ◌≤◌, true, false, eqb, List, [], ◌∷◌, length, sum, refl, sym, ◌∙◌, ap, subst, arith, inl, inr, ◌⊎◌}
use Rattle.std.specs.Prelude.{Contains, filter, not, Some, None}
use Rattle.std.specs.List.{All}
use Rattle.std.proofs.lemmas.Bool.{cases_Bool, cases_order}
use Rattle.std.proofs.lemmas.List.Concat.{length-flat_map}
use Rattle.std.proofs.lemmas.List.Sums.{sum-map, sum_by-cons}
use Rattle.std.proofs.lemmas.List.Elements.{All-contains, All-append, All-nil, All-cons}
use Rattle.light_base.specs.declared.tag.Event.{Event}
use Rattle.light_base.specs.declared.tag.Tag.{Tag}
use Rattle.replay_model.specs.declared.Entry.{Entry}
use Rattle.replay_model.specs.Steps.{same_tag}
use Rattle.replay_model.specs.Logs.{Log, HasEntry, last_tag, first_event, last_event}
use Rattle.replay_model.specs.Events.{IsEvent}
use Rattle.replay_model.specs.WellFormed.{IsWellFormed}
use Rattle.plain_search.specs.declared.Edge.{Edge}
use Rattle.plain_search.specs.Edges.{Holds}
use Rattle.plain_search.specs.Chains.{arrow, links, chains_from}
use Rattle.plain_search.specs.Searches.{Pair}
use Rattle.constraints.specs.Positions.{thread_numbers, events_of_thread, event_list, counts_of, event_at, position_of}
use Rattle.constraints.specs.Constraints.{is_last_of, sources_of, last_reads_from, edges_to, edges_from, source_edges, last_tag_edges, entry_edges, base_of, pairs_of, problem_of_log}
use Rattle.constraints.specs.Laws.{EventsAreListed, SourcesRise, IsWithin, EdgesAreWithin, SidesExclude, SourcesAreRead}
use Rattle.constraints.proofs.Members.{Rising, contains_none, contains_cases, of_filter, of_map}
use Rattle.constraints.proofs.Listed.{entry_is, of_list, in_list, list_once, position-event, event-position, position-below, positions-rising}
use Rattle.constraints.proofs.Listing.{list-listed}
use Rattle.constraints.proofs.Ranked.{NotAfter, All-from, Holds-split, hold-edges_to}
use Rattle.constraints.proofs.Sources.{source_in, first_in, last_in, of_sources, of_last_reads, in_last_reads}
use Rattle.constraints.proofs.Rivals.{sources-rising, of_pairs}
use Rattle.constraints.proofs.Solving.{of_base, source_rises, chains_keep}
use Rattle.constraints.proofs.Respecting.{last_tag_in}

pub events_are_listed : EventsAreListed
events_are_listed log formed = record {
  order = list-listed log;
  all = in_list log formed;
  only = of_list log;
  once = list_once log;
  at = λ e is. event-position log e (in_list log formed e is);
  position = position-event log;
}

pub last_reads-rising : (log : Log) (word s : ℕ) → Rising (last_reads_from log word s)
unfolding last_reads_from
last_reads-rising log word s = positions-rising log (is_last_of log word (Some (event_at log s)))

pub sources_rise : SourcesRise
sources_rise log word formed = record { sources = sources-rising log word; last_reads = last_reads-rising log word; some = some }
  where
    some : (s : ℕ) → Contains (sources_of log word) s → 0 < length (last_reads_from log word s)
    some s c =
        let (l, (t, a, d, w, q)) = of_sources log word s c in
        let (k, m, e) = in_last_reads log formed word s t a d w q in
        omega (arith, m)

abbrev Ends : ℕ → Edge → Type 0
Ends count e = (e.from < count) × (e.to < count)

links-end : (count n k : ℕ) → n + k < count → All (Ends count) (links n k)
links-end count n zero l = All-nil (Ends count)
links-end count n (suc k) l = All-cons (Ends count) (arrow n (n + 1)) (links (n + 1) k) (omega arith, omega arith) (links-end count (n + 1) k (omega arith))

chains-end : (count n : ℕ) (counts : List ℕ) → n + sum counts ≤ count → All (Ends count) (chains_from n counts)
chains-end count n [] l = All-nil (Ends count)
chains-end count n (zero ∷ counts) l =
    let e : zero - 1 ≡ zero = omega arith in
    let q = sum_by-cons (λ x. x) zero counts in
    All-append (Ends count) (links n (zero - 1)) (chains_from (n + zero) counts) (let P : ℕ → Type 0 = λ k. All (Ends count) (links n k) in subst P (sym e) (All-nil (Ends count)))
    (chains-end count (n + zero) counts (omega (arith, l, q)))
chains-end count n (suc c ∷ counts) l =
    let e : suc c - 1 ≡ c = omega arith in
    let q = sum_by-cons (λ x. x) (suc c) counts in
    All-append (Ends count) (links n (suc c - 1)) (chains_from (n + suc c) counts) (let P : ℕ → Type 0 = λ k. All (Ends count) (links n k) in subst P (sym e) (links-end count n c (omega (arith, l, q))))
    (chains-end count (n + suc c) counts (omega (arith, l, q)))

-- there are as many events as the threads have
pub counts-sum : (log : Log) → sum (counts_of log) ≡ length (event_list log)
unfolding counts_of event_list
counts-sum log = sum-map (λ t. length (events_of_thread log t)) (thread_numbers log) ∙ sym (length-flat_map (events_of_thread log) (thread_numbers log))

edges_to-end : (count : ℕ) (froms : List ℕ) (to : ℕ) → ((p : ℕ) → Contains froms p → p < count) → to < count → All (Ends count) (edges_to froms to)
edges_to-end count froms to h l = All-from (Ends count) (edges_to froms to) (λ e c.
    let (p, m, q) = of_map (λ from. arrow from to) (filter (λ from. not (eqb from to)) froms) e c in
    subst (Ends count) q (h p (of_filter (λ from. not (eqb from to)) froms p m).0, l))

edges_from-end : (count : ℕ) (from : ℕ) (tos : List ℕ) → from < count → ((p : ℕ) → Contains tos p → p < count) → All (Ends count) (edges_from from tos)
edges_from-end count from tos l h = All-from (Ends count) (edges_from from tos) (λ e c.
    let (p, m, q) = of_map (arrow from) (filter (λ to. not (eqb from to)) tos) e c in
    subst (Ends count) q (l, h p (of_filter (λ to. not (eqb from to)) tos p m).0))

entry-end : (log : Log) → IsWellFormed log → (t : ℕ) (a : Entry) → HasEntry log t a → All (Ends (length (event_list log))) (entry_edges log t a)
entry-end log formed t a c = All-append (Ends (length (event_list log))) (source_edges log t a a.source) (last_tag_edges log t a (last_tag log a.word)) (source a.source refl) (final (last_tag log a.word) refl)
  where
    at : (e : Event) → IsEvent log e → position_of log e < length (event_list log)
    at e is = position-below log e (in_list log formed e is)

    last : position_of log (last_event t a) < length (event_list log)
    last = at (last_event t a) (last_in log t a c)

    source : (tag : Tag) → a.source ≡ tag → All (Ends (length (event_list log))) (source_edges log t a tag)
    source None q = edges_from-end (length (event_list log)) (position_of log (last_event t a)) (sources_of log a.word) last (λ p m. (of_sources log a.word p m).0)
    source (Some x) q = All-cons (Ends (length (event_list log))) (arrow (position_of log x) (position_of log (first_event t a))) []
        (at x (source_in log t a x c q), at (first_event t a) (first_in log t a c)) (All-nil (Ends (length (event_list log))))

    final : (tag : Tag) → last_tag log a.word ≡ tag → All (Ends (length (event_list log))) (last_tag_edges log t a tag)
    final None q = All-nil (Ends (length (event_list log)))
    final (Some z) q = go (cases_Bool (same_tag a.source (Some z)))
      where
        only : (p : ℕ) → Contains (position_of log (last_event t a) ∷ []) p → p < length (event_list log)
        only p m = pick (contains_cases (position_of log (last_event t a)) [] p m)
          where
            pick : (position_of log (last_event t a) ≡ p) ⊎ Contains [] p → p < length (event_list log)
            pick (inl e) = let l = last in omega (arith, l, e)
            pick (inr k) = absurd (contains_none p k)

        go : (same_tag a.source (Some z) ≡ true) ⊎ (same_tag a.source (Some z) ≡ false) → All (Ends (length (event_list log))) (last_tag_edges log t a (Some z))
        go (inl s) = rw s (All-nil (Ends (length (event_list log))))
        go (inr s) = rw s (edges_to-end (length (event_list log)) (position_of log (last_event t a) ∷ []) (position_of log z) only (at z (last_tag_in log formed t a z c q)))

pub edges_are_within : EdgesAreWithin
edges_are_within log formed = record {
  base = record {
    within = All-append (Ends (length (event_list log))) (chains_from 0 (counts_of log)) (base_of log)
        (chains-end (length (event_list log)) 0 (counts_of log) (let q = counts-sum log in omega (arith, q)))
        (All-from (Ends (length (event_list log))) (base_of log) (λ e c. let (t, a, d, m) = of_base log e c in All-contains (Ends (length (event_list log))) (entry_edges log t a) e (entry-end log formed t a d) m));
  };
  lesser = All-from (λ (p : Pair). IsWithin log p.lesser) (pairs_of log) (λ p c.
      let (w, s, t, a, b, l, q) = of_pairs log p c in
      subst (λ (x : Pair). IsWithin log x.lesser) q (record { within = edges_to-end (length (event_list log)) (last_reads_from log w s) t (λ k m. (of_last_reads log w s k m).0) (of_sources log w t b).0 }));
  greater = All-from (λ (p : Pair). IsWithin log p.greater) (pairs_of log) (λ p c.
      let (w, s, t, a, b, l, q) = of_pairs log p c in
      subst (λ (x : Pair). IsWithin log x.greater) q (record { within = edges_to-end (length (event_list log)) (last_reads_from log w t) s (λ k m. (of_last_reads log w t k m).0) (of_sources log w s a).0 }));
}

-- a source ranks below the last of each entry that it has
read_ranks : (log : Log) (s : ℕ) (rank : ℕ → ℕ) → IsWellFormed log → Holds rank (problem_of_log log).edges → s < length (event_list log) → (u : ℕ) (a : Entry) → HasEntry log u a → a.source ≡ Some (event_at log s) →
    rank s < rank (position_of log (last_event u a))
read_ranks log s rank formed holds l u a d q =
    let x : rank (position_of log (event_at log s)) < rank (position_of log (first_event u a)) = source_rises log rank parts.1 u a (event_at log s) d q in
    let y : rank (position_of log (event_at log s)) ≡ rank s = ap rank (position-event log s l) in
    let v = within (cases_order a.first a.last) in
    omega (arith, v, x, y)
  where
    parts : Holds rank (chains_from 0 (counts_of log)) × Holds rank (base_of log)
    parts = Holds-split rank (chains_from 0 (counts_of log)) (base_of log) holds

    within : (a.first ≡ a.last) ⊎ ((a.first < a.last) ⊎ (a.last < a.first)) → rank (position_of log (first_event u a)) ≤ rank (position_of log (last_event u a))
    within (inl e) = let F : ℕ → Event = λ n. record { thread = u; step = n } in let q = ap (λ (n : ℕ). rank (position_of log (F n))) e in omega (arith, q)
    within (inr (inl l)) = let r = chains_keep log rank formed parts.0 (first_event u a) (last_event u a) (first_in log u a d) (last_in log u a d) refl l in omega (arith, r)
    within (inr (inr l)) = let f = (entry_is log formed u a d).between in absurd (omega (arith, f, l))

pub sources_are_read : SourcesAreRead
sources_are_read log word s last rank formed holds c d =
    let (k, (u, a, h, w, q, e)) = of_last_reads log word s last d in
    let x = read_ranks log s rank formed holds (of_sources log word s c).0 u a h q in
    let y : position_of log (last_event u a) ≡ last = ap (position_of log) e ∙ position-event log last k in
    let z = ap rank y in
    omega (arith, x, z)

-- where a side's edges hold, its source ranks below the other one
side_ranks : (log : Log) (word s t : ℕ) (rank : ℕ → ℕ) → IsWellFormed log → Holds rank (problem_of_log log).edges → Contains (sources_of log word) s → Holds rank (edges_to (last_reads_from log word s) t) → rank s < rank t
side_ranks log word s t rank formed holds c h =
    let (l, (u, a, d, w, q)) = of_sources log word s c in
    go (position_of log (last_event u a)) (hold-edges_to rank (last_reads_from log word s) t (position_of log (last_event u a)) h (in_last_reads log formed word s u a d w q))
    (read_ranks log s rank formed holds l u a d q)
  where
    go : (p : ℕ) → NotAfter rank p t → rank s < rank p → rank s < rank t
    go p (inl e) f = let q = ap rank e in omega (arith, q, f)
    go p (inr m) f = omega (arith, m, f)

pub sides_exclude : SidesExclude
sides_exclude log word s t rank formed holds c d n = (side_ranks log word s t rank formed holds c, side_ranks log word t s rank formed holds d)
