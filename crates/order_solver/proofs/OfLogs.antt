-- What a well-formed log gives the search is what the search relies on.
use Rattle.std.proofs.Common.{◌≡◌, ℕ, ◌+◌, ◌^◌, ◌<◌, ◌≤◌, Bool, true, length, get_or, sum, refl, ◌∙◌, ap, arith, inl, inr}
use Rattle.std.specs.Prelude.{Contains, Some, nat_lt}
use Rattle.std.specs.List.{range_with_len}
use Rattle.std.proofs.lemmas.Bool.{both_ways}
use Rattle.std.proofs.lemmas.List.{length-map}
use Rattle.std.proofs.lemmas.List.Sums.{length-filter, count_by-le-length}
use Rattle.std.proofs.lemmas.List.FromFn.{length-range_with_len}
use Rattle.std.proofs.lemmas.List.Elements.{Contains-get_or, All-contains, Contains-append_right}
use Rattle.plain_search.specs.declared.Edge.{Edge}
use Rattle.plain_search.specs.Chains.{chains_from}
use Rattle.plain_search.specs.Edges.{Holds}
use Rattle.plain_search.proofs.Rankings.{Holds-split}
use Rattle.replay_model.specs.Logs.{Log}
use Rattle.replay_model.specs.WellFormed.{IsWellFormed}
use Rattle.constraints.specs.Positions.{event_list, event_at, position_of, counts_of}
use Rattle.constraints.specs.Constraints.{sources_of, last_reads_from, base_of, is_source_of, is_last_of}
use Rattle.constraints.proofs.Listed.{Before, event_there, of_list, event_taken, position-event, before_from, of_positions}
use Rattle.constraints.proofs.Rivals.{sources-rising}
use Rattle.constraints.proofs.Shapes.{counts-sum, edges_are_within, sides_exclude}
use Rattle.constraints.proofs.Solving.{chains_keep}
use Rattle.order_solver.specs.Rivals.{AreRivals, edges_in}
use Rattle.order_solver.specs.Logs.{start_of, rivalry_of}
use Rattle.order_solver.proofs.Prefixes.{NeverFalls, count-none, count-all, count-more, count-low, count-high}

-- a source is a position of an event
pub source-below : (log : Log) (word s : ℕ) → Contains (sources_of log word) s → s < length (event_list log)
unfolding sources_of
source-below log word s c = (of_positions log (is_source_of log word) s c).0

pub last-below : (log : Log) (word s l : ℕ) → Contains (last_reads_from log word s) l → l < length (event_list log)
unfolding last_reads_from
last-below log word s l c = (of_positions log (is_last_of log word (Some (event_at log s))) l c).0

pub counts-length : (log : Log) → length (counts_of log) ≡ length log.threads
unfolding counts_of
counts-length log = length-map _ _ ∙ length-range_with_len 0 (length log.threads)

pub sources-length : (log : Log) (word : ℕ) → length (sources_of log word) ≤ length (event_list log)
unfolding sources_of
sources-length log word =
    let test : ℕ → Bool = λ p. is_source_of log word (event_at log p) in
    let a = length-filter test (range_with_len 0 (length (event_list log))) in
    let b = count_by-le-length test (range_with_len 0 (length (event_list log))) in
    let d = length-range_with_len 0 (length (event_list log)) in
    omega (arith, a, b, d)

abbrev pub thread_at : Log → ℕ → ℕ
thread_at log p = (event_at log p).thread

source-there : (log : Log) (word i : ℕ) → i < length (sources_of log word) → get_or (sources_of log word) i 0 < length (event_list log)
source-there log word i l = source-below log word (get_or (sources_of log word) i 0) (Contains-get_or (sources_of log word) i 0 l)

sources-up : (log : Log) (word i j : ℕ) → i < j → j < length (sources_of log word) → get_or (sources_of log word) i 0 < get_or (sources_of log word) j 0
sources-up log word i j l m = sources-rising log word i j 0 l m

-- threads of sources never fall
pub threads-along : (log : Log) (word : ℕ) → NeverFalls (thread_at log) (sources_of log word)
threads-along log word = record { along = λ i j l m. go i j (before_from log (get_or (sources_of log word) i 0) (get_or (sources_of log word) j 0) (sources-up log word i j l m) (source-there log word j m)) }
  where
    go : (i j : ℕ) → Before (event_at log (get_or (sources_of log word) i 0)) (event_at log (get_or (sources_of log word) j 0)) →
        thread_at log (get_or (sources_of log word) i 0) ≤ thread_at log (get_or (sources_of log word) j 0)
    go i j (inl l) = omega (arith, l)
    go i j (inr (e, l)) = omega (arith, e)

pub are_rivals : (log : Log) → IsWellFormed log → length (event_list log) < 2 ^ 32 → AreRivals (rivalry_of log)
are_rivals log formed few = record {
  nodes_few = (let e = nodes in omega (arith, e, few));
  threads_few = (let e = counts-length log in let t = formed.range.threads in omega (arith, e, t));
  words_few = (let w = formed.range.words in omega (arith, w));
  sources_few = λ word w. let l = sources-length log word in omega (arith, l, few);
  base = λ e c.
      let (u, v) = All-contains (λ (x : Edge). (x.from < length (event_list log)) × (x.to < length (event_list log))) (edges_in (rivalry_of log)) e (edges_are_within log formed).base.within
      (Contains-append_right (chains_from 0 (counts_of log)) (base_of log) e c) in
      let q = nodes in (omega (arith, u, q), omega (arith, v, q));
  source = λ word s w c. let l = source-below log word s c in let e = nodes in omega (arith, l, e);
  last = λ word s l w c d. let m = last-below log word s l d in let e = nodes in omega (arith, m, e);
  before = λ rank word s t h w c d n side. (sides_exclude log word s t rank formed h c d n).0 side;
  others = λ rank word s t h w c d n up. absurd (both_ways true n refl);
  once = λ word i j w l m e. let u = sources-up log word i j l m in absurd (omega (arith, u, e));
  first = λ word w. count-none (thread_at log) 0 (sources_of log word) (λ i l. omega arith);
  end = λ word w. count-all (thread_at log) (length (counts_of log)) (sources_of log word) (λ i l. below word i l);
  next = λ word t w l. count-more (thread_at log) t (sources_of log word);
  rising = λ rank word t i j h w l a b d. up rank word t i j h (let m = count_by-le-length (λ p. nat_lt (thread_at log p) (t + 1)) (sources_of log word) in omega (arith, m, d)) a b d;
}
  where
    nodes : sum (counts_of log) ≡ length (event_list log)
    nodes = counts-sum log

    below : (word i : ℕ) → i < length (sources_of log word) → thread_at log (get_or (sources_of log word) i 0) < length (counts_of log)
    below word i l =
        let p = get_or (sources_of log word) i 0 in
        let t = (event_taken log formed (event_at log p) (of_list log (event_at log p) (event_there log p (source-there log word i l)))).thread in
        let e = counts-length log in omega (arith, t, e)

    up : (rank : ℕ → ℕ) (word t i j : ℕ) → Holds rank (edges_in (rivalry_of log)) → j < length (sources_of log word) → start_of log word t ≤ i → i < j → j < start_of log word (t + 1) →
        rank (get_or (sources_of log word) i 0) < rank (get_or (sources_of log word) j 0)
    up rank word t i j h m a b d =
        let p = get_or (sources_of log word) i 0 in
        let q = get_or (sources_of log word) j 0 in
        let n : i < length (sources_of log word) = omega (arith, b, m) in
        let along = threads-along log word in
        let low : t ≤ thread_at log p = count-high (thread_at log) t (sources_of log word) i along n a in
        let high : thread_at log q < t + 1 = count-low (thread_at log) (t + 1) (sources_of log word) j along m d in
        step p q (source-there log word i n) (source-there log word j m) low high (before_from log p q (sources-up log word i j b m) (source-there log word j m))
      where
        step : (p q : ℕ) → p < length (event_list log) → q < length (event_list log) → t ≤ thread_at log p → thread_at log q < t + 1 → Before (event_at log p) (event_at log q) → rank p < rank q
        step p q lp lq low high (inl l) = absurd (omega (arith, low, high, l))
        step p q lp lq low high (inr (e, l)) =
            let k : rank (position_of log (event_at log p)) < rank (position_of log (event_at log q)) =
            chains_keep log rank formed (Holds-split rank (chains_from 0 (counts_of log)) (base_of log) h).0 (event_at log p) (event_at log q) (of_list log (event_at log p) (event_there log p lp))
            (of_list log (event_at log q) (event_there log q lq)) e l in
            let x = ap rank (position-event log p lp) in
            let y = ap rank (position-event log q lq) in
            omega (arith, k, x, y)
