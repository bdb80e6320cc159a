-- How many events and sources a log has, and the groups of a word's sources.
use Rattle.replay_model.specs.WellFormed.{IsWellFormed}
use Rattle.light_base.specs.declared.tag.Event.{Event}
use Rattle.std.proofs.Common.{◌≡◌, ℕ, ◌+◌, ◌<◌, ◌≤◌, true, false, ltb, leb, List, length, get_or, sym, ◌∙◌, ap, subst, arith, inl, inr, ◌⊎◌, Bool, suc, ◌^◌, ◌∷◌, [], refl}
use Rattle.std.specs.Prelude.{◌↔◌, Contains}
use Rattle.std.specs.List.{range_with_len, count_by}
use Rattle.std.specs.List.Sorted.{IsPartitionedBy, IsPartitionPoint}
use Rattle.std.proofs.lemmas.Bool.{cases_lt, ltb-true, lt-ltb, le-ltb, le-leb, lt-leb, both_ways, cases_Bool}
use Rattle.std.proofs.lemmas.List.{length-map, get_or_default}
use Rattle.std.proofs.lemmas.List.Sums.{length-filter, count_by-le-length}
use Rattle.std.proofs.lemmas.List.FromFn.{length-range_with_len, length-map-range_with_len, get_or-map-range_with_len}
use Rattle.std.proofs.lemmas.List.Elements.{Contains-get_or, filter_agree}
use Rattle.replay_model.specs.Logs.{Log}
use Rattle.constraints.specs.Positions.{thread_numbers, events_of_thread, event_list, counts_of, no_event, event_at}
use Rattle.constraints.specs.Constraints.{is_source_of, sources_of, group_of}
use Rattle.constraints.specs.Building.{started_before, starts_of}
use Rattle.constraints.specs.Laws.{LogsAreSmall, SourcesAreGrouped}
use Rattle.constraints.proofs.Listed.{Before, before_from, of_list, event_there, event_taken}
use Rattle.constraints.proofs.Points.{count-point, count-more, count-none, count-all, count-yes, count-no, thread-partitioned}
use Rattle.constraints.proofs.Placing.{events_few}
use Rattle.constraints.proofs.Members.{Rising, contains_here, contains_next}
use Rattle.constraints.proofs.Listing.{list-listed}
use Rattle.constraints.proofs.Rivals.{sources-rising}
use Rattle.constraints.proofs.Shapes.{counts-sum}
use Rattle.constraints.proofs.Sources.{of_sources}

pub logs_are_small : LogsAreSmall
unfolding counts_of sources_of
logs_are_small log formed = record {
  few = events_few log formed;
  counted = counts-sum log;
  threads = length-map (thread_numbers log) (λ t. length (events_of_thread log t)) ∙ length-range_with_len 0 (length log.threads);
  sources = λ word.
      let a = length-filter (λ p. is_source_of log word (event_at log p)) (range_with_len 0 (length (event_list log))) in
      let b = count_by-le-length (λ p. is_source_of log word (event_at log p)) (range_with_len 0 (length (event_list log))) in
      let c = length-range_with_len 0 (length (event_list log)) in
      omega (arith, a, b, c);
}

-- the sources of a word go by thread
thread_rises : (log : Log) (word i j : ℕ) → i < j → j < length (sources_of log word) → (event_at log (get_or (sources_of log word) i 0)).thread ≤ (event_at log (get_or (sources_of log word) j 0)).thread
thread_rises log word i j l m =
    let c = of_sources log word (get_or (sources_of log word) j 0) (Contains-get_or (sources_of log word) j 0 m) in
    go (before_from log (get_or (sources_of log word) i 0) (get_or (sources_of log word) j 0) (sources-rising log word i j 0 l m) c.0)
  where
    go : Before (event_at log (get_or (sources_of log word) i 0)) (event_at log (get_or (sources_of log word) j 0)) → (event_at log (get_or (sources_of log word) i 0)).thread ≤ (event_at log (get_or (sources_of log word) j 0)).thread
    go (inl s) = omega (arith, s)
    go (inr (q, s)) = omega (arith, q)

source-partitioned : (log : Log) (word t : ℕ) → IsPartitionedBy (λ p. ltb (event_at log p).thread t) (sources_of log word)
source-partitioned log word t i j d l m h = go (cases_lt i j)
  where
    at : (k : ℕ) → k < length (sources_of log word) → get_or (sources_of log word) k d ≡ get_or (sources_of log word) k 0
    at k n = get_or_default (sources_of log word) k d 0 n

    go : (i < j) ⊎ (j ≤ i) → ltb (event_at log (get_or (sources_of log word) i d)).thread t ≡ true
    go (inl s) =
        let u = ltb-true (event_at log (get_or (sources_of log word) j d)).thread t h in
        let v = thread_rises log word i j s m in
        let x = ap (λ p. (event_at log p).thread) (at i (omega (arith, s, m))) in
        let y = ap (λ p. (event_at log p).thread) (at j m) in
        lt-ltb (event_at log (get_or (sources_of log word) i d)).thread t (omega (arith, u, v, x, y))
    go (inr s) = let q : j ≡ i = omega (arith, l, s) in let P : ℕ → Type 0 = λ n. ltb (event_at log (get_or (sources_of log word) n d)).thread t ≡ true in subst P q h

-- the two tests of a group are one
same_test : (m t : ℕ) → leb m t ≡ ltb m (t + 1)
same_test m t = go (cases_lt t m)
  where
    go : (t < m) ⊎ (m ≤ t) → leb m t ≡ ltb m (t + 1)
    go (inl l) = lt-leb m t l ∙ sym (le-ltb m (t + 1) (omega arith))
    go (inr l) = le-leb m t l ∙ sym (lt-ltb m (t + 1) (omega arith))

next_group : (log : Log) (word t : ℕ) → (group_of log word t).1 ≡ (group_of log word (t + 1)).0
next_group log word t =
    let a = length-filter (λ p. leb (event_at log p).thread t) (sources_of log word) in
    let b = length-filter (λ p. ltb (event_at log p).thread (t + 1)) (sources_of log word) in
    let c = ap (λ (xs : List ℕ). length xs) (filter_agree (λ p. leb (event_at log p).thread t) (λ p. ltb (event_at log p).thread (t + 1)) (λ p. same_test (event_at log p).thread t) (sources_of log word)) in
    omega (arith, a, b, c)

pub sources_are_grouped : SourcesAreGrouped
sources_are_grouped log word formed = record { first = first; next = next_group log word; rising = rising; all = all; thread = thread }
  where
    point : (t i : ℕ) → i < length (sources_of log word) → ((event_at log (get_or (sources_of log word) i 0)).thread < t) ⊎ (t ≤ (event_at log (get_or (sources_of log word) i 0)).thread) →
        ((i < (group_of log word t).0) × ((event_at log (get_or (sources_of log word) i 0)).thread < t)) ⊎ (((group_of log word t).0 ≤ i) × (t ≤ (event_at log (get_or (sources_of log word) i 0)).thread))
    point t i l c =
        let p = count-point (λ p. ltb (event_at log p).thread t) (sources_of log word) (source-partitioned log word t) in
        go c (cases_lt i (group_of log word t).0) p.0 p.1
      where
        go : ((event_at log (get_or (sources_of log word) i 0)).thread < t) ⊎ (t ≤ (event_at log (get_or (sources_of log word) i 0)).thread) → (i < (group_of log word t).0) ⊎ ((group_of log word t).0 ≤ i) →
            ((k d : ℕ) → 0 ≤ k → k < (group_of log word t).0 → ltb (event_at log (get_or (sources_of log word) k d)).thread t ≡ true) →
            ((k d : ℕ) → (group_of log word t).0 ≤ k → k < length (sources_of log word) → ltb (event_at log (get_or (sources_of log word) k d)).thread t ≡ false) →
            ((i < (group_of log word t).0) × ((event_at log (get_or (sources_of log word) i 0)).thread < t)) ⊎ (((group_of log word t).0 ≤ i) × (t ≤ (event_at log (get_or (sources_of log word) i 0)).thread))
        go (inl m) (inl n) low high = inl (n, m)
        go (inl m) (inr n) low high = absurd (both_ways (ltb (event_at log (get_or (sources_of log word) i 0)).thread t) (high i 0 n l) (lt-ltb (event_at log (get_or (sources_of log word) i 0)).thread t m))
        go (inr m) (inl n) low high = let s = ltb-true (event_at log (get_or (sources_of log word) i 0)).thread t (low i 0 (omega arith) n) in absurd (omega (arith, s, m))
        go (inr m) (inr n) low high = inr (n, m)

    first : (group_of log word 0).0 ≡ 0
    first = count-none (λ p. ltb (event_at log p).thread 0) (sources_of log word) (λ p c. le-ltb (event_at log p).thread 0 (omega arith))

    rising : (t : ℕ) → (group_of log word t).0 ≤ (group_of log word t).1
    rising t =
        let e = next_group log word t in
        let m = count-more (λ p. ltb (event_at log p).thread t) (λ p. ltb (event_at log p).thread (t + 1)) (sources_of log word)
        (λ p h. let l = ltb-true (event_at log p).thread t h in lt-ltb (event_at log p).thread (t + 1) (omega (arith, l))) in
        omega (arith, e, m)

    thread : (t i : ℕ) → i < length (sources_of log word) → ((group_of log word t).0 ≤ i × i < (group_of log word t).1) ↔ ((event_at log (get_or (sources_of log word) i 0)).thread ≡ t)
    thread t i l =
        let e = next_group log word t in
        let a = point t i l (cases_lt (event_at log (get_or (sources_of log word) i 0)).thread t) in
        let b = point (t + 1) i l (cases_lt (event_at log (get_or (sources_of log word) i 0)).thread (t + 1)) in
        ((λ h. let (x, y) = h in grind (arith, a, b, e, x, y)), (λ h. grind (arith, a, b, e, h)))

    all : (t : ℕ) → length log.threads ≤ t + 1 → (group_of log word t).1 ≡ length (sources_of log word)
    all t l = count-all (λ p. leb (event_at log p).thread t) (sources_of log word) (λ p c.
        let (m, h) = of_sources log word p c in
        let k : (event_at log p).thread < length log.threads = (event_taken log formed (event_at log p) (of_list log (event_at log p) (event_there log p m))).thread in
        le-leb (event_at log p).thread t (omega (arith, l, k)))

-- numbers that rise pass the test to be below a bound at first
pub rising-partitioned : (positions : List ℕ) (bound : ℕ) → Rising positions → IsPartitionedBy (λ p. ltb p bound) positions
rising-partitioned positions bound h i j d l m t = go (cases_lt i j)
  where
    go : (i < j) ⊎ (j ≤ i) → ltb (get_or positions i d) bound ≡ true
    go (inl s) =
        let a = h i j d s m in
        let b = ltb-true (get_or positions j d) bound t in
        lt-ltb (get_or positions i d) bound (omega (arith, a, b))
    go (inr s) = let q : j ≡ i = omega (arith, l, s) in let P : ℕ → Type 0 = λ n. ltb (get_or positions n d) bound ≡ true in subst P q t

-- a position is below the start of a thread exactly where its event is of an earlier one
start-test : (log : Log) (t p : ℕ) → p < length (event_list log) → ltb p (started_before (event_list log) t) ≡ ltb (event_at log p).thread t
start-test log t p l = go (cases_lt p (started_before (event_list log) t))
    (count-point (λ (e : Event). ltb e.thread t) (event_list log) (thread-partitioned (event_list log) t (list-listed log)))
  where
    go : (p < started_before (event_list log) t) ⊎ (started_before (event_list log) t ≤ p) →
        IsPartitionPoint (λ (e : Event). ltb e.thread t ≡ true) (λ (e : Event). ltb e.thread t ≡ false) (event_list log) (started_before (event_list log) t) → ltb p (started_before (event_list log) t) ≡ ltb (event_at log p).thread t
    go (inl m) (low, high) = lt-ltb p (started_before (event_list log) t) m ∙ sym (low p no_event (omega arith) m)
    go (inr m) (low, high) = le-ltb p (started_before (event_list log) t) m ∙ sym (high p no_event m l)

agree : {X : Type 0} (p q : X → Bool) (xs : List X) → ((x : X) → Contains xs x → p x ≡ q x) → count_by p xs ≡ count_by q xs
agree p q [] h = refl
agree p q (x ∷ xs) h = go (cases_Bool (p x)) (agree p q xs (λ y c. h y (contains_next x xs y c)))
  where
    go : (p x ≡ true) ⊎ (p x ≡ false) → count_by p xs ≡ count_by q xs → count_by p (x ∷ xs) ≡ count_by q (x ∷ xs)
    go (inl t) ih = count-yes p x xs t ∙ ap suc ih ∙ sym (count-yes q x xs (sym (h x (contains_here x xs)) ∙ t))
    go (inr t) ih = count-no p x xs t ∙ ih ∙ sym (count-no q x xs (sym (h x (contains_here x xs)) ∙ t))

-- so a group begins and ends where the threads' starts are passed
pub group-begin : (log : Log) (word t n m : ℕ) (starts row : List ℕ) → n ≡ t → starts ≡ starts_of (event_list log) (length log.threads) → t ≤ length log.threads → row ≡ sources_of log word →
    m ≡ count_by (λ p. ltb p (get_or starts n 0)) row → m ≡ (group_of log word t).0
group-begin log word t n m starts row q s l r e =
    let x : get_or starts n 0 ≡ started_before (event_list log) t = ap (λ xs. get_or xs n 0) s ∙ ap (λ k. get_or (starts_of (event_list log) (length log.threads)) k 0) q ∙
    get_or-map-range_with_len (started_before (event_list log)) 0 (length log.threads + 1) t t 0 (omega (arith, l)) (omega arith) in
    e ∙ ap (count_by (λ p. ltb p (get_or starts n 0))) r ∙ ap (λ k. count_by (λ p. ltb p k) (sources_of log word)) x ∙
    agree (λ p. ltb p (started_before (event_list log) t)) (λ p. ltb (event_at log p).thread t) (sources_of log word) (λ p c. start-test log t p (of_sources log word p c).0)

pub group-end : (log : Log) (word t n m : ℕ) (starts row : List ℕ) → n ≡ t → starts ≡ starts_of (event_list log) (length log.threads) → t < length log.threads → row ≡ sources_of log word →
    m ≡ count_by (λ p. ltb p (get_or starts (n + 1) 0)) row → m ≡ (group_of log word t).1
group-end log word t n m starts row q s l r e = group-begin log word (t + 1) (n + 1) m starts row (ap (λ k. k + 1) q) s (omega arith) r e ∙ sym (next_group log word t)

pub starts-long : (log : Log) (starts : List ℕ) → starts ≡ starts_of (event_list log) (length log.threads) → length starts ≡ length log.threads + 1
starts-long log starts s = ap length s ∙ length-map-range_with_len (started_before (event_list log)) 0 (length log.threads + 1)

pub row-rising : (log : Log) (word : ℕ) (row : List ℕ) → row ≡ sources_of log word → Rising row
row-rising log word row r = let P : List ℕ → Type 0 = λ xs. Rising xs in subst P (sym r) (sources-rising log word)

pub row-few : (log : Log) (word : ℕ) (row : List ℕ) → IsWellFormed log → row ≡ sources_of log word → length row < 2 ^ 32
row-few log word row formed r =
    let a = (logs_are_small log formed).sources word in
    let b = (logs_are_small log formed).few in
    let c : length row ≡ length (sources_of log word) = ap length r in
    omega (arith, a, b, c)
