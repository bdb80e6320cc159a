-- A search for the cut of a step.
use Rattle.std.proofs.Common.{◌≡◌, ℕ, ◌+◌, ◌<◌, ◌≤◌, List, length, refl, sym, ◌∙◌, ap, subst, arith, inl, inr, ◌⊎◌}
use Rattle.std.specs.Prelude.{Some, None, slice_index_or, slice_set, replicate, max}
use Rattle.std.proofs.lemmas.List.{length-replicate, length-set, get_or_past, get_or_default, get_or-replicate, get_or-set_same, get_or-set_other}
use Rattle.std.proofs.lemmas.Bool.{cases_eq, cases_lt}
use Rattle.replay_model.specs.declared.Entry.{Entry}
use Rattle.replay_model.specs.Steps.{Event, Tag}
use Rattle.replay_model.specs.Logs.{Log, thread_of, HasEntry, first_event}
use Rattle.replay_model.specs.WellFormed.{IsTagOf, IsWellFormed}
use Rattle.replay_laws.proofs.Places.{entry_thread}
use Rattle.cut_laws.specs.Cuts.{number_of, IsWithin, IsClosed, IsCut}
use Rattle.cut_laws.specs.Searches.{IsSearched, first_numbers, raised}

-- no thread goes
none_go : (count t : ℕ) → number_of (replicate count 0) t ≡ 0
none_go count t = go (cases_lt t count)
  where
    go : (t < count) ⊎ (count ≤ t) → number_of (replicate count 0) t ≡ 0
    go (inl l) = get_or-replicate count t 0 0 l
    go (inr l) = get_or_past (replicate count 0) t 0 (let n = length-replicate {A = ℕ} count 0 in omega (arith, n, l))

-- a number that was set, and the others
number_set : (numbers : List ℕ) (u n t : ℕ) → ((t ≡ u) × (number_of (slice_set numbers u n) t ≡ n)) ⊎ (number_of (slice_set numbers u n) t ≡ number_of numbers t)
number_set numbers u n t = go (cases_eq t u) (cases_lt u (length numbers))
  where
    go : (t ≡ u) ⊎ (t ≡ u → ⊥) → (u < length numbers) ⊎ (length numbers ≤ u) →
        ((t ≡ u) × (number_of (slice_set numbers u n) t ≡ n)) ⊎ (number_of (slice_set numbers u n) t ≡ number_of numbers t)
    go (inl e) (inl l) = inl (e, ap (λ (x : ℕ). number_of (slice_set numbers u n) x) e ∙ get_or-set_same numbers u n 0 l)
    go (inl e) (inr l) =
        let m = length-set numbers u n in
        inr (get_or_past (slice_set numbers u n) t 0 (omega (arith, m, l, e)) ∙ sym (get_or_past numbers t 0 (omega (arith, l, e))))
    go (inr ne) l = inr (get_or-set_other numbers u t n 0 ne)

-- the start
pub started : (log : Log) (thread step : ℕ) → thread < length log.threads → IsSearched log thread step (first_numbers (length log.threads) thread step) (replicate (length log.threads) 0)
started log thread step l = record {
  counted = length-set (replicate (length log.threads) 0) thread step ∙ length-replicate {A = ℕ} (length log.threads) 0;
  below = λ other closed t. low other closed t (number_set (replicate (length log.threads) 0) thread step t);
  reaches =
      let n = length-replicate {A = ℕ} (length log.threads) 0 in
      let s : number_of (first_numbers (length log.threads) thread step) thread ≡ step = get_or-set_same (replicate (length log.threads) 0) thread step 0 (omega (arith, n, l)) in omega (arith, s);
  sources = λ t k d source kl m q. absurd (let z = none_go (length log.threads) t in omega (arith, z, kl));
}
  where
    low : (other : List ℕ) → IsClosed log thread step other → (t : ℕ) →
        ((t ≡ thread) × (number_of (first_numbers (length log.threads) thread step) t ≡ step)) ⊎ (number_of (first_numbers (length log.threads) thread step) t ≡ number_of (replicate (length log.threads) 0) t) →
        number_of (first_numbers (length log.threads) thread step) t ≤ number_of other t
    low other closed t (inl (e, q)) =
        let r = closed.reaches in
        let z : number_of other t ≡ number_of other thread = ap (number_of other) e in omega (arith, q, r, z)
    low other closed t (inr q) = let z = none_go (length log.threads) t in omega (arith, q, z)

-- numbers rise
risen : (numbers : List ℕ) (tag : Tag) (t : ℕ) → number_of numbers t ≤ number_of (raised numbers tag) t
risen numbers None t = omega arith
risen numbers (Some source) t = go (number_set numbers source.thread (max (number_of numbers source.thread) source.step) t)
  where
    go : ((t ≡ source.thread) × (number_of (raised numbers (Some source)) t ≡ max (number_of numbers source.thread) source.step)) ⊎ (number_of (raised numbers (Some source)) t ≡ number_of numbers t) →
        number_of numbers t ≤ number_of (raised numbers (Some source)) t
    go (inl (e, q)) = let z : number_of numbers t ≡ number_of numbers source.thread = ap (number_of numbers) e in omega (arith, q, z)
    go (inr q) = omega (arith, q)

module _ (log : Log) (thread step : ℕ) (numbers nexts : List ℕ) (t : ℕ) (entry : Entry) (is : IsSearched log thread step numbers nexts)
    (there : number_of nexts t < length (thread_of log t).entries) (here : entry ≡ slice_index_or (thread_of log t).entries (number_of nexts t) entry)
    (begun : IsWithin numbers (first_event t entry)) where
  has : HasEntry log t entry
  has = (number_of nexts t, there, sym here)

  -- no number is too high
  raised_low : (tag : Tag) → entry.source ≡ tag → (other : List ℕ) → IsClosed log thread step other → (u : ℕ) → number_of (raised numbers tag) u ≤ number_of other u
  raised_low None q other closed u = is.below other closed u
  raised_low (Some source) q other closed u = go (number_set numbers source.thread (max (number_of numbers source.thread) source.step) u)
    where
      go : ((u ≡ source.thread) × (number_of (raised numbers (Some source)) u ≡ max (number_of numbers source.thread) source.step)) ⊎ (number_of (raised numbers (Some source)) u ≡ number_of numbers u) →
          number_of (raised numbers (Some source)) u ≤ number_of other u
      go (inl (e, n)) =
          let a = is.below other closed source.thread in
          let b = is.below other closed t in
          let c = closed.sources t entry source has (omega (arith, b, begun)) q in
          let z : number_of other u ≡ number_of other source.thread = ap (number_of other) e in omega (arith, a, c, n, z)
      go (inr n) = let a = is.below other closed u in omega (arith, a, n)

  -- the source of the entry is within the numbers
  raised_far : (tag : Tag) → entry.source ≡ tag → (source : Event) → entry.source ≡ Some source → source.thread < length log.threads → IsWithin (raised numbers tag) source
  raised_far None q source r l = let no : None ≡ Some source = sym q ∙ r in cc no
  raised_far (Some x) q source r l =
      let y : Some x ≡ Some source = sym q ∙ r in
      let same : x ≡ source = cc y in
      let c = is.counted in
      subst (λ (e : Event). IsWithin (raised numbers (Some e)) source) (sym same)
      (let s : number_of (raised numbers (Some source)) source.thread ≡ max (number_of numbers source.thread) source.step =
      get_or-set_same numbers source.thread (max (number_of numbers source.thread) source.step) 0 (omega (arith, l, c)) in omega (arith, s))

  raised_count : (tag : Tag) → length (raised numbers tag) ≡ length log.threads
  raised_count None = is.counted
  raised_count (Some source) = length-set numbers source.thread _ ∙ is.counted

  -- the search went on by this entry
  pub went_on : IsWellFormed log → IsSearched log thread step (raised numbers entry.source) (slice_set nexts t (number_of nexts t + 1))
  went_on well = record {
    counted = raised_count entry.source;
    below = λ other closed u. raised_low entry.source refl other closed u;
    reaches = let a = is.reaches in let b = risen numbers entry.source thread in omega (arith, a, b);
    sources = λ u k d source kl m q. sources u k d source kl m q (number_set nexts t (number_of nexts t + 1) u);
  }
    where
      near : (source : Event) → entry.source ≡ Some source → IsWithin (raised numbers entry.source) source
      near source q =
          let each = (well.threads t (entry_thread log t entry has)).each entry has in
          let taken = subst (IsTagOf log) q each.source in
          raised_far entry.source refl source q taken.thread

      old : (u k : ℕ) (d : Entry) (source : Event) → k < number_of nexts u → k < length (thread_of log u).entries → (slice_index_or (thread_of log u).entries k d).source ≡ Some source → IsWithin (raised numbers entry.source) source
      old u k d source kl m q =
          let a = is.sources u k d source kl m q in
          let b = risen numbers entry.source source.thread in omega (arith, a, b)

      same : (k : ℕ) (d : Entry) (source : Event) → k ≡ number_of nexts t → (slice_index_or (thread_of log t).entries k d).source ≡ Some source → entry.source ≡ Some source
      same k d source e q =
          let h : slice_index_or (thread_of log t).entries k d ≡ entry =
          ap (λ (x : ℕ). slice_index_or (thread_of log t).entries x d) e ∙ get_or_default (thread_of log t).entries (number_of nexts t) d entry there ∙ sym here in
          sym (ap (λ (x : Entry). x.source) h) ∙ q

      sources : (u k : ℕ) (d : Entry) (source : Event) → k < number_of (slice_set nexts t (number_of nexts t + 1)) u → k < length (thread_of log u).entries →
          (slice_index_or (thread_of log u).entries k d).source ≡ Some source →
          ((u ≡ t) × (number_of (slice_set nexts t (number_of nexts t + 1)) u ≡ number_of nexts t + 1)) ⊎ (number_of (slice_set nexts t (number_of nexts t + 1)) u ≡ number_of nexts u) →
          IsWithin (raised numbers entry.source) source
      sources u k d source kl m q (inr n) = old u k d source (omega (arith, kl, n)) m q
      sources u k d source kl m q (inl (e, n)) = go (cases_lt k (number_of nexts t))
        where
          go : (k < number_of nexts t) ⊎ (number_of nexts t ≤ k) → IsWithin (raised numbers entry.source) source
          go (inl l) = let z : number_of nexts u ≡ number_of nexts t = ap (number_of nexts) e in old u k d source (omega (arith, l, z)) m q
          go (inr l) =
              let P : ℕ → Type 0 = λ x. (slice_index_or (thread_of log x).entries k d).source ≡ Some source in
              near source (same k d source (omega (arith, kl, n, l)) (subst P e q))

-- where no next entry has begun, none of the later ones has
pub ended : (log : Log) (thread step : ℕ) (numbers nexts : List ℕ) → IsWellFormed log → IsSearched log thread step numbers nexts →
    ((t : ℕ) (d : Entry) → number_of nexts t < length (thread_of log t).entries → number_of numbers t < (slice_index_or (thread_of log t).entries (number_of nexts t) d).first) →
    IsCut log thread step numbers
ended log thread step numbers nexts well is none = record {
  closed = record { counted = is.counted; reaches = is.reaches; sources = λ t entry source (k, l, h) w q. go t entry source k l h w q (cases_lt k (number_of nexts t)) };
  least = is.below;
}
  where
    go : (t : ℕ) (entry : Entry) (source : Event) (k : ℕ) → k < length (thread_of log t).entries → slice_index_or (thread_of log t).entries k entry ≡ entry →
        IsWithin numbers (first_event t entry) → entry.source ≡ Some source → (k < number_of nexts t) ⊎ (number_of nexts t ≤ k) → IsWithin numbers source
    go t entry source k l h w q (inl m) = is.sources t k entry source m l (ap (λ (x : Entry). x.source) h ∙ q)
    go t entry source k l h w q (inr m) =
        let n = none t entry (omega (arith, l, m)) in
        let f : (slice_index_or (thread_of log t).entries k entry).first ≡ entry.first = ap (λ (x : Entry). x.first) h in
        absurd (at n f (cases_lt (number_of nexts t) k))
      where
        at : number_of numbers t < (slice_index_or (thread_of log t).entries (number_of nexts t) entry).first → (slice_index_or (thread_of log t).entries k entry).first ≡ entry.first →
            (number_of nexts t < k) ⊎ (k ≤ number_of nexts t) → ⊥
        at n f (inl lt) =
            let r = (well.threads t (entry_thread log t entry (k, l, h))).rising (number_of nexts t) k entry lt l in omega (arith, n, f, r, w)
        at n f (inr le) =
            let z : k ≡ number_of nexts t = omega arith in
            let s : (slice_index_or (thread_of log t).entries k entry).first ≡ (slice_index_or (thread_of log t).entries (number_of nexts t) entry).first = ap (λ (x : ℕ). (slice_index_or (thread_of log t).entries x entry).first) z in
            omega (arith, n, f, s, w)
