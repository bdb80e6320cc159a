-- A write ranks below its last reads, and both sides of a pair never hold.
use Rattle.std.proofs.Common.{◌≡◌, ℕ, ◌<◌, true, false, List, length, refl, sym, ap, subst, arith, inl, inr, ◌⊎◌}
use Rattle.std.specs.Prelude.{◌≢◌, Contains, Some}
use Rattle.std.proofs.lemmas.Bool.{cases_Bool, cases_order}
use Rattle.light_base.specs.declared.tag.Event.{Event}
use Rattle.plain_search.specs.Edges.{Holds}
use Rattle.plain_search.specs.Chains.{chains_from}
use Rattle.replay_model.specs.declared.Entry.{Entry}
use Rattle.replay_model.specs.Steps.{Step}
use Rattle.replay_model.specs.Threads.{Threads, StaysWithin}
use Rattle.replay_model.specs.Logs.{Log, HasEntry, first_event, last_event}
use Rattle.replay_model.specs.RunLogs.{Tallies}
use Rattle.replay_model.specs.Fitting.{Fits}
use Rattle.constraints.specs.Constraints.{edges_to}
use Rattle.constraints.proofs.Ranked.{NotAfter, Holds-split, hold-edges_to}
use Rattle.audit.specs.Positions.{placed_list, placed_counts, placed_at, position_of}
use Rattle.audit.specs.Constraints.{writes_to, is_read, last_reads_of, base_of, placing_problem}
use Rattle.audit.specs.PlacingLaws.{WritesAreRead, SidesExclude}
use Rattle.audit.proofs.Listed.{position-at}
use Rattle.audit.proofs.Writes.{read-entry, of_writes, of_last_reads, in_last_reads, unread_last}
use Rattle.audit.proofs.Keeping.{told, counted, first_placed, last_placed}
use Rattle.audit.proofs.Solving.{rank_at, chains_keep, source_rises}
use Rattle.audit.proofs.Placings.{inside}

module _ (threads : Threads) (tallies : Tallies) (initial : List ℕ) (log : Log) (runs : List (List Step)) (rank : ℕ → ℕ)
    (within : StaysWithin threads (length initial)) (fits : Fits threads tallies initial log runs) (holds : Holds rank (placing_problem log runs).edges) where
  parts : Holds rank (chains_from 0 (placed_counts log runs)) × Holds rank (base_of log runs)
  parts = Holds-split rank (chains_from 0 (placed_counts log runs)) (base_of log runs) holds

  -- an entry's source ranks below its last
  below_last : (t : ℕ) (a : Entry) (x : Event) → HasEntry log t a → a.source ≡ Some x → rank_at log runs rank x < rank_at log runs rank (last_event t a)
  below_last t a x c q = go (cases_order a.first a.last)
      (source_rises initial log runs (told threads tallies initial log runs fits) (counted threads tallies initial log runs fits) (inside threads tallies initial log runs within fits) rank parts.1 t a x c q)
    where
      go : (a.first ≡ a.last) ⊎ ((a.first < a.last) ⊎ (a.last < a.first)) → rank_at log runs rank x < rank_at log runs rank (first_event t a) → rank_at log runs rank x < rank_at log runs rank (last_event t a)
      go (inl e) l = let P : ℕ → Type 0 = λ n. rank_at log runs rank x < rank_at log runs rank (record { thread = t; step = n }) in subst P e l
      go (inr (inl m)) l =
          let r = chains_keep initial log runs (told threads tallies initial log runs fits) (counted threads tallies initial log runs fits) (inside threads tallies initial log runs within fits) rank parts.0
          (first_event t a) (last_event t a) (first_placed log runs t a c) (last_placed log runs t a c) refl m in omega (arith, l, r)
      go (inr (inr m)) l = absurd (let k = ((told threads tallies initial log runs fits).inside t a c).1 in omega (arith, k, m))

  below_read : (s : ℕ) → s < length (placed_list log runs) → (t : ℕ) (a : Entry) → HasEntry log t a → a.source ≡ Some (placed_at log runs s) → rank s < rank (position_of log runs (last_event t a))
  below_read s l t a c q =
      let P : ℕ → Type 0 = λ n. rank n < rank (position_of log runs (last_event t a)) in
      subst P (position-at initial log runs (told threads tallies initial log runs fits) (counted threads tallies initial log runs fits) s l) (below_last t a (placed_at log runs s) c q)

  read_after : (word s last : ℕ) → Contains (writes_to log runs word) s → Contains (last_reads_of log runs s) last → (last ≡ s) ⊎ (rank s < rank last)
  read_after word s last m c =
      let (l, v, hw) = of_writes initial log runs (told threads tallies initial log runs fits) (counted threads tallies initial log runs fits) word s m in
      go l (of_last_reads initial log runs (told threads tallies initial log runs fits) (counted threads tallies initial log runs fits) s last l c)
    where
      go : s < length (placed_list log runs) → ((t : ℕ) × (a : Entry) × HasEntry log t a × (a.source ≡ Some (placed_at log runs s)) × (last ≡ position_of log runs (last_event t a))) ⊎
          ((last ≡ s) × ((t : ℕ) × (a : Entry) × HasEntry log t a × (a.source ≡ Some (placed_at log runs s)) → ⊥)) → (last ≡ s) ⊎ (rank s < rank last)
      go l (inl (t, a, d, q, e)) = inr (subst (λ (n : ℕ). rank s < rank n) (sym e) (below_read s l t a d q))
      go l (inr (e, n)) = inl e

  side_before : (word s t : ℕ) → Contains (writes_to log runs word) s → s ≢ t → Holds rank (edges_to (last_reads_of log runs s) t) → rank s < rank t
  side_before word s t m ne h =
      let (l, v, hw) = of_writes initial log runs (told threads tallies initial log runs fits) (counted threads tallies initial log runs fits) word s m in
      go l (cases_Bool (is_read log (placed_at log runs s)))
    where
      past : (p : ℕ) → rank s < rank p → NotAfter rank p t → rank s < rank t
      past p k (inl e) = let q = ap rank e in omega (arith, k, q)
      past p k (inr g) = omega (arith, k, g)

      go : s < length (placed_list log runs) → (is_read log (placed_at log runs s) ≡ true) ⊎ (is_read log (placed_at log runs s) ≡ false) → rank s < rank t
      go l (inl r) =
          let (u, a, c, q) = read-entry log (placed_at log runs s) r in
          past (position_of log runs (last_event u a)) (below_read s l u a c q)
          (hold-edges_to rank (last_reads_of log runs s) t (position_of log runs (last_event u a)) h
          (in_last_reads initial log runs (told threads tallies initial log runs fits) (counted threads tallies initial log runs fits) s u a c q))
      go l (inr r) = alone (hold-edges_to rank (last_reads_of log runs s) t s h (unread_last initial log runs (told threads tallies initial log runs fits) (counted threads tallies initial log runs fits) s r))
        where
          alone : NotAfter rank s t → rank s < rank t
          alone (inl e) = absurd (ne e)
          alone (inr k) = k

pub writes_are_read : WritesAreRead
writes_are_read threads tallies initial log runs word s last rank within fits holds m c = read_after threads tallies initial log runs rank within fits holds word s last m c

pub sides_exclude : SidesExclude
sides_exclude threads tallies initial log runs word s t rank within fits holds m k ne = (
  λ h. side_before threads tallies initial log runs rank within fits holds word s t m ne h,
  λ h. side_before threads tallies initial log runs rank within fits holds word t s k (λ e. ne (sym e)) h,
)
