-- A ranking solves a log's problem exactly where the ranks that it gives the events keep the log's rules.
use Rattle.std.proofs.Common.{◌≡◌, ℕ, ◌+◌, ◌<◌, Bool, true, false, cond, [], ◌∷◌, length, get_or, refl, sym, ◌∙◌, ap, subst, arith, inl, inr, ◌⊎◌}
use Rattle.std.specs.Prelude.{◌≢◌, Contains, Some, None}
use Rattle.std.specs.List.{flat_map, AllPairs}
use Rattle.std.proofs.lemmas.Bool.{cases_Bool, cases_order, both_ways}
use Rattle.std.proofs.lemmas.List.{get_or_default}
use Rattle.std.proofs.lemmas.List.Elements.{All-contains, All-append, All-nil, All-cons, All-head}
use Rattle.light_base.specs.declared.tag.Event.{Event}
use Rattle.light_base.specs.declared.tag.Tag.{Tag}
use Rattle.replay_model.specs.declared.Entry.{Entry}
use Rattle.replay_model.specs.Steps.{same_tag}
use Rattle.replay_model.specs.Logs.{Log, thread_of, HasEntry, last_tag, first_event, last_event}
use Rattle.replay_model.specs.Events.{IsEvent}
use Rattle.replay_model.specs.WellFormed.{IsWellFormed}
use Rattle.replay_model.proofs.Tags.{same_tag-true, same_tag-same}
use Rattle.replay_laws.proofs.Places.{entry_thread}
use Rattle.plain_search.specs.declared.Edge.{Edge}
use Rattle.plain_search.specs.Edges.{Holds}
use Rattle.plain_search.specs.Chains.{arrow, chains_from}
use Rattle.plain_search.specs.Searches.{Pair, HoldsOneSide, Solves}
use Rattle.constraints.specs.Positions.{thread_numbers, events_of_thread, event_list, counts_of, no_event, event_at, position_of}
use Rattle.constraints.specs.Constraints.{sources_of, last_reads_from, edges_to, source_edges, last_tag_edges, entry_edges, base_of, pair_of, pairs_of, problem_of_log}
use Rattle.constraints.proofs.Members.{contains_none, contains_here, contains_cases, of_flat_map, in_flat_map, in_range}
use Rattle.constraints.proofs.Listed.{Before, of_thread, in_thread, entry_is, event_taken, in_list, thread_before, position-event, event-position, one_position}
use Rattle.constraints.proofs.Ranked.{Rises, NotAfter, RankedAt, All-from, Holds-split, edges_to-hold, hold-edges_to, edges_from-hold, hold-edges_from, none_after, chains-hold, hold-chains}
use Rattle.constraints.proofs.Sources.{source_in, last_in, of_sources, in_sources, of_last_reads, in_last_reads}
use Rattle.constraints.proofs.Rivals.{of_pairs, in_pairs}
use Rattle.constraints.proofs.Keeping.{IsUpTo, Keeps}

-- the rank of an event
abbrev pub rank_at : Log → (ℕ → ℕ) → Event → ℕ
rank_at log rank e = rank (position_of log e)

pub up_to-not_after : (log : Log) (rank : ℕ → ℕ) (a b : Event) → IsUpTo (rank_at log rank) a b → NotAfter rank (position_of log a) (position_of log b)
up_to-not_after log rank a b (inl e) = inl (ap (position_of log) e)
up_to-not_after log rank a b (inr l) = inr l

pub not_after-up_to : (log : Log) (rank : ℕ → ℕ) (a b : Event) → Contains (event_list log) a → NotAfter rank (position_of log a) (position_of log b) → IsUpTo (rank_at log rank) a b
not_after-up_to log rank a b c (inl e) = inl (one_position log a b c e)
not_after-up_to log rank a b c (inr l) = inr l

-- the base edges are those of entries
pub of_base : (log : Log) (e : Edge) → Contains (base_of log) e → (t : ℕ) × (a : Entry) × HasEntry log t a × Contains (entry_edges log t a) e
unfolding base_of
of_base log e c =
    let (t, m, d) = of_flat_map (λ t. flat_map (entry_edges log t) (thread_of log t).entries) (thread_numbers log) e c in
    let (a, h, k) = of_flat_map (entry_edges log t) (thread_of log t).entries e d in
    (t, a, h, k)

pub in_base : (log : Log) (t : ℕ) (a : Entry) (e : Edge) → HasEntry log t a → Contains (entry_edges log t a) e → Contains (base_of log) e
unfolding base_of
in_base log t a e h c =
    let l = entry_thread log t a h in
    in_flat_map (λ t. flat_map (entry_edges log t) (thread_of log t).entries) (thread_numbers log) t e (in_range 0 (length log.threads) t (omega arith) (omega (arith, l)))
    (in_flat_map (entry_edges log t) (thread_of log t).entries a e h c)

-- events of a thread stand in its list by rising number
pub by_number : (log : Log) (t : ℕ) (at : Event → ℕ) → AllPairs (λ a b. at a < at b) (events_of_thread log t) → (a b : Event) → Contains (events_of_thread log t) a → Contains (events_of_thread log t) b →
    a.step < b.step → at a < at b
by_number log t at h a b (i, l, x) (j, m, y) s = go (cases_order i j)
  where
    step_at : (k : ℕ) (e : Event) → k < length (events_of_thread log t) → get_or (events_of_thread log t) k e ≡ e → get_or (events_of_thread log t) k no_event ≡ e
    step_at k e n q = get_or_default (events_of_thread log t) k no_event e n ∙ q

    go : (i ≡ j) ⊎ ((i < j) ⊎ (j < i)) → at a < at b
    go (inl q) =
        let e : a ≡ b = sym (step_at i a l x) ∙ ap (λ n. get_or (events_of_thread log t) n no_event) q ∙ step_at j b m y in
        let r : a.step ≡ b.step = ap (λ (k : Event). k.step) e in absurd (omega (arith, s, r))
    go (inr (inl q)) =
        let r : at (get_or (events_of_thread log t) i no_event) < at (get_or (events_of_thread log t) j no_event) = h i j no_event q m in
        let u = ap at (step_at i a l x) in
        let v = ap at (step_at j b m y) in
        omega (arith, r, u, v)
    go (inr (inr q)) = absurd (no (thread_before log t j i no_event q l))
      where
        no : Before (get_or (events_of_thread log t) j no_event) (get_or (events_of_thread log t) i no_event) → ⊥
        no (inl r) =
            let u = ap (λ (k : Event). k.thread) (step_at i a l x) in
            let v = ap (λ (k : Event). k.thread) (step_at j b m y) in
            let p = (of_thread log t a (i, l, x)).0 in
            let o = (of_thread log t b (j, m, y)).0 in absurd (omega (arith, r, u, v, p, o))
        no (inr (p, r)) =
            let u = ap (λ (k : Event). k.step) (step_at i a l x) in
            let v = ap (λ (k : Event). k.step) (step_at j b m y) in absurd (omega (arith, r, u, v, s))

-- the rank of the event at each position
pub ranked_list : (log : Log) (rank : ℕ → ℕ) → RankedAt rank (rank_at log rank) 0 (flat_map (events_of_thread log) (thread_numbers log))
unfolding event_list
ranked_list log rank k d l =
    let q : position_of log (event_at log k) ≡ k = position-event log k l in
    let p : get_or (event_list log) k d ≡ event_at log k = get_or_default (event_list log) k d no_event l in
    ap rank (let z : 0 + k ≡ k = omega arith in z ∙ sym q ∙ ap (position_of log) (sym p))

pub chains_keep : (log : Log) (rank : ℕ → ℕ) → IsWellFormed log → Holds rank (chains_from 0 (counts_of log)) → (a b : Event) → IsEvent log a → IsEvent log b → a.thread ≡ b.thread → a.step < b.step →
    rank_at log rank a < rank_at log rank b
unfolding counts_of
chains_keep log rank formed h a b ea eb s l =
    let ta = event_taken log formed a ea in
    let tb = event_taken log formed b eb in
    let m : a.thread < length log.threads = ta.thread in
    by_number log a.thread (rank_at log rank)
    (hold-chains rank (rank_at log rank) (events_of_thread log) 0 (thread_numbers log) (ranked_list log rank) h a.thread (in_range 0 (length log.threads) a.thread (omega arith) (omega (arith, m))))
    a b (in_thread log a ta ea) (let P : ℕ → Type 0 = λ t. Contains (events_of_thread log t) b in subst P (sym s) (in_thread log b tb eb)) l

pub keep_chains : (log : Log) (rank : ℕ → ℕ) → ((a b : Event) → IsEvent log a → IsEvent log b → a.thread ≡ b.thread → a.step < b.step → rank_at log rank a < rank_at log rank b) →
    Holds rank (chains_from 0 (counts_of log))
unfolding counts_of
keep_chains log rank h = chains-hold rank (rank_at log rank) (events_of_thread log) 0 (thread_numbers log) (ranked_list log rank) (λ t c i j d l m. pair t i j d l m)
  where
    pair : (t i j : ℕ) (d : Event) → i < j → j < length (events_of_thread log t) → rank_at log rank (get_or (events_of_thread log t) i d) < rank_at log rank (get_or (events_of_thread log t) j d)
    pair t i j d l m =
        let k : i < length (events_of_thread log t) = omega (arith, l, m) in
        let a = get_or (events_of_thread log t) i d in
        let b = get_or (events_of_thread log t) j d in
        let (p, ea) = of_thread log t a (there i k) in
        let (q, eb) = of_thread log t b (there j m) in
        h a b ea eb (p ∙ sym q) (steps (thread_before log t i j d l m))
      where
        there : (n : ℕ) → n < length (events_of_thread log t) → Contains (events_of_thread log t) (get_or (events_of_thread log t) n d)
        there n o = (n, o, get_or_default (events_of_thread log t) n _ d o)

        steps : Before (get_or (events_of_thread log t) i d) (get_or (events_of_thread log t) j d) → (get_or (events_of_thread log t) i d).step < (get_or (events_of_thread log t) j d).step
        steps (inl r) =
            let p = (of_thread log t (get_or (events_of_thread log t) i d) (there i (omega (arith, l, m)))).0 in
            let q = (of_thread log t (get_or (events_of_thread log t) j d) (there j m)).0 in absurd (omega (arith, r, p, q))
        steps (inr (p, r)) = r

-- what an entry asks for holds
entry_holds : (log : Log) (rank : ℕ → ℕ) → Holds rank (base_of log) → (t : ℕ) (a : Entry) → HasEntry log t a → Holds rank (source_edges log t a a.source) × Holds rank (last_tag_edges log t a (last_tag log a.word))
entry_holds log rank h t a c = Holds-split rank (source_edges log t a a.source) (last_tag_edges log t a (last_tag log a.word))
    (All-from (Rises rank) (entry_edges log t a) (λ e m. All-contains (Rises rank) (base_of log) e h (in_base log t a e c m)))

-- so a source ranks below the first read of it
pub source_rises : (log : Log) (rank : ℕ → ℕ) → Holds rank (base_of log) → (t : ℕ) (a : Entry) (x : Event) → HasEntry log t a → a.source ≡ Some x → rank_at log rank x < rank_at log rank (first_event t a)
source_rises log rank h t a x c q =
    let P : Tag → Type 0 = λ tag. Holds rank (source_edges log t a tag) in
    All-head (Rises rank) (arrow (position_of log x) (position_of log (first_event t a))) [] (subst P q (entry_holds log rank h t a c).0)

-- a ranking that solves the problem keeps the rules
pub solves-keeps : (log : Log) (rank : ℕ → ℕ) → IsWellFormed log → Solves (problem_of_log log) rank → Keeps log (rank_at log rank)
solves-keeps log rank formed solves = record {
  rising = chains_keep log rank formed parts.0;
  source_first = source_rises log rank parts.1;
  apart = λ t u a b x y c d w p q n. apart t u a b x y c d w p q n (cases_order (position_of log x) (position_of log y));
  from_initial = λ t u a b y c d w p q. from_initial t u a b y c d w p q;
  final = λ t a z c q n. final t a z c q n;
}
  where
    parts : Holds rank (chains_from 0 (counts_of log)) × Holds rank (base_of log)
    parts = Holds-split rank (chains_from 0 (counts_of log)) (base_of log) solves.base

    there : (e : Event) → IsEvent log e → Contains (event_list log) e
    there e is = in_list log formed e is

    from_initial : (t u : ℕ) (a b : Entry) (y : Event) → HasEntry log t a → HasEntry log u b → a.word ≡ b.word → a.source ≡ None → b.source ≡ Some y → IsUpTo (rank_at log rank) (last_event t a) y
    from_initial t u a b y c d w p q =
        let P : Tag → Type 0 = λ tag. Holds rank (source_edges log t a tag) in
        let h = subst P p (entry_holds log rank parts.1 t a c).0 in
        not_after-up_to log rank (last_event t a) y (there (last_event t a) (last_in log t a c))
        (hold-edges_from rank (position_of log (last_event t a)) (sources_of log a.word) (position_of log y) h (in_sources log formed a.word u b y d (sym w) q))

    final : (t : ℕ) (a : Entry) (z : Event) → HasEntry log t a → last_tag log a.word ≡ Some z → a.source ≢ Some z → IsUpTo (rank_at log rank) (last_event t a) z
    final t a z c q n =
        let P : Tag → Type 0 = λ tag. Holds rank (last_tag_edges log t a tag) in
        let h : Holds rank (last_tag_edges log t a (Some z)) = subst P q (entry_holds log rank parts.1 t a c).1 in
        not_after-up_to log rank (last_event t a) z (there (last_event t a) (last_in log t a c)) (go h (cases_Bool (same_tag a.source (Some z))))
      where
        go : Holds rank (last_tag_edges log t a (Some z)) → (same_tag a.source (Some z) ≡ true) ⊎ (same_tag a.source (Some z) ≡ false) → NotAfter rank (position_of log (last_event t a)) (position_of log z)
        go h (inl s) = absurd (n (same_tag-true a.source (Some z) s))
        go h (inr s) =
            let Q : Bool → Type 0 = λ b. Holds rank (cond b [] (edges_to (position_of log (last_event t a) ∷ []) (position_of log z))) in
            hold-edges_to rank (position_of log (last_event t a) ∷ []) (position_of log z) (position_of log (last_event t a)) (subst Q s h) (contains_here (position_of log (last_event t a)) [])

    -- the last reads of one source are up to another source of the word, where that side of the pair holds
    side : (w t u : ℕ) (a b : Entry) (x y : Event) → HasEntry log t a → a.word ≡ w → a.source ≡ Some x → IsEvent log y →
        Holds rank (edges_to (last_reads_from log w (position_of log x)) (position_of log y)) → IsUpTo (rank_at log rank) (last_event t a) y
    side w t u a b x y c wa p ey h =
        let m = in_last_reads log formed w (position_of log x) t a c wa (p ∙ ap Some (sym (event-position log x (there x (source_in log t a x c p))))) in
        not_after-up_to log rank (last_event t a) y (there (last_event t a) (last_in log t a c))
        (hold-edges_to rank (last_reads_from log w (position_of log x)) (position_of log y) (position_of log (last_event t a)) h m)

    apart : (t u : ℕ) (a b : Entry) (x y : Event) → HasEntry log t a → HasEntry log u b → a.word ≡ b.word → a.source ≡ Some x → b.source ≡ Some y → x ≢ y →
        (position_of log x ≡ position_of log y) ⊎ ((position_of log x < position_of log y) ⊎ (position_of log y < position_of log x)) →
        IsUpTo (rank_at log rank) (last_event t a) y ⊎ IsUpTo (rank_at log rank) (last_event u b) x
    apart t u a b x y c d w p q n (inl e) = absurd (n (one_position log x y (there x (source_in log t a x c p)) e))
    apart t u a b x y c d w p q n (inr (inl l)) = go (All-contains (HoldsOneSide rank) (pairs_of log) (pair_of log a.word (position_of log x) (position_of log y)) solves.sides
        (in_pairs log a.word (position_of log x) (position_of log y) (entry_is log formed t a c).word (in_sources log formed a.word t a x c refl p) (in_sources log formed a.word u b y d (sym w) q) l))
      where
        go : HoldsOneSide rank (pair_of log a.word (position_of log x) (position_of log y)) → IsUpTo (rank_at log rank) (last_event t a) y ⊎ IsUpTo (rank_at log rank) (last_event u b) x
        go (inl h) = inl (side a.word t u a b x y c refl p (source_in log u b y d q) h)
        go (inr h) = inr (side a.word u t b a y x d (sym w) q (source_in log t a x c p) h)
    apart t u a b x y c d w p q n (inr (inr l)) = go (All-contains (HoldsOneSide rank) (pairs_of log) (pair_of log a.word (position_of log y) (position_of log x)) solves.sides
        (in_pairs log a.word (position_of log y) (position_of log x) (entry_is log formed t a c).word (in_sources log formed a.word u b y d (sym w) q) (in_sources log formed a.word t a x c refl p) l))
      where
        go : HoldsOneSide rank (pair_of log a.word (position_of log y) (position_of log x)) → IsUpTo (rank_at log rank) (last_event t a) y ⊎ IsUpTo (rank_at log rank) (last_event u b) x
        go (inl h) = inr (side a.word u t b a y x d (sym w) q (source_in log t a x c p) h)
        go (inr h) = inl (side a.word t u a b x y c refl p (source_in log u b y d q) h)

-- and ranks that keep the rules solve it
pub keeps-solves : (log : Log) (rank : ℕ → ℕ) → IsWellFormed log → Keeps log (rank_at log rank) → Solves (problem_of_log log) rank
keeps-solves log rank formed keeps = record {
  base = All-append (Rises rank) (chains_from 0 (counts_of log)) (base_of log) (keep_chains log rank keeps.rising) (All-from (Rises rank) (base_of log) base);
  sides = All-from (HoldsOneSide rank) (pairs_of log) sides;
}
  where
    source : (t : ℕ) (a : Entry) → HasEntry log t a → (tag : Tag) → a.source ≡ tag → Holds rank (source_edges log t a tag)
    source t a c None q = edges_from-hold rank (position_of log (last_event t a)) (sources_of log a.word) each
      where
        each : (p : ℕ) → Contains (sources_of log a.word) p → NotAfter rank (position_of log (last_event t a)) p
        each p m =
            let (l, (u, b, d, w, s)) = of_sources log a.word p m in
            let h : NotAfter rank (position_of log (last_event t a)) (position_of log (event_at log p)) =
            up_to-not_after log rank (last_event t a) (event_at log p) (keeps.from_initial t u a b (event_at log p) c d (sym w) q s) in
            subst (λ (n : ℕ). NotAfter rank (position_of log (last_event t a)) n) (position-event log p l) h
    source t a c (Some x) q = All-cons (Rises rank) (arrow (position_of log x) (position_of log (first_event t a))) [] (keeps.source_first t a x c q) (All-nil (Rises rank))

    final : (t : ℕ) (a : Entry) → HasEntry log t a → (tag : Tag) → last_tag log a.word ≡ tag → Holds rank (last_tag_edges log t a tag)
    final t a c None q = All-nil (Rises rank)
    final t a c (Some z) q = go (cases_Bool (same_tag a.source (Some z)))
      where
        go : (same_tag a.source (Some z) ≡ true) ⊎ (same_tag a.source (Some z) ≡ false) → Holds rank (last_tag_edges log t a (Some z))
        go (inl s) = rw s (All-nil (Rises rank))
        go (inr s) = rw s (edges_to-hold rank (position_of log (last_event t a) ∷ []) (position_of log z) each)
          where
            each : (p : ℕ) → Contains (position_of log (last_event t a) ∷ []) p → NotAfter rank p (position_of log z)
            each p m = at (contains_cases (position_of log (last_event t a)) [] p m)
              where
                up : IsUpTo (rank_at log rank) (last_event t a) z
                up = keeps.final t a z c q (λ e. both_ways _ s (let P : Tag → Type 0 = λ x. same_tag a.source x ≡ true in subst P e (same_tag-same a.source)))

                at : (position_of log (last_event t a) ≡ p) ⊎ Contains [] p → NotAfter rank p (position_of log z)
                at (inl e) = subst (λ (n : ℕ). NotAfter rank n (position_of log z)) e (up_to-not_after log rank (last_event t a) z up)
                at (inr k) = absurd (contains_none p k)

    base : (e : Edge) → Contains (base_of log) e → Rises rank e
    base e m =
        let (t, a, c, k) = of_base log e m in
        All-contains (Rises rank) (entry_edges log t a) e
        (All-append (Rises rank) (source_edges log t a a.source) (last_tag_edges log t a (last_tag log a.word)) (source t a c a.source refl) (final t a c (last_tag log a.word) refl)) k

    sides : (p : Pair) → Contains (pairs_of log) p → HoldsOneSide rank p
    sides p m =
        let (w, s, t, c, d, l, q) = of_pairs log p m in
        subst (HoldsOneSide rank) q (one w s t c d l)
      where
        one : (w s t : ℕ) → Contains (sources_of log w) s → Contains (sources_of log w) t → s < t → HoldsOneSide rank (pair_of log w s t)
        one w s t c d l = go (none_after rank (last_reads_from log w s) t)
          where
            s_below : s < length (event_list log)
            s_below = (of_sources log w s c).0

            t_below : t < length (event_list log)
            t_below = (of_sources log w t d).0

            differ : event_at log s ≢ event_at log t
            differ e =
                let r : s ≡ t = sym (position-event log s s_below) ∙ ap (position_of log) e ∙ position-event log t t_below in
                absurd (omega (arith, l, r))

            -- of two last reads, one is not after the other source
            either : (p q : ℕ) → Contains (last_reads_from log w s) p → Contains (last_reads_from log w t) q → NotAfter rank p t ⊎ NotAfter rank q s
            either p q m k =
                let (pl, (pt, a, ca, wa, sa, la)) = of_last_reads log w s p m in
                let (ql, (qt, b, cb, wb, sb, lb)) = of_last_reads log w t q k in
                pick pl ql (keeps.apart pt qt a b (event_at log s) (event_at log t) ca cb (wa ∙ sym wb) sa sb differ) la lb
              where
                turn : (p t : ℕ) (e : Event) → p < length (event_list log) → t < length (event_list log) → IsUpTo (rank_at log rank) e (event_at log t) → e ≡ event_at log p → NotAfter rank p t
                turn p t e pl tl h q =
                    let u = up_to-not_after log rank e (event_at log t) h in
                    let x : position_of log e ≡ p = ap (position_of log) q ∙ position-event log p pl in
                    let y : position_of log (event_at log t) ≡ t = position-event log t tl in
                    subst (λ (n : ℕ). NotAfter rank p n) y (subst (λ (n : ℕ). NotAfter rank n (position_of log (event_at log t))) x u)

                pick : {e f : Event} → p < length (event_list log) → q < length (event_list log) →
                    IsUpTo (rank_at log rank) e (event_at log t) ⊎ IsUpTo (rank_at log rank) f (event_at log s) → e ≡ event_at log p → f ≡ event_at log q → NotAfter rank p t ⊎ NotAfter rank q s
                pick {e} {f} pl ql (inl h) x y = inl (turn p t e pl t_below h x)
                pick {e} {f} pl ql (inr h) x y = inr (turn q s f ql s_below h y)

            go : ((p : ℕ) → Contains (last_reads_from log w s) p → NotAfter rank p t) ⊎ ((p : ℕ) × Contains (last_reads_from log w s) p × (NotAfter rank p t → ⊥)) → HoldsOneSide rank (pair_of log w s t)
            go (inl h) = inl (edges_to-hold rank (last_reads_from log w s) t h)
            go (inr (p, m, late)) = inr (edges_to-hold rank (last_reads_from log w t) s (λ q k. other q (either p q m k)))
              where
                other : (q : ℕ) → NotAfter rank p t ⊎ NotAfter rank q s → NotAfter rank q s
                other q (inl h) = absurd (late h)
                other q (inr h) = h
