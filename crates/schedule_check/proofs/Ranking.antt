-- Entries and last tags by ranks: what the live ranges of the entries say of the entries.
use Rattle.std.proofs.Common.{◌≡◌, ℕ, ◌<◌, ◌≤◌, true, Some, None, eqb, List, [], ◌∷◌, ◌++◌, length, map, refl, sym, ◌∙◌, ap, subst, arith, inl, inr, ◌⊎◌}
use Rattle.std.specs.Prelude.{◌≢◌, ◌&&◌, not, nat_lt, Contains, slice_index}
use Rattle.std.specs.List.{flat_map}
use Rattle.std.specs.Option.{option_map}
use Rattle.std.proofs.lemmas.Bool.{cases_lt, cases_order, both_ways, and_parts, and_from, not-true, not_from_false, false_from_ne_true, eqb-true, eq-eqb, ltb-true, lt-ltb}
use Rattle.std.proofs.lemmas.List.{length-map, get_or-map, get_or_default, map-append}
use Rattle.std.proofs.lemmas.List.Elements.{Contains-get_or}
use Rattle.light_base.specs.declared.tag.Event.{Event}
use Rattle.light_base.specs.declared.tag.Tag.{Tag}
use Rattle.replay_model.specs.declared.Entry.{Entry}
use Rattle.replay_model.specs.Steps.{same_tag}
use Rattle.replay_model.specs.Logs.{Log, thread_of, HasEntry, last_tag, first_event, last_event}
use Rattle.replay_model.specs.Events.{IsEvent}
use Rattle.replay_model.specs.Orders.{place}
use Rattle.replay_model.specs.WellFormed.{IsWellFormed}
use Rattle.replay_model.proofs.Tags.{same_tag-true, same_tag-same}
use Rattle.replay_laws.proofs.Places.{place-contains, at_place, same_place}
use Rattle.order_judge.specs.declared.live_ranges.LiveRange.{LiveRange}
use Rattle.order_judge.specs.LiveRanges.{BeginsInside, Overlap}
use Rattle.constraints.specs.declared.placed.Placed.{Placed}
use Rattle.constraints.specs.Positions.{no_event, thread_numbers, event_list}
use Rattle.constraints.specs.Building.{placed_in, placed_entries}
use Rattle.constraints.proofs.Listed.{entry_is}
use Rattle.constraints.proofs.Sources.{source_in, first_in, last_in}
use Rattle.schedule_check.specs.Faults.{entries_of, rank_of, source_rank, first_rank, last_rank, are_crossed, outlives}
use Rattle.schedule_check.specs.Turns.{at, IsInTurn}
use Rattle.schedule_check.specs.Ranks.{rank_in, range_in, IsTimely, IsTooLong, placed_at}
use Rattle.schedule_check.proofs.Entries.{of_thread, of_entries}
use Rattle.schedule_check.proofs.Told.{entry_at}
use Rattle.schedule_check.proofs.Laying.{count_of}

-- the places of all events of the log in the order
pub record IsLaid (log : Log) (order : List Event) (places : List ℕ) : Type 0 where
  pub formed : IsWellFormed log
  pub all : (e : Event) → IsEvent log e → Contains order e
  pub count : length places ≡ count_of log
  pub same : (e : Event) → IsEvent log e → slice_index places (place (event_list log) e) ≡ place order e

abbrev pub placed_of : Log → ℕ × Entry → Placed
placed_of log x = placed_in (event_list log) x.0 x.1

placed_thread : (log : Log) (t : ℕ) (entries : List Entry) → map (placed_in (event_list log) t) entries ≡ map (placed_of log) (map (λ (entry : Entry). (t, entry)) entries)
placed_thread log t [] = refl
placed_thread log t (a ∷ entries) = ap (λ (rest : List Placed). placed_in (event_list log) t a ∷ rest) (placed_thread log t entries)

placed_threads : (log : Log) (ts : List ℕ) → flat_map (λ t. map (placed_in (event_list log) t) (thread_of log t).entries) ts ≡ map (placed_of log) (flat_map (of_thread log) ts)
placed_threads log [] = refl
placed_threads log (t ∷ ts) =
    let here = placed_thread log t (thread_of log t).entries in
    let rest = placed_threads log ts in
    let both : map (placed_in (event_list log) t) (thread_of log t).entries ++ flat_map (λ t. map (placed_in (event_list log) t) (thread_of log t).entries) ts ≡
    map (placed_of log) (of_thread log t) ++ map (placed_of log) (flat_map (of_thread log) ts) = rw (here, rest) refl in
    both ∙ sym (map-append (placed_of log) (of_thread log t) (flat_map (of_thread log) ts))

-- the entries by positions are the entries
pub placed_all : (log : Log) → placed_entries log ≡ map (placed_of log) (entries_of log)
placed_all log = placed_threads log (thread_numbers log)

pub placed-count : (log : Log) → length (placed_entries log) ≡ length (entries_of log)
placed-count log = ap length (placed_all log) ∙ length-map (entries_of log) (placed_of log)

pub placed-entry : (log : Log) (i : ℕ) → i < length (entries_of log) → placed_at (placed_entries log) i ≡ placed_of log (entry_at log i)
placed-entry log i l = ap (λ (xs : List Placed). placed_at xs i) (placed_all log) ∙ get_or-map (placed_of log) (entries_of log) i _ _ l

pub has-entry : (log : Log) (i : ℕ) → i < length (entries_of log) → HasEntry log (entry_at log i).0 (entry_at log i).1
has-entry log i l = of_entries log (entry_at log i) (Contains-get_or (entries_of log) i _ l)

-- the tag is initial, or an event of the log
abbrev pub IsNamed : Log → Tag → Type 0
IsNamed log tag = (e : Event) → tag ≡ Some e → IsEvent log e

pub rank-tag : (log : Log) (order : List Event) (places : List ℕ) → IsLaid log order places → (tag : Tag) → IsNamed log tag → rank_in places (option_map (place (event_list log)) tag) ≡ rank_of order tag
rank-tag log order places laid None n = refl
rank-tag log order places laid (Some e) n = let s = laid.same e (n e refl) in omega (arith, s)

-- equal ranks, equal tags
pub rank-one : (log : Log) (order : List Event) (places : List ℕ) → IsLaid log order places → (a b : Tag) → IsNamed log a → IsNamed log b → rank_of order a ≡ rank_of order b → a ≡ b
rank-one log order places laid None None p q h = refl
rank-one log order places laid None (Some y) p q h = absurd (omega (arith, h))
rank-one log order places laid (Some x) None p q h = absurd (omega (arith, h))
rank-one log order places laid (Some x) (Some y) p q h = ap (λ (e : Event). Some e) (same_place order x y (omega (arith, h)) (place-contains order x (laid.all x (p x refl))))

named-source : (log : Log) (t : ℕ) (a : Entry) → HasEntry log t a → IsNamed log a.source
named-source log t a h e q = source_in log t a e h q

named-event : (log : Log) (e : Event) → IsEvent log e → IsNamed log (Some e)
named-event log e i x q = let P : Event → Type 0 = IsEvent log in subst P (one q) i
  where
    one : Some e ≡ Some x → e ≡ x
    one h = cc

-- a last tag is an event
pub named-last : (log : Log) (word : ℕ) → word < length log.last_tags → IsNamed log (last_tag log word)
named-last log word l e q = inl (inr (word, l, get_or_default log.last_tags word (Some e) None l ∙ q))

-- the ranks that an entry's live range has
pub record IsRanged (order : List Event) (x : ℕ × Entry) (range : LiveRange) : Type 0 where
  pub word : range.word ≡ x.1.word
  pub from : range.from ≡ source_rank order x
  pub to : range.to ≡ last_rank order x

pub entry-ranged : (log : Log) (order : List Event) (places : List ℕ) → IsLaid log order places → (x : ℕ × Entry) → HasEntry log x.0 x.1 → IsRanged order x (range_in places (placed_of log x))
entry-ranged log order places laid x h = record {
  word = refl;
  from = rank-tag log order places laid x.1.source (named-source log x.0 x.1 h);
  to = rank-tag log order places laid (Some (last_event x.0 x.1)) (named-event log (last_event x.0 x.1) (last_in log x.0 x.1 h));
}

-- an entry's source stands before its first as its places say
pub timely-entry : (log : Log) (order : List Event) (places : List ℕ) → IsLaid log order places → (x : ℕ × Entry) → HasEntry log x.0 x.1 → IsTimely places (placed_of log x) → source_rank order x < first_rank order x
timely-entry log order places laid x h t =
    let a = rank-tag log order places laid x.1.source (named-source log x.0 x.1 h) in
    let b = rank-tag log order places laid (Some (first_event x.0 x.1)) (named-event log (first_event x.0 x.1) (first_in log x.0 x.1 h)) in
    omega (arith, a, b, t)

pub untimely-entry : (log : Log) (order : List Event) (places : List ℕ) → IsLaid log order places → (x : ℕ × Entry) → HasEntry log x.0 x.1 → (IsTimely places (placed_of log x) → ⊥) → first_rank order x ≤ source_rank order x
untimely-entry log order places laid x h never = go (cases_lt (source_rank order x) (first_rank order x))
  where
    go : (source_rank order x < first_rank order x) ⊎ (first_rank order x ≤ source_rank order x) → first_rank order x ≤ source_rank order x
    go (inl l) =
        let a = rank-tag log order places laid x.1.source (named-source log x.0 x.1 h) in
        let b = rank-tag log order places laid (Some (first_event x.0 x.1)) (named-event log (first_event x.0 x.1) (first_in log x.0 x.1 h)) in
        absurd (never (omega (arith, a, b, l)))
    go (inr l) = l

-- the first of an entry stands no later than its last
pub first-last : (log : Log) (order : List Event) (places : List ℕ) → IsLaid log order places → IsInTurn order (length order) → (x : ℕ × Entry) → HasEntry log x.0 x.1 → first_rank order x ≤ last_rank order x
first-last log order places laid turn x h = go (cases_order (place order first) (place order last))
  where
    first : Event
    first = first_event x.0 x.1

    last : Event
    last = last_event x.0 x.1

    lf : place order (first_event x.0 x.1) < length order
    lf = place-contains order (first_event x.0 x.1) (laid.all (first_event x.0 x.1) (first_in log x.0 x.1 h))

    ll : place order (last_event x.0 x.1) < length order
    ll = place-contains order (last_event x.0 x.1) (laid.all (last_event x.0 x.1) (last_in log x.0 x.1 h))

    go : (place order (first_event x.0 x.1) ≡ place order (last_event x.0 x.1)) ⊎ ((place order (first_event x.0 x.1) < place order (last_event x.0 x.1)) ⊎ (place order (last_event x.0 x.1) < place order (first_event x.0 x.1))) → first_rank order x ≤ last_rank order x
    go (inl e) = omega (arith, e)
    go (inr (inl l)) = omega (arith, l)
    go (inr (inr l)) =
        let ef = at_place order (first_event x.0 x.1) no_event lf in
        let el = at_place order (last_event x.0 x.1) no_event ll in
        let s = turn (place order (last_event x.0 x.1)) (place order (first_event x.0 x.1)) l lf (ap (λ (v : Event). v.thread) el ∙ sym (ap (λ (v : Event). v.thread) ef)) in
        let p : (at order (place order (first_event x.0 x.1))).step ≡ x.1.first = ap (λ (v : Event). v.step) ef in
        let q : (at order (place order (last_event x.0 x.1))).step ≡ x.1.last = ap (λ (v : Event). v.step) el in
        let b = (entry_is log laid.formed x.0 x.1 h).between in
        let same : x.1.first ≡ x.1.last = omega (arith, s, p, q, b) in
        let F : ℕ → ℕ = λ n. place order (record { thread = x.0; step = n }) in
        let e : place order (first_event x.0 x.1) ≡ place order (last_event x.0 x.1) = ap F same in
        absurd (omega (arith, e, l))

-- crossed entries are those whose live ranges overlap, where each source stands no later than its last
pub crossed-overlap : (log : Log) (order : List Event) (places : List ℕ) → IsLaid log order places → (x y : ℕ × Entry) (r s : LiveRange) → IsRanged order x r → IsRanged order y s → HasEntry log x.0 x.1 → HasEntry log y.0 y.1 →
    are_crossed order x y ≡ true → Overlap r s
crossed-overlap log order places laid x y r s a b h k t = go (cases_order (source_rank order x) (source_rank order y))
  where
    parts : (x.1.word ≡ y.1.word) × (x.1.source ≢ y.1.source) × (source_rank order y < last_rank order x) × (source_rank order x < last_rank order y)
    parts =
        let (abc, d) = and_parts (eqb x.1.word y.1.word && not (same_tag x.1.source y.1.source) && nat_lt (source_rank order y) (last_rank order x)) (nat_lt (source_rank order x) (last_rank order y)) t in
        let (ab, c) = and_parts (eqb x.1.word y.1.word && not (same_tag x.1.source y.1.source)) (nat_lt (source_rank order y) (last_rank order x)) abc in
        let (a, b) = and_parts (eqb x.1.word y.1.word) (not (same_tag x.1.source y.1.source)) ab in (
          eqb-true x.1.word y.1.word a,
          (λ e. both_ways _ (not-true (same_tag x.1.source y.1.source) b) (let P : Tag → Type 0 = λ v. same_tag x.1.source v ≡ true in subst P e (same_tag-same x.1.source))),
          ltb-true (source_rank order y) (last_rank order x) c,
          ltb-true (source_rank order x) (last_rank order y) d,
        )

    go : (source_rank order x ≡ source_rank order y) ⊎ ((source_rank order x < source_rank order y) ⊎ (source_rank order y < source_rank order x)) → Overlap r s
    go (inl e) = absurd (parts.1 (rank-one log order places laid x.1.source y.1.source (named-source log x.0 x.1 h) (named-source log y.0 y.1 k) e))
    go (inr (inl l)) = inr (record {
      word = b.word ∙ sym parts.0 ∙ sym a.word;
      after = let p = a.from in let q = b.from in omega (arith, p, q, l);
      before = let p = b.from in let q = a.to in let m = parts.2 in omega (arith, p, q, m);
    })
    go (inr (inr l)) = inl (record {
      word = a.word ∙ parts.0 ∙ sym b.word;
      after = let p = a.from in let q = b.from in omega (arith, p, q, l);
      before = let p = a.from in let q = b.to in let m = parts.3 in omega (arith, p, q, m);
    })

-- one begins inside the other: they are crossed
inside-crossed : (order : List Event) (x y : ℕ × Entry) (r s : LiveRange) → IsRanged order x r → IsRanged order y s → source_rank order x ≤ last_rank order x → BeginsInside r s →
    (x.1.word ≡ y.1.word) × (x.1.source ≢ y.1.source) × (source_rank order y < last_rank order x) × (source_rank order x < last_rank order y)
inside-crossed order x y r s a b later i = (
  sym a.word ∙ i.word ∙ b.word,
  (λ e. let q : source_rank order x ≡ source_rank order y = ap (rank_of order) e in let l = i.after in let p = a.from in let r = b.from in omega (arith, q, l, p, r)),
  (let l = i.after in let p = a.from in let r = b.from in omega (arith, l, p, r, later)),
  (let l = i.before in let p = a.from in let r = b.to in omega (arith, l, p, r)),
)

crossed_from : (order : List Event) (x y : ℕ × Entry) → (x.1.word ≡ y.1.word) × (x.1.source ≢ y.1.source) × (source_rank order y < last_rank order x) × (source_rank order x < last_rank order y) → are_crossed order x y ≡ true
crossed_from order x y (w, n, c, d) =
    and_from (eqb x.1.word y.1.word && not (same_tag x.1.source y.1.source) && nat_lt (source_rank order y) (last_rank order x)) (nat_lt (source_rank order x) (last_rank order y))
    (and_from (eqb x.1.word y.1.word && not (same_tag x.1.source y.1.source)) (nat_lt (source_rank order y) (last_rank order x))
    (and_from (eqb x.1.word y.1.word) (not (same_tag x.1.source y.1.source)) (eq-eqb x.1.word y.1.word w)
    (not_from_false (same_tag x.1.source y.1.source) (false_from_ne_true (same_tag x.1.source y.1.source) (λ t. n (same_tag-true x.1.source y.1.source t)))))
    (lt-ltb (source_rank order y) (last_rank order x) c)) (lt-ltb (source_rank order x) (last_rank order y) d)

pub overlap-crossed : (order : List Event) (x y : ℕ × Entry) (r s : LiveRange) → IsRanged order x r → IsRanged order y s → source_rank order x ≤ last_rank order x → source_rank order y ≤ last_rank order y → Overlap r s → are_crossed order x y ≡ true
overlap-crossed order x y r s a b lx ly (inl i) = crossed_from order x y (inside-crossed order x y r s a b lx i)
overlap-crossed order x y r s a b lx ly (inr i) =
    let (w, n, c, d) = inside-crossed order y x s r b a ly i in
    crossed_from order x y (sym w, (λ e. n (sym e)), d, c)

-- an entry outlives its word's last tag where its live range is too long
pub outlives-long : (log : Log) (order : List Event) (places ends : List ℕ) → IsLaid log order places → (word : ℕ) (x : ℕ × Entry) (r : LiveRange) → IsRanged order x r → HasEntry log x.0 x.1 → word < length log.last_tags →
    slice_index ends word ≡ rank_of order (last_tag log word) → outlives log order word x ≡ true → (r.word ≡ word) × IsTooLong ends r
outlives-long log order places ends laid word x r a h l e t =
    let (ab, c) = and_parts (eqb x.1.word word && not (same_tag x.1.source (last_tag log word))) (nat_lt (rank_of order (last_tag log word)) (last_rank order x)) t in
    let (p, q) = and_parts (eqb x.1.word word) (not (same_tag x.1.source (last_tag log word))) ab in
    let w : r.word ≡ word = a.word ∙ eqb-true x.1.word word p in
    let end : slice_index ends r.word ≡ rank_of order (last_tag log word) = ap (slice_index ends) w ∙ e in (
      w,
      record {
        other = λ s.
            let same : source_rank order x ≡ rank_of order (last_tag log word) = sym a.from ∙ s ∙ end in
            let one = rank-one log order places laid x.1.source (last_tag log word) (named-source log x.0 x.1 h) (named-last log word l) same in
            both_ways _ (not-true (same_tag x.1.source (last_tag log word)) q) (let P : Tag → Type 0 = λ v. same_tag x.1.source v ≡ true in subst P one (same_tag-same x.1.source));
        after = let m = ltb-true (rank_of order (last_tag log word)) (last_rank order x) c in let v = a.to in omega (arith, m, v, end);
      },
    )

pub long-outlives : (log : Log) (order : List Event) (ends : List ℕ) (word : ℕ) (x : ℕ × Entry) (r : LiveRange) → IsRanged order x r → r.word ≡ word → slice_index ends word ≡ rank_of order (last_tag log word) → IsTooLong ends r →
    outlives log order word x ≡ true
long-outlives log order ends word x r a w e long =
    let end : slice_index ends r.word ≡ rank_of order (last_tag log word) = ap (slice_index ends) w ∙ e in
    and_from (eqb x.1.word word && not (same_tag x.1.source (last_tag log word))) (nat_lt (rank_of order (last_tag log word)) (last_rank order x))
    (and_from (eqb x.1.word word) (not (same_tag x.1.source (last_tag log word))) (eq-eqb x.1.word word (sym a.word ∙ w))
    (not_from_false (same_tag x.1.source (last_tag log word)) (false_from_ne_true (same_tag x.1.source (last_tag log word)) (λ t.
    long.other (a.from ∙ ap (rank_of order) (same_tag-true x.1.source (last_tag log word) t) ∙ sym end)))))
    (lt-ltb (rank_of order (last_tag log word)) (last_rank order x) (let m = long.after in let v = a.to in omega (arith, m, v, end)))
