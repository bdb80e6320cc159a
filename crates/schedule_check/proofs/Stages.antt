-- The stages of the check, each from what was found by positions and places.
use Rattle.std.proofs.Common.{◌≡◌, ℕ, zero, suc, ◌+◌, ◌*◌, ◌^◌, ◌<◌, ◌≤◌, Option, Some, None, false, List, length, map, get_or, sym, ◌∙◌, ap, subst, arith}
use Rattle.std.specs.Prelude.{Contains, IfSome, All, slice_index}
use Rattle.std.specs.List.{flat_map, range_with_len}
use Rattle.std.specs.Option.{option_map}
use Rattle.std.proofs.lemmas.Bool.{false_from_ne_true}
use Rattle.std.proofs.lemmas.List.{length-map, get_or-map, get_or_default, length-append}
use Rattle.std.proofs.lemmas.List.Elements.{Contains-get_or, All-contains}
use Rattle.light_base.specs.declared.tag.Event.{Event}
use Rattle.light_base.specs.declared.tag.Tag.{Tag}
use Rattle.replay_model.specs.declared.Entry.{Entry}
use Rattle.replay_model.specs.Logs.{Log, thread_of, HasEntry, last_tag}
use Rattle.replay_model.specs.Events.{IsEvent}
use Rattle.replay_model.specs.Orders.{place}
use Rattle.replay_model.specs.WellFormed.{IsWellFormed}
use Rattle.replay_laws.proofs.Places.{place-contains, Contains-place}
use Rattle.order_judge.specs.declared.live_ranges.LiveRange.{LiveRange}
use Rattle.order_judge.specs.LiveRanges.{no_range, range_at, Overlap, IsFirstOverlap, AreApart}
use Rattle.constraints.specs.declared.placed.Placed.{Placed}
use Rattle.constraints.specs.Positions.{no_event, event_list}
use Rattle.constraints.specs.Building.{placed_in, placed_entries, placed_last_tags, HasEvents}
use Rattle.constraints.proofs.Listed.{entry_is, in_list}
use Rattle.constraints.proofs.Naming.{flat_map_range_more}
use Rattle.constraints.proofs.Placing.{entries_listed, last_tags_listed, of_placed}
use Rattle.schedule_check.specs.declared.faults.OrderKind.TheVariants.{ReadBeforeWrite, Between, Final}
use Rattle.schedule_check.specs.Faults.{fault, entries_of, rank_of, source_rank, first_rank, last_rank, are_crossed, outlives, first_early, first_crossed, first_outliving}
use Rattle.schedule_check.specs.Turns.{IsInTurn}
use Rattle.schedule_check.specs.Ranks.{rank_in, range_in, IsTimely, HasPlaces, IsFirstTooLong, NoneIsTooLong, placed_at, AreTimely, IsFirstUntimely}
use Rattle.schedule_check.specs.Placed.{IsPlaced}
use Rattle.schedule_check.proofs.Entries.{of_thread}
use Rattle.schedule_check.proofs.Told.{Told, entry_at, none-missing, early-none, early-some, crossed-none, crossed-some, outliving-none, outliving-some}
use Rattle.schedule_check.proofs.Ranking.{IsLaid, IsRanged, placed_of, placed-count, placed-entry, has-entry, rank-tag, named-last, entry-ranged, timely-entry, untimely-entry, first-last, crossed-overlap, overlap-crossed, outlives-long, long-outlives}

-- an order with each event once lays them all
pub placed-laid : (log : Log) (order events : List Event) (places : List ℕ) → IsPlaced log order events places → IsLaid log order places
placed-laid log order events places p = record {
  formed = p.formed;
  all = all;
  count = p.count ∙ ap length p.listed;
  same = λ e i. ap (λ (es : List Event). slice_index places (place es e)) (sym p.listed) ∙ p.same e i;
}
  where
    all : (e : Event) → IsEvent log e → Contains order e
    all e i = go (in_list log p.formed e i)
      where
        go : Contains (event_list log) e → Contains order e
        go (k, l, h) =
            let q : get_or (event_list log) k no_event ≡ e = get_or_default (event_list log) k no_event e l ∙ h in
            let P : Event → Type 0 = λ x. place order x < length order in
            Contains-place order e (subst P q (none-missing log order p.each_once.missing k l))

-- what the entries and the last tags name has places
pub entries-places : (log : Log) (order events : List Event) (places : List ℕ) (entries : List Placed) → IsPlaced log order events places → entries ≡ placed_entries log → All (HasPlaces places) entries
entries-places log order events places entries p e = λ k d l. has (get_or entries k d) (of_placed log (get_or entries k d) (subst (λ (xs : List Placed). Contains xs (get_or entries k d)) e (Contains-get_or entries k d l)))
  where
    inside : (x : Event) → Contains (event_list log) x → place (event_list log) x < length places
    inside x c = let l = place-contains (event_list log) x c in let n = p.count ∙ ap length p.listed in omega (arith, l, n)

    has : (v : Placed) → ((t : ℕ) × (a : Entry) × HasEntry log t a × (placed_in (event_list log) t a ≡ v)) → HasPlaces places v
    has v (t, a, h, q) =
        let n : HasEvents (event_list log) t a = All-contains (HasEvents (event_list log) t) (thread_of log t).entries a (entries_listed log p.formed t) h in
        subst (HasPlaces places) q (record { source = source a.source n.source; first = inside _ n.first; last = inside _ n.last })
      where
        source : (tag : Tag) → IfSome tag (λ (x : Event). Contains (event_list log) x) → IfSome (option_map (place (event_list log)) tag) (λ i. i < length places)
        source None c = tt
        source (Some x) c = inside x c

abbrev pub HasPlace : List ℕ → Option ℕ → Type 0
HasPlace places position = IfSome position (λ i. i < length places)

pub last_tags-places : (log : Log) (order events : List Event) (places : List ℕ) (last_tags : List (Option ℕ)) → IsPlaced log order events places → last_tags ≡ placed_last_tags log → All (HasPlace places) last_tags
last_tags-places log order events places last_tags p e = subst (λ (xs : List (Option ℕ)). All (HasPlace places) xs) (sym e) all
  where
    inside : (x : Event) → Contains (event_list log) x → place (event_list log) x < length places
    inside x c = let l = place-contains (event_list log) x c in let n = p.count ∙ ap length p.listed in omega (arith, l, n)

    one : (tag : Tag) → IfSome tag (λ (x : Event). Contains (event_list log) x) → HasPlace places (option_map (place (event_list log)) tag)
    one None c = tt
    one (Some x) c = inside x c

    all : All (HasPlace places) (placed_last_tags log)
    all k d l =
        let m : k < length log.last_tags = let c = length-map log.last_tags (option_map (place (event_list log))) in omega (arith, l, c) in
        subst (HasPlace places) (sym (get_or-map (option_map (place (event_list log))) log.last_tags k None d m)) (one (get_or log.last_tags k None) (last_tags_listed log p.formed k None m))

-- a log has at most so many entries
entries_below : (log : Log) → IsWellFormed log → (n : ℕ) → n ≤ length log.threads → length (flat_map (of_thread log) (range_with_len 0 n)) ≤ n * 16384
entries_below log formed zero l = omega arith
entries_below log formed (suc n) l =
    let q : suc n ≡ n + 1 = omega arith in
    let ih : length (flat_map (of_thread log) (range_with_len 0 n)) ≤ n * 16384 = entries_below log formed n (omega arith) in
    let e = ap (λ (xs : List (ℕ × Entry)). length xs) (flat_map_range_more (of_thread log) n) in
    let a = length-append (flat_map (of_thread log) (range_with_len 0 n)) (of_thread log n) in
    let pair : Entry → ℕ × Entry = λ entry. (n, entry) in
    let t = length-map (thread_of log n).entries pair in
    let s = (formed.threads n (omega arith)).entries in
    let r = formed.range.entries in
    let P : ℕ → Type 0 = λ k. length (flat_map (of_thread log) (range_with_len 0 k)) ≤ k * 16384 in
    subst P (sym q) (omega (arith, ih, e, a, t, s, r))

pub entries-few : (log : Log) → IsWellFormed log → length (entries_of log) < 2 ^ 32
entries-few log formed =
    let a = entries_below log formed (length log.threads) (omega arith) in
    let n = formed.range.threads in
    omega (arith, a, n)

-- read before write

pub stage_timely : (log : Log) (order : List Event) (places : List ℕ) (entries : List Placed) → IsLaid log order places → entries ≡ placed_entries log → AreTimely places entries (length entries) → (i : ℕ) → i < length (entries_of log) →
    source_rank order (entry_at log i) < first_rank order (entry_at log i)
stage_timely log order places entries laid e h i l =
    let n : length entries ≡ length (entries_of log) = ap length e ∙ placed-count log in
    let same : placed_at entries i ≡ placed_of log (entry_at log i) = ap (λ (xs : List Placed). placed_at xs i) e ∙ placed-entry log i l in
    timely-entry log order places laid (entry_at log i) (has-entry log i l) (subst (IsTimely places) same (h i (omega (arith, n, l))))

pub stage_early-none : (log : Log) (order : List Event) (places : List ℕ) (entries : List Placed) → IsLaid log order places → entries ≡ placed_entries log → AreTimely places entries (length entries) → first_early log order ≡ None
stage_early-none log order places entries laid e h = early-none log order (stage_timely log order places entries laid e h)

pub stage_early : (log : Log) (order : List Event) (places : List ℕ) (entries : List Placed) → IsLaid log order places → entries ≡ placed_entries log → (i : ℕ) → IsFirstUntimely places entries i → Told (first_early log order) (fault ReadBeforeWrite i 0)
stage_early log order places entries laid e i f =
    early-some log order i below
    (untimely-entry log order places laid (entry_at log i) (has-entry log i below) (λ t. f.here (subst (IsTimely places) (sym (same i below)) t)))
    (λ m b. let l : m < length (entries_of log) = let k = below in omega (arith, b, k) in
    timely-entry log order places laid (entry_at log m) (has-entry log m l) (subst (IsTimely places) (same m l) (f.before m b)))
  where
    below : i < length (entries_of log)
    below = let n : length entries ≡ length (entries_of log) = ap length e ∙ placed-count log in let l = f.below in omega (arith, n, l)

    same : (k : ℕ) → k < length (entries_of log) → placed_at entries k ≡ placed_of log (entry_at log k)
    same k l = ap (λ (xs : List Placed). placed_at xs k) e ∙ placed-entry log k l

-- the live ranges of the entries

pub record AreRangesOf (log : Log) (order : List Event) (ranges : List LiveRange) : Type 0 where
  pub count : length ranges ≡ length (entries_of log)
  pub ranged : (i : ℕ) → i < length (entries_of log) → IsRanged order (entry_at log i) (range_at ranges i)

pub entries-ranged : (log : Log) (order : List Event) (places : List ℕ) (entries : List Placed) (ranges : List LiveRange) → IsLaid log order places → entries ≡ placed_entries log → ranges ≡ map (range_in places) entries → AreRangesOf log order ranges
entries-ranged log order places entries ranges laid e r = record {
  count = count;
  ranged = λ i l. subst (IsRanged order (entry_at log i)) (sym (same i l)) (entry-ranged log order places laid (entry_at log i) (has-entry log i l));
}
  where
    many : length entries ≡ length (entries_of log)
    many = ap length e ∙ placed-count log

    count : length ranges ≡ length (entries_of log)
    count = ap length r ∙ length-map entries (range_in places) ∙ many

    same : (i : ℕ) → i < length (entries_of log) → range_at ranges i ≡ range_in places (placed_of log (entry_at log i))
    same i l =
        let m : i < length entries = let n = many in omega (arith, l, n) in
        ap (λ (xs : List LiveRange). range_at xs i) r ∙ get_or-map (range_in places) entries i _ no_range m ∙
        ap (range_in places) (ap (λ (xs : List Placed). placed_at xs i) e ∙ placed-entry log i l)

-- sources stand no later than last reads
pub record AreLater (log : Log) (order : List Event) : Type 0 where
  pub later : (i : ℕ) → i < length (entries_of log) → source_rank order (entry_at log i) ≤ last_rank order (entry_at log i)

pub stage_later : (log : Log) (order : List Event) (places : List ℕ) (entries : List Placed) → IsLaid log order places → entries ≡ placed_entries log → IsInTurn order (length order) → AreTimely places entries (length entries) → AreLater log order
stage_later log order places entries laid e turn h = record {
  later = λ i l.
      let s = stage_timely log order places entries laid e h i l in
      let t = first-last log order places laid turn (entry_at log i) (has-entry log i l) in
      omega (arith, s, t);
}

pub stage_apart : (log : Log) (order : List Event) (places : List ℕ) (ranges : List LiveRange) → IsLaid log order places → AreRangesOf log order ranges → AreApart ranges → first_crossed log order ≡ None
stage_apart log order places ranges laid r apart = crossed-none log order (λ i j l m.
    false_from_ne_true (are_crossed order (entry_at log i) (entry_at log j)) (λ t.
    let n = r.count in
    apart (range_at ranges i) (range_at ranges j) (Contains-get_or ranges i no_range (omega (arith, l, n))) (Contains-get_or ranges j no_range (omega (arith, m, n)))
    (crossed-overlap log order places laid (entry_at log i) (entry_at log j) (range_at ranges i) (range_at ranges j) (r.ranged i l) (r.ranged j m) (has-entry log i l) (has-entry log j m) t)))

pub stage_crossed : (log : Log) (order : List Event) (places : List ℕ) (ranges : List LiveRange) → IsLaid log order places → AreRangesOf log order ranges → AreLater log order → (i j : ℕ) → IsFirstOverlap ranges i j →
    Told (first_crossed log order) (fault Between i j)
stage_crossed log order places ranges laid r a i j f = crossed-some log order i j li lj
    (overlap-crossed order (entry_at log i) (entry_at log j) (range_at ranges i) (range_at ranges j) (r.ranged i li) (r.ranged j lj) (a.later i li) (a.later j lj) f.here)
    (λ k l b m. not_crossed k l (let n = li in omega (arith, b, n)) m (f.first k l b (let n = r.count in omega (arith, m, n))))
    (λ l b. not_crossed i l li (let n = lj in omega (arith, b, n)) (f.second l b))
  where
    lj : j < length (entries_of log)
    lj = let l = f.below in let n = r.count in omega (arith, l, n)

    li : i < length (entries_of log)
    li = let l = lj in let m = f.rising in omega (arith, l, m)

    not_crossed : (k l : ℕ) → k < length (entries_of log) → l < length (entries_of log) → (Overlap (range_at ranges k) (range_at ranges l) → ⊥) → are_crossed order (entry_at log k) (entry_at log l) ≡ false
    not_crossed k l m n never = false_from_ne_true (are_crossed order (entry_at log k) (entry_at log l)) (λ t.
        never (crossed-overlap log order places laid (entry_at log k) (entry_at log l) (range_at ranges k) (range_at ranges l) (r.ranged k m) (r.ranged l n) (has-entry log k m) (has-entry log l n) t))

-- the last tags

pub record AreEndsOf (log : Log) (order : List Event) (ends : List ℕ) : Type 0 where
  pub count : length ends ≡ length log.last_tags
  pub same : (word : ℕ) → word < length log.last_tags → slice_index ends word ≡ rank_of order (last_tag log word)

pub last_tags-ends : (log : Log) (order : List Event) (places : List ℕ) (last_tags : List (Option ℕ)) (ends : List ℕ) → IsLaid log order places → last_tags ≡ placed_last_tags log → ends ≡ map (rank_in places) last_tags → AreEndsOf log order ends
last_tags-ends log order places last_tags ends laid e r = record {
  count = ap length r ∙ length-map last_tags (rank_in places) ∙ many;
  same = λ word l.
      let m : word < length last_tags = let n = many in omega (arith, l, n) in
      ap (λ (xs : List ℕ). get_or xs word 0) r ∙ get_or-map (rank_in places) last_tags word None 0 m ∙
      ap (rank_in places) (ap (λ (xs : List (Option ℕ)). get_or xs word None) e ∙ get_or-map (option_map (place (event_list log))) log.last_tags word None None l) ∙
      rank-tag log order places laid (last_tag log word) (named-last log word l);
}
  where
    many : length last_tags ≡ length log.last_tags
    many = ap length e ∙ length-map log.last_tags (option_map (place (event_list log)))

-- the word of each live range has its last tag
pub ranges-words : (log : Log) (order : List Event) (ranges : List LiveRange) (ends : List ℕ) → IsWellFormed log → AreRangesOf log order ranges → AreEndsOf log order ends → All (λ (range : LiveRange). range.word < length ends) ranges
ranges-words log order ranges ends formed r s = λ k d l.
    let n = r.count in
    let m : k < length (entries_of log) = omega (arith, l, n) in
    let w = (entry_is log formed (entry_at log k).0 (entry_at log k).1 (has-entry log k m)).word in
    let a : (range_at ranges k).word ≡ (entry_at log k).1.word = (r.ranged k m).word in
    let b : (get_or ranges k d).word ≡ (range_at ranges k).word = ap (λ (x : LiveRange). x.word) (get_or_default ranges k d no_range l) in
    let c = s.count in
    omega (arith, w, a, b, c)

pub stage_over : (log : Log) (order : List Event) (places : List ℕ) (ranges : List LiveRange) (ends : List ℕ) → IsLaid log order places → AreRangesOf log order ranges → AreEndsOf log order ends → NoneIsTooLong ranges ends (length ranges) →
    first_outliving log order ≡ None
stage_over log order places ranges ends laid r s none = outliving-none log order (λ word i l m.
    false_from_ne_true (outlives log order word (entry_at log i)) (λ t.
    let (w, long) = outlives-long log order places ends laid word (entry_at log i) (range_at ranges i) (r.ranged i m) (has-entry log i m) l (s.same word l) t in
    none i (let n = r.count in omega (arith, m, n)) long))

pub stage_outliving : (log : Log) (order : List Event) (places : List ℕ) (ranges : List LiveRange) (ends : List ℕ) → IsLaid log order places → AreRangesOf log order ranges → AreEndsOf log order ends → (word i : ℕ) →
    IsFirstTooLong ranges ends (length ranges) word i → Told (first_outliving log order) (fault Final word i)
stage_outliving log order places ranges ends laid r s word i f = outliving-some log order word i inside below
    (long-outlives log order ends word (entry_at log i) (range_at ranges i) (r.ranged i below) f.of_word (s.same word inside) f.here)
    (λ v k b m. false_from_ne_true (outlives log order v (entry_at log k)) (λ t.
    let (w, long) = outlives-long log order places ends laid v (entry_at log k) (range_at ranges k) (r.ranged k m) (has-entry log k m) (let n = inside in omega (arith, b, n)) (s.same v (let n = inside in omega (arith, b, n))) t in
    let h = f.words k (let n = r.count in omega (arith, m, n)) long in
    omega (arith, h, w, b)))
    (λ k b. false_from_ne_true (outlives log order word (entry_at log k)) (λ t.
    let m : k < length (entries_of log) = let n = below in omega (arith, b, n) in
    let (w, long) = outlives-long log order places ends laid word (entry_at log k) (range_at ranges k) (r.ranged k m) (has-entry log k m) inside (s.same word inside) t in
    f.first k b long w))
  where
    below : i < length (entries_of log)
    below = let l = f.below in let n = r.count in omega (arith, l, n)

    inside : word < length log.last_tags
    inside =
        let w = (entry_is log laid.formed (entry_at log i).0 (entry_at log i).1 (has-entry log i below)).word in
        let a : (range_at ranges i).word ≡ (entry_at log i).1.word = (r.ranged i below).word in
        let b = f.of_word in
        omega (arith, w, a, b)

-- so many entries and live ranges fit
pub placed-few : (log : Log) (entries : List Placed) → IsWellFormed log → entries ≡ placed_entries log → length entries < 2 ^ 32
placed-few log entries formed e = let n : length entries ≡ length (entries_of log) = ap length e ∙ placed-count log in let l = entries-few log formed in omega (arith, n, l)

pub ranges-few : (log : Log) (order : List Event) (ranges : List LiveRange) → IsWellFormed log → AreRangesOf log order ranges → length ranges < 2 ^ 32
ranges-few log order ranges formed r = let n = r.count in let l = entries-few log formed in omega (arith, n, l)
