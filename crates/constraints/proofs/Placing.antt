-- Entries by positions.
use Rattle.std.proofs.Common.{◌≡◌, ℕ, zero, suc, ◌+◌, ◌*◌, ◌^◌, ◌<◌, ◌≤◌, Some, None, List, ◌++◌, length, get_or, map, refl, sym, ◌∙◌, ap, subst, arith, inl, inr}
use Rattle.std.specs.Prelude.{Contains, IfSome, All}
use Rattle.std.specs.List.{flat_map, range_with_len}
use Rattle.std.proofs.lemmas.List.{length-map, length-append}
use Rattle.std.proofs.lemmas.List.FromFn.{length-range_with_len}
use Rattle.std.proofs.lemmas.List.Sums.{length-filter, count_by-le-length}
use Rattle.std.proofs.lemmas.List.Elements.{Contains-get_or}
use Rattle.light_base.specs.declared.tag.Event.{Event}
use Rattle.light_base.specs.declared.tag.Tag.{Tag}
use Rattle.replay_model.specs.declared.Entry.{Entry}
use Rattle.replay_model.specs.Logs.{ThreadLog, Log, thread_of, HasEntry, first_event, last_event}
use Rattle.replay_model.specs.Events.{is_event}
use Rattle.replay_model.specs.WellFormed.{IsWellFormed}
use Rattle.constraints.specs.Positions.{event, thread_numbers, events_of_thread, event_list, IsListed}
use Rattle.constraints.specs.declared.placed.Placed.{Placed}
use Rattle.constraints.specs.Building.{HasEvents, placed_in, placed_entries}
use Rattle.replay_laws.proofs.Places.{entry_thread}
use Rattle.constraints.proofs.Members.{of_flat_map, in_flat_map, of_map, in_map, in_range}
use Rattle.constraints.proofs.Listed.{in_list}
use Rattle.constraints.proofs.Listing.{list-listed}
use Rattle.constraints.proofs.Naming.{flat_map_range_more, steps_small}
use Rattle.constraints.proofs.Sources.{source_in, first_in, last_in}

-- a thread has no more events than steps, and so a log fewer than 2 ^ 32
thread_events : (log : Log) (t : ℕ) → length (events_of_thread log t) ≤ (thread_of log t).steps
thread_events log t =
    let a = length-filter (is_event log) (map (event t) (range_with_len 1 (thread_of log t).steps)) in
    let b = count_by-le-length (is_event log) (map (event t) (range_with_len 1 (thread_of log t).steps)) in
    let c = length-map (range_with_len 1 (thread_of log t).steps) (event t) in
    let d = length-range_with_len 1 (thread_of log t).steps in
    omega (arith, a, b, c, d)

events_below : (log : Log) → IsWellFormed log → (n : ℕ) → n ≤ length log.threads → length (flat_map (events_of_thread log) (range_with_len 0 n)) ≤ n * 2 ^ 28
events_below log formed zero l = omega arith
events_below log formed (suc n) l =
    let q : suc n ≡ n + 1 = omega arith in
    let ih : length (flat_map (events_of_thread log) (range_with_len 0 n)) ≤ n * 2 ^ 28 = events_below log formed n (omega arith) in
    let e = ap (λ (xs : List Event). length xs) (flat_map_range_more (events_of_thread log) n) in
    let a = length-append (flat_map (events_of_thread log) (range_with_len 0 n)) (events_of_thread log n) in
    let t = thread_events log n in
    let s = steps_small log formed n (omega arith) in
    let P : ℕ → Type 0 = λ k. length (flat_map (events_of_thread log) (range_with_len 0 k)) ≤ k * 2 ^ 28 in
    subst P (sym q) (omega (arith, ih, e, a, t, s))

pub events_few : (log : Log) → IsWellFormed log → length (event_list log) < 2 ^ 32
unfolding event_list
events_few log formed =
    let a = events_below log formed (length log.threads) (omega arith) in
    let n = formed.range.threads in
    omega (arith, a, n)

-- the list has the events that entries name
pub entries_listed : (log : Log) → IsWellFormed log → (t : ℕ) → All (HasEvents (event_list log) t) (thread_of log t).entries
entries_listed log formed t k d l = has (get_or (thread_of log t).entries k d) (Contains-get_or (thread_of log t).entries k d l)
  where
    has : (a : Entry) → HasEntry log t a → HasEvents (event_list log) t a
    has a c = record { source = source a.source refl; first = in_list log formed (first_event t a) (first_in log t a c); last = in_list log formed (last_event t a) (last_in log t a c) }
      where
        source : (tag : Tag) → a.source ≡ tag → IfSome tag (λ (e : Event). Contains (event_list log) e)
        source None q = tt
        source (Some e) q = in_list log formed e (source_in log t a e c q)

-- and those that last tags name
pub last_tags_listed : (log : Log) → IsWellFormed log → All (λ (tag : Tag). IfSome tag (λ (e : Event). Contains (event_list log) e)) log.last_tags
last_tags_listed log formed k d l = go (get_or log.last_tags k d) (Contains-get_or log.last_tags k d l)
  where
    go : (tag : Tag) → Contains log.last_tags tag → IfSome tag (λ (e : Event). Contains (event_list log) e)
    go None c = tt
    go (Some e) c = in_list log formed e (inl (inr c))

-- the entries of the threads so far, and of one thread more
pub place_more : (log : Log) (t : ℕ) (x : ThreadLog) (entries : List Entry) (events : List Event) (old new : List Placed) → x ≡ thread_of log t → entries ≡ x.entries → events ≡ event_list log →
    old ≡ flat_map (λ t. map (placed_in (event_list log) t) (thread_of log t).entries) (range_with_len 0 t) → new ≡ old ++ map (placed_in events t) entries →
    new ≡ flat_map (λ t. map (placed_in (event_list log) t) (thread_of log t).entries) (range_with_len 0 (t + 1))
place_more log t x entries events old new e q v o n =
    let s : entries ≡ (thread_of log t).entries = q ∙ ap (λ (y : ThreadLog). y.entries) e in
    n ∙ ap (λ (xs : List Placed). xs ++ map (placed_in events t) entries) o ∙
    ap (λ (es : List Event). flat_map (λ t. map (placed_in (event_list log) t) (thread_of log t).entries) (range_with_len 0 t) ++ map (placed_in es t) entries) v ∙
    ap (λ (xs : List Entry). flat_map (λ t. map (placed_in (event_list log) t) (thread_of log t).entries) (range_with_len 0 t) ++ map (placed_in (event_list log) t) xs) s ∙
    sym (flat_map_range_more (λ t. map (placed_in (event_list log) t) (thread_of log t).entries) t)

-- the same of any list of events that is the log's
pub listed-as : (log : Log) (events : List Event) → events ≡ event_list log → IsListed events
listed-as log events v = let P : List Event → Type 0 = λ es. IsListed es in subst P (sym v) (list-listed log)

pub few-as : (log : Log) (events : List Event) → IsWellFormed log → events ≡ event_list log → length events < 2 ^ 32
few-as log events formed v = let P : List Event → Type 0 = λ es. length es < 2 ^ 32 in subst P (sym v) (events_few log formed)

-- the last tag that a loop has come to
pub item_listed : (log : Log) (events : List Event) (tags : List Tag) (i : ℕ) (x : Tag) → IsWellFormed log → events ≡ event_list log → tags ≡ log.last_tags → i < length tags → x ≡ get_or tags i x →
    IfSome x (λ (e : Event). Contains events e)
item_listed log events tags i x formed v e l h =
    let P : List Event → Type 0 = λ es. IfSome x (λ (y : Event). Contains es y) in
    let Q : Tag → Type 0 = λ tag. IfSome tag (λ (y : Event). Contains (event_list log) y) in
    let n : length tags ≡ length log.last_tags = ap length e in
    subst P (sym v) (subst Q (sym (h ∙ ap (λ (xs : List Tag). get_or xs i x) e)) (last_tags_listed log formed i x (omega (arith, l, n))))

-- an entry by positions comes from one of a thread
pub of_placed : (log : Log) (p : Placed) → Contains (placed_entries log) p → (t : ℕ) × (a : Entry) × HasEntry log t a × (placed_in (event_list log) t a ≡ p)
of_placed log p c =
    let (t, u, d) = of_flat_map (λ t. map (placed_in (event_list log) t) (thread_of log t).entries) (thread_numbers log) p c in
    let (a, h, q) = of_map (placed_in (event_list log) t) (thread_of log t).entries p d in
    (t, a, h, q)

pub in_placed : (log : Log) (t : ℕ) (a : Entry) → HasEntry log t a → Contains (placed_entries log) (placed_in (event_list log) t a)
in_placed log t a h =
    let l = entry_thread log t a h in
    in_flat_map (λ t. map (placed_in (event_list log) t) (thread_of log t).entries) (thread_numbers log) t (placed_in (event_list log) t a) (in_range 0 (length log.threads) t (omega arith) (omega (arith, l)))
    (in_map (placed_in (event_list log) t) (thread_of log t).entries a h)
