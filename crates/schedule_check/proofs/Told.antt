-- What an order's first fault is, kind by kind.
use Rattle.std.proofs.Common.{◌≡◌, ℕ, zero, suc, ◌<◌, ◌≤◌, Bool, true, false, Option, Some, None, eqb, List, [], ◌∷◌, length, take, get_or, refl, sym, ◌∙◌, ap, subst, arith, inl, inr, ◌⊎◌}
use Rattle.std.specs.Prelude.{◌≢◌, ◌&&◌, not, nat_lt, position}
use Rattle.std.specs.List.{list_any, position_or_len, enumerate_from, range_with_len}
use Rattle.std.specs.Option.{option_map}
use Rattle.std.proofs.lemmas.Bool.{both_ways, and_parts, and_from, not-false, not_from_false, false_from_ne_true, eqb-true, eq-eqb, ne_eqb, ltb-true, ltb-false, cases_lt, lt-ltb, le-ltb, leb-false, le-leb, lt-leb}
use Rattle.std.proofs.lemmas.List.{get_or_default, get_or-take, length-take-le}
use Rattle.std.proofs.lemmas.List.Folds.{list_any_none, list_any_at}
use Rattle.std.proofs.lemmas.List.FromFn.{get_or-range_with_len, length-range_with_len}
use Rattle.light_base.specs.declared.tag.Event.{Event}
use Rattle.replay_model.specs.declared.Entry.{Entry}
use Rattle.replay_model.specs.Logs.{Log}
use Rattle.replay_model.specs.Events.{IsEvent, is_event}
use Rattle.replay_model.specs.Orders.{place}
use Rattle.replay_laws.proofs.Places.{is_event-event, event-is_event}
use Rattle.constraints.specs.Positions.{no_event, event_list}
use Rattle.schedule_check.specs.declared.faults.OrderFault.{OrderFault}
use Rattle.schedule_check.specs.declared.faults.OrderKind.TheVariants.{Unknown, Twice, Missing, ThreadOrder, ReadBeforeWrite, Between, Final}
use Rattle.schedule_check.specs.Faults.{fault, entries_of, no_entry, source_rank, first_rank, is_repeated, is_missing, is_overtaken, last_place, place_before, is_read_early, are_crossed, outlives, first_unknown, first_twice, first_missing, first_overtaken, first_early, first_crossed, first_outliving}
use Rattle.schedule_check.specs.Turns.{at, IsInTurn, IsFirstOvertaken}
use Rattle.schedule_check.proofs.FirstOf.{first_place, first-position, none-position, position-none, first_at-position, none_at-position, position-none_at}

abbrev pub Told : Option OrderFault → OrderFault → Type 0
Told found f = found ≡ Some f

map_at : {X Y : Type 0} (f : X → Y) (found : Option X) (x : X) → found ≡ Some x → option_map f found ≡ Some (f x)
map_at f found x e = ap (option_map f) e

map_none : {X Y : Type 0} (f : X → Y) (found : Option X) → found ≡ None → option_map f found ≡ None
map_none f found e = ap (option_map f) e

none_map : {X Y : Type 0} (f : X → Y) (found : Option X) → option_map f found ≡ None → found ≡ None
none_map f None e = refl
none_map f (Some x) e = absurd (some (f x) e)
  where
    some : {Z : Type 0} (z : Z) → Some z ≡ None → ⊥
    some z h = cc

-- unknown

abbrev pub AreKnown : Log → List Event → Type 0
AreKnown log order = (k : ℕ) → k < length order → IsEvent log (at order k)

is_known : (log : Log) (e : Event) → IsEvent log e → not (is_event log e) ≡ false
is_known log e i = ap not (event-is_event log e i)

pub unknown-none : (log : Log) (order : List Event) → AreKnown log order → first_unknown log order ≡ None
unknown-none log order h = map_none (λ k. fault Unknown k 0) (position (λ (e : Event). not (is_event log e)) order)
    (none-position (λ (e : Event). not (is_event log e)) order no_event (λ k l. is_known log (at order k) (h k l)))

pub none-unknown : (log : Log) (order : List Event) → first_unknown log order ≡ None → AreKnown log order
none-unknown log order h k l =
    is_event-event log (at order k) (not-false (is_event log (at order k)) (position-none (λ (e : Event). not (is_event log e)) order no_event (none_map (λ k. fault Unknown k 0) (position (λ (e : Event). not (is_event log e)) order) h) k l))

pub unknown-some : (log : Log) (order : List Event) (k : ℕ) → k < length order → (IsEvent log (at order k) → ⊥) → ((m : ℕ) → m < k → IsEvent log (at order m)) → Told (first_unknown log order) (fault Unknown k 0)
unknown-some log order k l no_one before = map_at (λ k. fault Unknown k 0) (position (λ (e : Event). not (is_event log e)) order) k
    (first-position (λ (e : Event). not (is_event log e)) order no_event k (record {
      below = l;
      passes = not_from_false (is_event log (at order k)) (false_from_ne_true (is_event log (at order k)) (λ t. no_one (is_event-event log (at order k) t)));
      before = λ m b. is_known log (at order m) (before m b);
    }))

-- twice

abbrev pub AreOnce : List Event → Type 0
AreOnce order = (k : ℕ) → k < length order → k ≤ place order (at order k)

pub twice-none : (order : List Event) → AreOnce order → first_twice order ≡ None
twice-none order h = map_none (λ k. fault Twice k 0) (position (is_repeated order) (enumerate_from 0 order))
    (none_at-position (is_repeated order) order no_event (λ k l. le-ltb (place order (at order k)) k (h k l)))

pub none-twice : (order : List Event) → first_twice order ≡ None → AreOnce order
none-twice order h k l = ltb-false (place order (at order k)) k (position-none_at (is_repeated order) order no_event (none_map (λ k. fault Twice k 0) (position (is_repeated order) (enumerate_from 0 order)) h) k l)

pub twice-some : (order : List Event) (k : ℕ) → k < length order → place order (at order k) < k → ((m : ℕ) → m < k → m ≤ place order (at order m)) → Told (first_twice order) (fault Twice k 0)
twice-some order k l here before = map_at (λ k. fault Twice k 0) (position (is_repeated order) (enumerate_from 0 order)) k
    (first_at-position (is_repeated order) order no_event k (record {
      below = l;
      passes = lt-ltb (place order (at order k)) k here;
      before = λ m b. le-ltb (place order (at order m)) m (before m b);
    }))

-- missing

abbrev pub event_of : Log → ℕ → Event
event_of log x = get_or (event_list log) x no_event

abbrev pub ArePresent : Log → List Event → Type 0
ArePresent log order = (x : ℕ) → x < length (event_list log) → place order (event_of log x) < length order

pub missing-none : (log : Log) (order : List Event) → ArePresent log order → first_missing log order ≡ None
missing-none log order h = map_none (λ k. fault Missing k 0) (position (is_missing order) (event_list log))
    (none-position (is_missing order) (event_list log) no_event (λ x l. lt-leb (length order) (place order (event_of log x)) (h x l)))

pub none-missing : (log : Log) (order : List Event) → first_missing log order ≡ None → ArePresent log order
none-missing log order h x l = leb-false (length order) (place order (event_of log x))
    (position-none (is_missing order) (event_list log) no_event (none_map (λ k. fault Missing k 0) (position (is_missing order) (event_list log)) h) x l)

pub missing-some : (log : Log) (order : List Event) (x : ℕ) → x < length (event_list log) → length order ≤ place order (event_of log x) → ((y : ℕ) → y < x → place order (event_of log y) < length order) →
    Told (first_missing log order) (fault Missing x 0)
missing-some log order x l here before = map_at (λ k. fault Missing k 0) (position (is_missing order) (event_list log)) x
    (first-position (is_missing order) (event_list log) no_event x (record {
      below = l;
      passes = le-leb (length order) (place order (event_of log x)) here;
      before = λ y b. lt-leb (length order) (place order (event_of log y)) (before y b);
    }))

-- overtaken

abbrev pub overtakes : Event → Event → Bool
overtakes e d = eqb d.thread e.thread && nat_lt e.step d.step

taken-at : (order : List Event) (j p : ℕ) (d : Event) → p < j → get_or (take j order) p d ≡ get_or order p d
taken-at order j p d l = get_or-take j order p d l

no_overtaking : (order : List Event) (j : ℕ) → j < length order → ((p : ℕ) → p < j → (at order p).thread ≡ (at order j).thread → (at order p).step ≤ (at order j).step) → is_overtaken order (j, at order j) ≡ false
no_overtaking order j l h = list_any_none (overtakes (at order j)) (take j order) (λ p d m. none p d (let c = length-take-le j order (omega (arith, l)) in omega (arith, m, c)))
  where
    none : (p : ℕ) (d : Event) → p < j → overtakes (at order j) (get_or (take j order) p d) ≡ false
    none p d m =
        let P : Event → Type 0 = λ e. overtakes (at order j) e ≡ false in
        subst P (sym (taken-at order j p d m ∙ get_or_default order p d no_event (omega (arith, m, l))))
        (false_from_ne_true (overtakes (at order j) (at order p)) (λ t.
        let (a, b) = and_parts (eqb (at order p).thread (at order j).thread) (nat_lt (at order j).step (at order p).step) t in
        let s = h p m (eqb-true (at order p).thread (at order j).thread a) in
        let r = ltb-true (at order j).step (at order p).step b in omega (arith, s, r)))

overtaking : (order : List Event) (j i : ℕ) → j < length order → i < j → (at order i).thread ≡ (at order j).thread → (at order j).step < (at order i).step → is_overtaken order (j, at order j) ≡ true
overtaking order j i l m t s =
    let P : Event → Type 0 = λ e. overtakes (at order j) e ≡ true in
    list_any_at (overtakes (at order j)) (take j order) i no_event (let c = length-take-le j order (omega (arith, l)) in omega (arith, m, c))
    (subst P (sym (taken-at order j i no_event m)) (and_from (eqb (at order i).thread (at order j).thread) (nat_lt (at order j).step (at order i).step) (eq-eqb (at order i).thread (at order j).thread t) (lt-ltb (at order j).step (at order i).step s)))

pub overtaken-none : (order : List Event) → IsInTurn order (length order) → first_overtaken order ≡ None
overtaken-none order h = map_none (λ j. fault ThreadOrder (place_before order j) j) (position (is_overtaken order) (enumerate_from 0 order))
    (none_at-position (is_overtaken order) order no_event (λ j l. no_overtaking order j l (λ p m t. h p j m l t)))

pub none-overtaken : (order : List Event) → first_overtaken order ≡ None → IsInTurn order (length order)
none-overtaken order h p q l m t = go (cases_lt (at order q).step (at order p).step)
  where
    go : ((at order q).step < (at order p).step) ⊎ ((at order p).step ≤ (at order q).step) → (at order p).step ≤ (at order q).step
    go (inl s) = absurd (both_ways (is_overtaken order (q, at order q))
        (position-none_at (is_overtaken order) order no_event (none_map (λ j. fault ThreadOrder (place_before order j) j) (position (is_overtaken order) (enumerate_from 0 order)) h) q m)
        (overtaking order q p m l t s))
    go (inr s) = s

-- the last place of a thread's event
last_place-is : (thread : ℕ) (events : List Event) (i : ℕ) → i < length events → (get_or events i no_event).thread ≡ thread → ((k : ℕ) → i < k → k < length events → (get_or events k no_event).thread ≢ thread) → last_place thread events ≡ i
last_place-is thread [] i l h n = absurd (omega (arith, l))
last_place-is thread (e ∷ events) zero l h n =
    let none : list_any (λ (d : Event). eqb d.thread thread) events ≡ false =
    list_any_none (λ (d : Event). eqb d.thread thread) events (λ k d m. ne_eqb (get_or events k d).thread thread
    (λ q. n (suc k) (omega arith) (omega (arith, m)) (ap (λ (x : Event). x.thread) (get_or_default events k no_event d m) ∙ q))) in
    rw none refl
last_place-is thread (e ∷ events) (suc i) l h n =
    let some : list_any (λ (d : Event). eqb d.thread thread) events ≡ true =
    list_any_at (λ (d : Event). eqb d.thread thread) events i no_event (omega (arith, l)) (eq-eqb (get_or events i no_event).thread thread h) in
    rw some (ap suc (last_place-is thread events i (omega (arith, l)) h (λ k a b. n (suc k) (omega (arith, a)) (omega (arith, b)))))

pub overtaken-some : (order : List Event) (i j : ℕ) → IsFirstOvertaken order i j → Told (first_overtaken order) (fault ThreadOrder i j)
overtaken-some order i j f =
    map_at (λ j. fault ThreadOrder (place_before order j) j) (position (is_overtaken order) (enumerate_from 0 order)) j
    (first_at-position (is_overtaken order) order no_event j (record {
      below = f.below;
      passes = overtaking order j i f.below f.earlier f.thread f.greater;
      before = λ m b. no_overtaking order m (let l = f.below in omega (arith, l, b)) (λ p a t. f.before p m a b t);
    })) ∙ ap (λ (n : ℕ). Some (fault ThreadOrder n j)) nearest
  where
    size : length (take j order) ≡ j
    size = length-take-le j order (let l = f.below in omega (arith, l))

    thread_at : (k : ℕ) → k < j → (get_or (take j order) k no_event).thread ≡ (at order k).thread
    thread_at k l = ap (λ (x : Event). x.thread) (taken-at order j k no_event l)

    nearest : place_before order j ≡ i
    nearest = last_place-is (at order j).thread (take j order) i (let c = size in let l = f.earlier in omega (arith, c, l)) (thread_at i f.earlier ∙ f.thread)
        (λ k a b e. let c = size in let m : k < j = omega (arith, b, c) in f.nearest k a m (sym (thread_at k m) ∙ e))

-- read before write

abbrev pub entry_at : Log → ℕ → ℕ × Entry
entry_at log i = get_or (entries_of log) i no_entry

abbrev pub AreTimely : Log → List Event → Type 0
AreTimely log order = (i : ℕ) → i < length (entries_of log) → source_rank order (entry_at log i) < first_rank order (entry_at log i)

pub early-none : (log : Log) (order : List Event) → AreTimely log order → first_early log order ≡ None
early-none log order h = map_none (λ i. fault ReadBeforeWrite i 0) (position (is_read_early order) (entries_of log))
    (none-position (is_read_early order) (entries_of log) no_entry (λ i l. lt-leb (first_rank order (entry_at log i)) (source_rank order (entry_at log i)) (h i l)))

pub none-early : (log : Log) (order : List Event) → first_early log order ≡ None → AreTimely log order
none-early log order h i l = leb-false (first_rank order (entry_at log i)) (source_rank order (entry_at log i))
    (position-none (is_read_early order) (entries_of log) no_entry (none_map (λ i. fault ReadBeforeWrite i 0) (position (is_read_early order) (entries_of log)) h) i l)

pub early-some : (log : Log) (order : List Event) (i : ℕ) → i < length (entries_of log) → first_rank order (entry_at log i) ≤ source_rank order (entry_at log i) →
    ((m : ℕ) → m < i → source_rank order (entry_at log m) < first_rank order (entry_at log m)) → Told (first_early log order) (fault ReadBeforeWrite i 0)
early-some log order i l here before = map_at (λ i. fault ReadBeforeWrite i 0) (position (is_read_early order) (entries_of log)) i
    (first-position (is_read_early order) (entries_of log) no_entry i (record {
      below = l;
      passes = le-leb (first_rank order (entry_at log i)) (source_rank order (entry_at log i)) here;
      before = λ m b. lt-leb (first_rank order (entry_at log m)) (source_rank order (entry_at log m)) (before m b);
    }))

-- a test that no element of a list passes, and one that some element does

any_false : {X : Type 0} (p : X → Bool) (xs : List X) (d : X) → ((k : ℕ) → k < length xs → p (get_or xs k d) ≡ false) → list_any p xs ≡ false
any_false {X} p xs d h = list_any_none p xs (λ k e l. let P : X → Type 0 = λ x. p x ≡ false in subst P (get_or_default xs k d e l) (h k l))

false_any : {X : Type 0} (p : X → Bool) (xs : List X) (d : X) → list_any p xs ≡ false → (k : ℕ) → k < length xs → p (get_or xs k d) ≡ false
false_any p xs d h k l = false_from_ne_true (p (get_or xs k d)) (λ t. both_ways (list_any p xs) h (list_any_at p xs k d l t))

-- between

abbrev pub AreUncrossed : Log → List Event → Type 0
AreUncrossed log order = (i j : ℕ) → i < length (entries_of log) → j < length (entries_of log) → are_crossed order (entry_at log i) (entry_at log j) ≡ false

abbrev pub is_crossed : Log → List Event → ℕ × Entry → Bool
is_crossed log order x = list_any (are_crossed order x) (entries_of log)

abbrev pub between_at : Log → List Event → ℕ → OrderFault
between_at log order i = fault Between i (position_or_len (are_crossed order (entry_at log i)) (entries_of log))

pub crossed-none : (log : Log) (order : List Event) → AreUncrossed log order → first_crossed log order ≡ None
crossed-none log order h = map_none (between_at log order) (position (is_crossed log order) (entries_of log))
    (none-position (is_crossed log order) (entries_of log) no_entry (λ i l. any_false (are_crossed order (entry_at log i)) (entries_of log) no_entry (λ j m. h i j l m)))

pub none-crossed : (log : Log) (order : List Event) → first_crossed log order ≡ None → AreUncrossed log order
none-crossed log order h i j l m = false_any (are_crossed order (entry_at log i)) (entries_of log) no_entry
    (position-none (is_crossed log order) (entries_of log) no_entry (none_map (between_at log order) (position (is_crossed log order) (entries_of log)) h) i l) j m

pub crossed-some : (log : Log) (order : List Event) (i j : ℕ) → i < length (entries_of log) → j < length (entries_of log) → are_crossed order (entry_at log i) (entry_at log j) ≡ true →
    ((k l : ℕ) → k < i → l < length (entries_of log) → are_crossed order (entry_at log k) (entry_at log l) ≡ false) → ((l : ℕ) → l < j → are_crossed order (entry_at log i) (entry_at log l) ≡ false) →
    Told (first_crossed log order) (fault Between i j)
crossed-some log order i j l m here first second =
    map_at (between_at log order) (position (is_crossed log order) (entries_of log)) i
    (first-position (is_crossed log order) (entries_of log) no_entry i (record {
      below = l;
      passes = list_any_at (are_crossed order (entry_at log i)) (entries_of log) j no_entry m here;
      before = λ k b. any_false (are_crossed order (entry_at log k)) (entries_of log) no_entry (λ n o. first k n b o);
    })) ∙ ap (λ (n : ℕ). Some (fault Between i n)) (first_place (are_crossed order (entry_at log i)) (entries_of log) no_entry j (record { below = m; passes = here; before = second }))

-- final

abbrev pub AreOver : Log → List Event → Type 0
AreOver log order = (word i : ℕ) → word < length log.last_tags → i < length (entries_of log) → outlives log order word (entry_at log i) ≡ false

abbrev pub words_of : Log → List ℕ
words_of log = range_with_len 0 (length log.last_tags)

abbrev pub is_outlived : Log → List Event → ℕ → Bool
is_outlived log order word = list_any (outlives log order word) (entries_of log)

abbrev pub final_at : Log → List Event → ℕ → OrderFault
final_at log order word = fault Final word (position_or_len (outlives log order word) (entries_of log))

word_at : (log : Log) (word : ℕ) → word < length log.last_tags → get_or (words_of log) word 0 ≡ word
word_at log word l = let e = get_or-range_with_len 0 (length log.last_tags) word 0 l in omega (arith, e)

word-below : (log : Log) (word : ℕ) → word < length (words_of log) → word < length log.last_tags
word-below log word l = let c = length-range_with_len 0 (length log.last_tags) in omega (arith, l, c)

below-word : (log : Log) (word : ℕ) → word < length log.last_tags → word < length (words_of log)
below-word log word l = let c = length-range_with_len 0 (length log.last_tags) in omega (arith, l, c)

pub outliving-none : (log : Log) (order : List Event) → AreOver log order → first_outliving log order ≡ None
outliving-none log order h = map_none (final_at log order) (position (is_outlived log order) (words_of log))
    (none-position (is_outlived log order) (words_of log) 0 (λ word l.
    let m = word-below log word l in
    ap (is_outlived log order) (word_at log word m) ∙ any_false (outlives log order word) (entries_of log) no_entry (λ i n. h word i m n)))

pub none-outliving : (log : Log) (order : List Event) → first_outliving log order ≡ None → AreOver log order
none-outliving log order h word i l m = false_any (outlives log order word) (entries_of log) no_entry
    (sym (ap (is_outlived log order) (word_at log word l)) ∙
    position-none (is_outlived log order) (words_of log) 0 (none_map (final_at log order) (position (is_outlived log order) (words_of log)) h) word (below-word log word l)) i m

pub outliving-some : (log : Log) (order : List Event) (word i : ℕ) → word < length log.last_tags → i < length (entries_of log) → outlives log order word (entry_at log i) ≡ true →
    ((v k : ℕ) → v < word → k < length (entries_of log) → outlives log order v (entry_at log k) ≡ false) → ((k : ℕ) → k < i → outlives log order word (entry_at log k) ≡ false) →
    Told (first_outliving log order) (fault Final word i)
outliving-some log order word i l m here first second =
    map_at (final_at log order) (position (is_outlived log order) (words_of log)) word
    (first-position (is_outlived log order) (words_of log) 0 word (record {
      below = below-word log word l;
      passes = ap (is_outlived log order) (word_at log word l) ∙ list_any_at (outlives log order word) (entries_of log) i no_entry m here;
      before = λ v b. ap (is_outlived log order) (word_at log v (omega (arith, b, l))) ∙ any_false (outlives log order v) (entries_of log) no_entry (λ k n. first v k b n);
    })) ∙ ap (λ (n : ℕ). Some (fault Final word n)) (first_place (outlives log order word) (entries_of log) no_entry i (record { below = m; passes = here; before = second }))
