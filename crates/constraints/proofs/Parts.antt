-- The parts of a problem, made of entries by positions, are those that the log asks for.
use Rattle.constraints.proofs.Groups.{logs_are_small}
use Rattle.constraints.specs.Problems.{IsProblem}
use Rattle.std.proofs.Common.{◌≡◌, ℕ, zero, suc, ◌+◌, ◌-◌, ◌<◌, ◌≤◌, Bool, true, false, cond, eqb, ltb, Some, None, Option, List, [], ◌∷◌, ◌++◌, length, get_or, map, take, drop, refl, sym, ◌∙◌, ap, subst, arith, inl, inr, ◌⊎◌, ◌*◌, ◌^◌}
use Rattle.std.specs.Prelude.{◌≢◌, Contains, All, option_map, is_some, not}
use Rattle.std.specs.List.{flat_map, range_with_len, list_any, count_by, sum_by}
use Rattle.std.proofs.lemmas.Bool.{eq-eqb, ne_eqb, and_parts, and_from, lt-ltb, le-ltb, cases_lt}
use Rattle.std.proofs.lemmas.List.{get_or-map, length-map, length-append, map-id, take-append-drop, drop_more}
use Rattle.std.proofs.lemmas.List.Concat.{flat_map-append, length-flat_map, get_or-flat_map}
use Rattle.std.proofs.lemmas.List.FromFn.{length-map-range_with_len, get_or-map-range_with_len, take-map-range_with_len, length-range_with_len, get_or-range_with_len}
use Rattle.std.proofs.lemmas.List.Sums.{sum_by-append, sum_by-cons, sum_by-le}
use Rattle.std.proofs.lemmas.List.Elements.{Contains-get_or}
use Rattle.light_base.specs.declared.tag.Event.{Event}
use Rattle.light_base.specs.declared.tag.Tag.{Tag}
use Rattle.plain_search.specs.declared.Edge.{Edge}
use Rattle.replay_model.specs.declared.Entry.{Entry}
use Rattle.replay_model.specs.Steps.{same_event, same_tag}
use Rattle.replay_model.specs.Logs.{Log, thread_of, HasEntry, last_tag, last_event}
use Rattle.replay_model.specs.Events.{IsEvent}
use Rattle.replay_model.specs.WellFormed.{IsWellFormed}
use Rattle.replay_model.specs.Orders.{place}
use Rattle.replay_model.proofs.Tags.{event_cases, same_event-same, same_event-false, any-element, element-any}
use Rattle.constraints.specs.declared.placed.Placed.{Placed}
use Rattle.constraints.specs.Positions.{thread_numbers, events_of_thread, event_list, counts_of, position_of}
use Rattle.constraints.specs.Constraints.{sources_of, last_reads_from, last_reads_of, edges_to, edges_from, source_edges, last_tag_edges, entry_edges, base_of, impossible}
use Rattle.constraints.specs.Building.{started_before, event_counts, placed_in, placed_entries, placed_last_tags, is_at, placed_source_edges, placed_last_tag_edges, placed_edges, is_shut, source_rows, last_rows, starts_of}
use Rattle.constraints.proofs.Members.{contains_here, contains_next, of_flat_map, of_range}
use Rattle.constraints.proofs.Listed.{of_thread, entry_is, in_list, one_position}
use Rattle.constraints.proofs.Sources.{source_in}
use Rattle.constraints.proofs.Naming.{flat_map_range_more}
use Rattle.constraints.proofs.Points.{count-none, count-all}
use Rattle.constraints.proofs.Placing.{of_placed, in_placed}
use Rattle.constraints.proofs.Respecting.{impossible-entry, entry-impossible, last_tag_in}
use Rattle.constraints.proofs.Cuts.{same_map_range}

take-range : (n k : ℕ) → k ≤ n → take k (range_with_len 0 n) ≡ range_with_len 0 k
take-range n k l = ap (take k) (sym (map-id (range_with_len 0 n))) ∙ take-map-range_with_len (λ (m : ℕ). m) 0 n k l ∙ map-id (range_with_len 0 k)

flat_map-agree : {X Y : Type 0} (f g : X → List Y) (xs : List X) → ((x : X) → Contains xs x → f x ≡ g x) → flat_map f xs ≡ flat_map g xs
flat_map-agree f g [] h = refl
flat_map-agree f g (x ∷ xs) h = ap (λ ys. ys ++ flat_map f xs) (h x (contains_here x xs)) ∙ ap (λ ys. g x ++ ys) (flat_map-agree f g xs (λ y c. h y (contains_next x xs y c)))

flat_map-flat_map : {X Y Z : Type 0} (f : Y → List Z) (g : X → List Y) (xs : List X) → flat_map f (flat_map g xs) ≡ flat_map (λ x. flat_map f (g x)) xs
flat_map-flat_map f g [] = refl
flat_map-flat_map f g (x ∷ xs) = flat_map-append f (g x) (flat_map g xs) ∙ ap (λ ys. flat_map f (g x) ++ ys) (flat_map-flat_map f g xs)

flat_map-map : {X Y Z : Type 0} (f : Y → List Z) (g : X → Y) (xs : List X) → flat_map f (map g xs) ≡ flat_map (λ x. f (g x)) xs
flat_map-map f g [] = refl
flat_map-map f g (x ∷ xs) = ap (λ ys. f (g x) ++ ys) (flat_map-map f g xs)

pub rows-length : (log : Log) → length (source_rows log) ≡ length log.last_tags
rows-length log = length-map-range_with_len (sources_of log) 0 (length log.last_tags)

pub row-of : (log : Log) (word : ℕ) (d : List ℕ) → word < length log.last_tags → get_or (source_rows log) word d ≡ sources_of log word
row-of log word d l = get_or-map-range_with_len (sources_of log) 0 (length log.last_tags) word word d l (omega arith)

pub last_tags-length : (log : Log) → length (placed_last_tags log) ≡ length log.last_tags
last_tags-length log = length-map log.last_tags (option_map (place (event_list log)))

final-of : (log : Log) (word : ℕ) → word < length log.last_tags → get_or (placed_last_tags log) word None ≡ option_map (position_of log) (last_tag log word)
final-of log word l = get_or-map (option_map (place (event_list log))) log.last_tags word None None l

-- the entries are of words of the log
pub placed_words : (log : Log) → IsWellFormed log → (n : ℕ) → n ≡ length log.last_tags → (placed : List Placed) → placed ≡ placed_entries log → All (λ (p : Placed). p.word < n) placed
placed_words log formed n e placed q k d l = by (get_or placed k d) (let P : List Placed → Type 0 = λ ps. Contains ps (get_or placed k d) in subst P q (Contains-get_or placed k d l))
  where
    by : (p : Placed) → Contains (placed_entries log) p → p.word < n
    by p c =
        let (t, a, h, x) = of_placed log p c in
        let w = (entry_is log formed t a h).word in
        let y : a.word ≡ p.word = ap (λ (p : Placed). p.word) x in
        omega (arith, w, y, e)

-- equal tags stand at one position
same_place : (log : Log) → IsWellFormed log → (tag : Tag) (z : Event) → ((e : Event) → tag ≡ Some e → IsEvent log e) → IsEvent log z → is_at (option_map (position_of log) tag) (position_of log z) ≡ same_tag tag (Some z)
same_place log formed None z h iz = refl
same_place log formed (Some x) z h iz = go (event_cases x z)
  where
    go : (x ≡ z) ⊎ (x ≢ z) → eqb (position_of log x) (position_of log z) ≡ same_event x z
    go (inl e) = eq-eqb (position_of log x) (position_of log z) (ap (position_of log) e) ∙ sym (let P : Event → Type 0 = λ y. same_event x y ≡ true in subst P e (same_event-same x))
    go (inr n) = ne_eqb (position_of log x) (position_of log z) (λ q. n (one_position log x z (in_list log formed x (h x refl)) q)) ∙ sym (same_event-false x z n)

-- each entry asks for the same edges by positions
placed-asks : (log : Log) → IsWellFormed log → (t : ℕ) (a : Entry) → HasEntry log t a → placed_edges (source_rows log) (placed_last_tags log) (placed_in (event_list log) t a) ≡ entry_edges log t a
placed-asks log formed t a h =
    ap (λ xs. xs ++ placed_last_tag_edges P (get_or (placed_last_tags log) a.word None)) (source a.source) ∙
    ap (λ xs. source_edges log t a a.source ++ xs) (ap (placed_last_tag_edges P) (final-of log a.word word) ∙ final (last_tag log a.word) refl)
  where
    P : Placed
    P = placed_in (event_list log) t a

    word : a.word < length log.last_tags
    word = (entry_is log formed t a h).word

    source : (tag : Tag) → placed_source_edges (source_rows log) (placed_in (event_list log) t a) (option_map (place (event_list log)) tag) ≡ source_edges log t a tag
    source None = ap (edges_from (position_of log (last_event t a))) (row-of log a.word [] word)
    source (Some x) = refl

    final : (tag : Tag) → last_tag log a.word ≡ tag → placed_last_tag_edges (placed_in (event_list log) t a) (option_map (position_of log) tag) ≡ last_tag_edges log t a tag
    final None q = refl
    final (Some z) q = ap (λ b. cond b [] (edges_to (position_of log (last_event t a) ∷ []) (position_of log z)))
        (same_place log formed a.source z (λ e s. source_in log t a e h s) (last_tag_in log formed t a z h q))

pub base-placed : (log : Log) → IsWellFormed log → flat_map (placed_edges (source_rows log) (placed_last_tags log)) (placed_entries log) ≡ base_of log
unfolding base_of
base-placed log formed =
    flat_map-flat_map (placed_edges (source_rows log) (placed_last_tags log)) (λ t. map (placed_in (event_list log) t) (thread_of log t).entries) (thread_numbers log) ∙
    flat_map-agree (λ t. flat_map (placed_edges (source_rows log) (placed_last_tags log)) (map (placed_in (event_list log) t) (thread_of log t).entries)) (λ t. flat_map (entry_edges log t) (thread_of log t).entries) (thread_numbers log)
    (λ t c. flat_map-map (placed_edges (source_rows log) (placed_last_tags log)) (placed_in (event_list log) t) (thread_of log t).entries ∙
    flat_map-agree (λ a. placed_edges (source_rows log) (placed_last_tags log) (placed_in (event_list log) t a)) (entry_edges log t) (thread_of log t).entries (λ a h. placed-asks log formed t a h))

-- one answers true exactly where the other does
same_answers : (a b : Bool) → (a ≡ true → b ≡ true) → (b ≡ true → a ≡ true) → a ≡ b
same_answers true b f g = sym (f refl)
same_answers false true f g = g refl
same_answers false false f g = refl

pub impossible-placed : (log : Log) → IsWellFormed log → list_any (is_shut (placed_last_tags log)) (placed_entries log) ≡ impossible log
impossible-placed log formed = same_answers (list_any (is_shut (placed_last_tags log)) (placed_entries log)) (impossible log) there back
  where
    shut-none : (f : Event → ℕ) (tag : Tag) → not (is_some (option_map f tag)) ≡ true → tag ≡ None
    shut-none f None h = refl
    shut-none f (Some e) h = cc

    some-not : (f : Event → ℕ) (tag : Tag) → is_some (option_map f tag) ≡ true → tag ≢ None
    some-not f None h q = cc
    some-not f (Some e) h q = cc

    not-some : (f : Event → ℕ) (tag : Tag) → tag ≢ None → is_some (option_map f tag) ≡ true
    not-some f None n = absurd (n refl)
    not-some f (Some e) n = refl

    there : list_any (is_shut (placed_last_tags log)) (placed_entries log) ≡ true → impossible log ≡ true
    there h =
        let (p, c, s) = any-element (is_shut (placed_last_tags log)) (placed_entries log) h in
        let (t, a, d, q) = of_placed log p c in
        by t a d (let P : Placed → Type 0 = λ p. is_shut (placed_last_tags log) p ≡ true in subst P (sym q) s)
      where
        by : (t : ℕ) (a : Entry) → HasEntry log t a → is_shut (placed_last_tags log) (placed_in (event_list log) t a) ≡ true → impossible log ≡ true
        by t a d s =
            let (x, y) = and_parts (not (is_some (get_or (placed_last_tags log) a.word None))) (is_some (option_map (place (event_list log)) a.source)) s in
            let P : Option ℕ → Type 0 = λ o. not (is_some o) ≡ true in
            entry-impossible log t a d (shut-none (position_of log) (last_tag log a.word) (subst P (final-of log a.word (entry_is log formed t a d).word) x)) (some-not (place (event_list log)) a.source y)

    back : impossible log ≡ true → list_any (is_shut (placed_last_tags log)) (placed_entries log) ≡ true
    back h =
        let (t, a, d, q, n) = impossible-entry log h in
        let P : Option ℕ → Type 0 = λ o. not (is_some o) ≡ true in
        let e : get_or (placed_last_tags log) a.word None ≡ None = final-of log a.word (entry_is log formed t a d).word ∙ ap (option_map (position_of log)) q in
        element-any (is_shut (placed_last_tags log)) (placed_entries log) (placed_in (event_list log) t a) (in_placed log t a d)
        (and_from (not (is_some (get_or (placed_last_tags log) a.word None))) (is_some (option_map (place (event_list log)) a.source)) (subst P (sym e) refl) (not-some (place (event_list log)) a.source n))

-- the events of the threads before thread t are those of the blocks before its own
count-append : {X : Type 0} (p : X → Bool) (xs ys : List X) → count_by p (xs ++ ys) ≡ count_by p xs + count_by p ys
count-append p xs ys = sum_by-append (λ x. cond (p x) 1 0) xs ys

started : (log : Log) (t n : ℕ) → n ≤ t → started_before (flat_map (events_of_thread log) (range_with_len 0 n)) t ≡ length (flat_map (events_of_thread log) (range_with_len 0 n))
started log t n l = count-all (λ (e : Event). ltb e.thread t) (flat_map (events_of_thread log) (range_with_len 0 n)) (λ e c. lt-ltb e.thread t (low e c))
  where
    low : (e : Event) → Contains (flat_map (events_of_thread log) (range_with_len 0 n)) e → e.thread < t
    low e c =
        let (u, m, d) = of_flat_map (events_of_thread log) (range_with_len 0 n) e c in
        let (a, b) = of_range 0 n u m in
        let q = (of_thread log u e d).0 in
        omega (arith, l, b, q)

started-more : (log : Log) (t n : ℕ) → t ≤ n → started_before (flat_map (events_of_thread log) (range_with_len 0 n)) t ≡ length (flat_map (events_of_thread log) (range_with_len 0 t))
started-more log t zero l =
    let q : t ≡ 0 = omega arith in
    sym (ap (λ k. length (flat_map (events_of_thread log) (range_with_len 0 k))) q)
started-more log t (suc n) l = go (cases_lt n t) (started-more log t n)
  where
    o : suc n ≡ n + 1
    o = omega arith

    go : (n < t) ⊎ (t ≤ n) → (t ≤ n → started_before (flat_map (events_of_thread log) (range_with_len 0 n)) t ≡ length (flat_map (events_of_thread log) (range_with_len 0 t))) →
        started_before (flat_map (events_of_thread log) (range_with_len 0 (suc n))) t ≡ length (flat_map (events_of_thread log) (range_with_len 0 t))
    go (inl s) ih = let q : suc n ≡ t = omega (arith, s, l) in started log t (suc n) l' ∙ ap (λ k. length (flat_map (events_of_thread log) (range_with_len 0 k))) q
      where
        l' : suc n ≤ t
        l' = omega (arith, s)
    go (inr s) ih =
        let e = ap (λ es. started_before es t) (ap (λ k. flat_map (events_of_thread log) (range_with_len 0 k)) o ∙ flat_map_range_more (events_of_thread log) n) in
        let a = count-append (λ (e : Event). ltb e.thread t) (flat_map (events_of_thread log) (range_with_len 0 n)) (events_of_thread log n) in
        let z = count-none (λ (e : Event). ltb e.thread t) (events_of_thread log n) (λ x c. let q = (of_thread log n x c).0 in le-ltb x.thread t (omega (arith, s, q))) in
        let i = ih s in
        e ∙ (let r : started_before (flat_map (events_of_thread log) (range_with_len 0 n) ++ events_of_thread log n) t ≡ length (flat_map (events_of_thread log) (range_with_len 0 t)) = omega (arith, a, z, i) in r)

pub counts-placed : (log : Log) → event_counts (event_list log) (length log.threads) ≡ counts_of log
unfolding event_list counts_of
counts-placed log = same_map_range (λ t. started_before (flat_map (events_of_thread log) (thread_numbers log)) (t + 1) - started_before (flat_map (events_of_thread log) (thread_numbers log)) t) (λ t. length (events_of_thread log t)) (length log.threads) each
  where
    each : (t : ℕ) → t < length log.threads → started_before (flat_map (events_of_thread log) (thread_numbers log)) (t + 1) - started_before (flat_map (events_of_thread log) (thread_numbers log)) t ≡ length (events_of_thread log t)
    each t l =
        let a = started-more log (t + 1) (length log.threads) (omega arith) in
        let b = started-more log t (length log.threads) (omega arith) in
        let e = ap (λ (es : List Event). length es) (flat_map_range_more (events_of_thread log) t) in
        let c = length-append (flat_map (events_of_thread log) (range_with_len 0 t)) (events_of_thread log t) in
        omega (arith, a, b, c, e)

-- what is asked of the rows of a problem's log
pub source-row : (log : Log) (rows : List (List ℕ)) (word : ℕ) → rows ≡ source_rows log → word < length log.last_tags → (word < length rows) × (get_or rows word [] ≡ sources_of log word)
source-row log rows word e l =
    let n = rows-length log in
    let m : length rows ≡ length (source_rows log) = ap length e in
    (omega (arith, l, n, m), ap (λ (rs : List (List ℕ)). get_or rs word []) e ∙ row-of log word [] l)

-- the last reads of a word's i-th source, in the rows of all last reads
pub last-row : (log : Log) (sources last_reads : List (List ℕ)) (word i : ℕ) → sources ≡ source_rows log → last_reads ≡ last_rows log → word < length log.last_tags → i < length (sources_of log word) →
    (sum_by length (take word sources) + i < length last_reads) × (get_or last_reads (sum_by length (take word sources) + i) [] ≡ last_reads_of log word i)
last-row log sources last_reads word i e f l m =
    (in_rows, ap (λ (rs : List (List ℕ)). get_or rs (sum_by length (take word sources) + i) []) f ∙ at)
  where
    words : List ℕ
    words = range_with_len 0 (length log.last_tags)

    rows : ℕ → List (List ℕ)
    rows w = map (last_reads_from log w) (sources_of log w)

    -- the last reads' rows before the word are as many as the sources before it
    begin : (n : ℕ) → n ≤ length log.last_tags → length (flat_map (λ w. map (last_reads_from log w) (sources_of log w)) (range_with_len 0 n)) ≡ sum_by length (map (sources_of log) (range_with_len 0 n))
    begin n k = length-flat_map (λ w. map (last_reads_from log w) (sources_of log w)) (range_with_len 0 n) ∙ same_sum (range_with_len 0 n)
      where
        same_sum : (ws : List ℕ) → sum_by (λ w. length (map (last_reads_from log w) (sources_of log w))) ws ≡ sum_by length (map (sources_of log) ws)
        same_sum [] = refl
        same_sum (w ∷ ws) =
            let a = sum_by-cons (λ w. length (map (last_reads_from log w) (sources_of log w))) w ws in
            let b = sum_by-cons (λ (xs : List ℕ). length xs) (sources_of log w) (map (sources_of log) ws) in
            let c = length-map (sources_of log w) (last_reads_from log w) in
            let ih = same_sum ws in
            omega (arith, a, b, c, ih)

    taken : take word sources ≡ map (sources_of log) (range_with_len 0 word)
    taken = ap (take word) e ∙ take-map-range_with_len (sources_of log) 0 (length log.last_tags) word (omega (arith, l))

    start : sum_by length (take word sources) ≡ length (flat_map (λ w. map (last_reads_from log w) (sources_of log w)) (take word (range_with_len 0 (length log.last_tags))))
    start = ap (sum_by length) taken ∙ sym (begin word (omega (arith, l))) ∙ ap (λ (ws : List ℕ). length (flat_map (λ w. map (last_reads_from log w) (sources_of log w)) ws)) (sym (take-range (length log.last_tags) word (omega (arith, l))))

    long : i < length (map (last_reads_from log (get_or (range_with_len 0 (length log.last_tags)) word 0)) (sources_of log (get_or (range_with_len 0 (length log.last_tags)) word 0)))
    long =
        let q : get_or (range_with_len 0 (length log.last_tags)) word 0 ≡ word = get_or-range_with_len 0 (length log.last_tags) word 0 l ∙ omega arith in
        let P : ℕ → Type 0 = λ w. i < length (map (last_reads_from log w) (sources_of log w)) in
        subst P (sym q) (let c = length-map (sources_of log word) (last_reads_from log word) in omega (arith, c, m))

    at : get_or (last_rows log) (sum_by length (take word sources) + i) [] ≡ last_reads_of log word i
    at =
        let q : get_or (range_with_len 0 (length log.last_tags)) word 0 ≡ word = get_or-range_with_len 0 (length log.last_tags) word 0 l ∙ omega arith in
        let w : word < length (range_with_len 0 (length log.last_tags)) = omega (arith, l, length-range_with_len 0 (length log.last_tags)) in
        ap (λ n. get_or (last_rows log) (n + i) []) start ∙
        get_or-flat_map (λ w. map (last_reads_from log w) (sources_of log w)) (range_with_len 0 (length log.last_tags)) word i 0 [] w long ∙
        ap (λ v. get_or (map (last_reads_from log v) (sources_of log v)) i []) q ∙
        get_or-map (last_reads_from log word) (sources_of log word) i 0 [] m

    in_rows : sum_by length (take word sources) + i < length last_reads
    in_rows =
        let a = start in
        let b = long in
        let n = ap (λ (rs : List (List ℕ)). length rs) f in
        let w : word < length (range_with_len 0 (length log.last_tags)) = omega (arith, l, length-range_with_len 0 (length log.last_tags)) in
        let c = ap (λ (ws : List ℕ). length (flat_map (λ w. map (last_reads_from log w) (sources_of log w)) ws)) (sym (take-append-drop word (range_with_len 0 (length log.last_tags)))) in
        let d = ap (λ (rs : List (List ℕ)). length rs) (flat_map-append (λ w. map (last_reads_from log w) (sources_of log w)) (take word (range_with_len 0 (length log.last_tags))) (drop word (range_with_len 0 (length log.last_tags)))) in
        let g = length-append (flat_map (λ w. map (last_reads_from log w) (sources_of log w)) (take word (range_with_len 0 (length log.last_tags)))) (flat_map (λ w. map (last_reads_from log w) (sources_of log w)) (drop word (range_with_len 0 (length log.last_tags)))) in
        let h = ap (λ (ws : List ℕ). length (flat_map (λ w. map (last_reads_from log w) (sources_of log w)) ws)) (drop_more (range_with_len 0 (length log.last_tags)) word 0 w) in
        let k = length-append (map (last_reads_from log (get_or (range_with_len 0 (length log.last_tags)) word 0)) (sources_of log (get_or (range_with_len 0 (length log.last_tags)) word 0))) (flat_map (λ w. map (last_reads_from log w) (sources_of log w)) (drop (word + 1) (range_with_len 0 (length log.last_tags)))) in
        omega (arith, a, b, n, c, d, g, h, k)

-- what a problem keeps, said of the log that it is seen as
pub seen : {log now : Log} {events : List Event} {starts counts : List ℕ} {base : List Edge} {sources last_reads : List (List ℕ)} {never : Bool} → log ≡ now →
    IsProblem log events starts counts base sources last_reads never → IsProblem now events starts counts base sources last_reads never
seen {log} {now} {events} {starts} {counts} {base} {sources} {last_reads} {never} e h = let P : Log → Type 0 = λ x. IsProblem x events starts counts base sources last_reads never in subst P e h

-- the same at a number that is the word's
pub source-row-at : (log : Log) (rows : List (List ℕ)) (word n : ℕ) → n ≡ word → rows ≡ source_rows log → word < length log.last_tags → (n < length rows) × (get_or rows n [] ≡ sources_of log word)
source-row-at log rows word n q e l =
    let (a, b) = source-row log rows word e l in
    (omega (arith, q, a), ap (λ k. get_or rows k []) q ∙ b)

pub last-row-at : (log : Log) (sources last_reads : List (List ℕ)) (word i n start : ℕ) → n ≡ word → start ≡ sum_by length (take n sources) → sources ≡ source_rows log → last_reads ≡ last_rows log → word < length log.last_tags → i < length (sources_of log word) →
    (start + i < length last_reads) × (get_or last_reads (start + i) [] ≡ last_reads_of log word i)
last-row-at log sources last_reads word i n start q r e f l m =
    let (a, b) = last-row log sources last_reads word i e f l m in
    let o : start ≡ sum_by length (take word sources) = r ∙ ap (λ k. sum_by length (take k sources)) q in
    (omega (arith, a, o), ap (λ k. get_or last_reads (k + i) []) o ∙ b)

-- there are not many rows of last reads
pub last_reads-few : (log : Log) (rows : List (List ℕ)) → IsWellFormed log → rows ≡ last_rows log → length rows < 2 ^ 64
last_reads-few log rows formed e =
    let a = ap (λ (rs : List (List ℕ)). length rs) e in
    let b = length-flat_map (λ w. map (last_reads_from log w) (sources_of log w)) (range_with_len 0 (length log.last_tags)) in
    let c = sum_by-le (λ w. length (map (last_reads_from log w) (sources_of log w))) (2 ^ 32) (range_with_len 0 (length log.last_tags)) (λ k d l. one (get_or (range_with_len 0 (length log.last_tags)) k d)) in
    let d = length-range_with_len 0 (length log.last_tags) in
    let w = formed.range.words in
    let m : length (range_with_len 0 (length log.last_tags)) * 2 ^ 32 ≤ 4096 * 2 ^ 32 = omega (arith, d, w) in
    omega (arith, a, b, c, m)
  where
    one : (w : ℕ) → length (map (last_reads_from log w) (sources_of log w)) ≤ 2 ^ 32
    one w =
        let a = length-map (sources_of log w) (last_reads_from log w) in
        let b = (logs_are_small log formed).sources w in
        let c = (logs_are_small log formed).few in
        omega (arith, a, b, c)

-- what is made of entries and last tags by positions is what the log asks for
pub base-of : (log : Log) (base : List Edge) (placed : List Placed) (last_tags : List (Option ℕ)) (sources : List (List ℕ)) → IsWellFormed log → base ≡ flat_map (placed_edges sources last_tags) placed →
    placed ≡ placed_entries log → last_tags ≡ placed_last_tags log → sources ≡ source_rows log → base ≡ base_of log
base-of log base placed last_tags sources formed e p f s =
    e ∙ ap (λ (ss : List (List ℕ)). flat_map (placed_edges ss last_tags) placed) s ∙ ap (λ (fs : List (Option ℕ)). flat_map (placed_edges (source_rows log) fs) placed) f ∙
    ap (flat_map (placed_edges (source_rows log) (placed_last_tags log))) p ∙ base-placed log formed

pub never-of : (log : Log) (never : Bool) (placed : List Placed) (last_tags : List (Option ℕ)) → IsWellFormed log → never ≡ list_any (is_shut last_tags) placed → placed ≡ placed_entries log → last_tags ≡ placed_last_tags log → never ≡ impossible log
never-of log never placed last_tags formed e p f =
    e ∙ ap (λ (fs : List (Option ℕ)). list_any (is_shut fs) placed) f ∙ ap (list_any (is_shut (placed_last_tags log))) p ∙ impossible-placed log formed

pub starts-of : (log : Log) (starts : List ℕ) (events : List Event) (threads : ℕ) → starts ≡ starts_of events threads → events ≡ event_list log → threads ≡ length log.threads → starts ≡ starts_of (event_list log) (length log.threads)
starts-of log starts events threads s e t = s ∙ ap (λ (es : List Event). starts_of es threads) e ∙ ap (starts_of (event_list log)) t

pub counts-of : (log : Log) (counts : List ℕ) (events : List Event) (threads : ℕ) → counts ≡ event_counts events threads → events ≡ event_list log → threads ≡ length log.threads → counts ≡ counts_of log
counts-of log counts events threads s e t = s ∙ ap (λ (es : List Event). event_counts es threads) e ∙ ap (event_counts (event_list log)) t ∙ counts-placed log

pub words-within : (log : Log) (placed : List Placed) (last_tags : List (Option ℕ)) → IsWellFormed log → placed ≡ placed_entries log → last_tags ≡ placed_last_tags log → All (λ (p : Placed). p.word < length last_tags) placed
words-within log placed last_tags formed p f = placed_words log formed (length last_tags) (ap (λ (fs : List (Option ℕ)). length fs) f ∙ last_tags-length log) placed p

pub words-rowed : (log : Log) (placed : List Placed) (sources : List (List ℕ)) → IsWellFormed log → placed ≡ placed_entries log → sources ≡ source_rows log → All (λ (p : Placed). p.word < length sources) placed
words-rowed log placed sources formed p s = placed_words log formed (length sources) (ap (λ (ss : List (List ℕ)). length ss) s ∙ rows-length log) placed p
