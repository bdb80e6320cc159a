-- How many events a log has, and how many last reads a source.
use Rattle.std.proofs.Common.{◌≡◌, ℕ, zero, suc, ◌+◌, ◌*◌, ◌^◌, ◌<◌, ◌≤◌, true, eqb, Some, None, Option, List, [], ◌∷◌, ◌++◌, length, get_or, refl, sym, ◌∙◌, ap, subst, arith, inl, inr, ◌⊎◌}
use Rattle.std.specs.Prelude.{Contains, ◌≢◌}
use Rattle.std.specs.Ordering.{on}
use Rattle.std.specs.List.{AllPairs, filter_map, flat_map, range_with_len, sum_by, list_any}
use Rattle.std.proofs.lemmas.Bool.{cases_order, ne_eqb}
use Rattle.std.proofs.lemmas.Cmp.{on_equiv, nat_eq_equiv}
use Rattle.std.proofs.lemmas.Map.Keys.{IsDistinct-from_apart}
use Rattle.std.proofs.lemmas.Map.Made.{length-le_from_is_member}
use Rattle.std.proofs.lemmas.List.{length-append, get_or_default}
use Rattle.std.proofs.lemmas.List.Concat.{length-flat_map}
use Rattle.std.proofs.lemmas.List.FromFn.{length-range_with_len}
use Rattle.std.proofs.lemmas.List.Sums.{sum_by-le}
use Rattle.std.proofs.lemmas.List.Elements.{Contains-get_or}
use Rattle.light_base.specs.declared.tag.Event.{Event}
use Rattle.light_base.specs.declared.tag.Tag.{Tag}
use Rattle.replay_model.specs.declared.Entry.{Entry}
use Rattle.replay_model.specs.Logs.{Log, thread_of, HasEntry, last_event}
use Rattle.replay_model.specs.WellFormed.{IsWellFormed}
use Rattle.replay_model.proofs.Tags.{any-element, element-any}
use Rattle.replay_laws.proofs.Places.{entry_thread}
use Rattle.constraints.specs.Positions.{thread_numbers, event_list, no_event, event_at, position_of}
use Rattle.constraints.specs.Constraints.{sources_of, last_reads_from}
use Rattle.constraints.specs.Building.{mentioned_by, mentioned_tags}
use Rattle.constraints.proofs.Members.{contains_none, of_range}
use Rattle.constraints.proofs.Listed.{Before, of_list, position-event, before_from}
use Rattle.constraints.proofs.Listing.{in_mentioned}
use Rattle.constraints.proofs.Shapes.{last_reads-rising}
use Rattle.constraints.proofs.Sources.{of_last_reads}
use Rattle.constraints.proofs.Strict.{in_filter_map}

-- things with different numbers, each of which another list has, are no more than that has
pigeons : {X : Type 0} (f : X → ℕ) (xs ys : List X) → AllPairs (λ x y. f x ≢ f y) xs → ((x : X) → Contains xs x → Contains ys x) → length xs ≤ length ys
pigeons {X} f xs ys apart within = length-le_from_is_member (on_equiv f nat_eq_equiv) xs ys
    (IsDistinct-from_apart (on f eqb) xs (λ i j d l m. ne_eqb (f (get_or xs i d)) (f (get_or xs j d)) (apart i j d l m))) members
  where
    members : (q : X) → list_any (on f eqb q) xs ≡ true → list_any (on f eqb q) ys ≡ true
    members q h = let (x, c, e) = any-element (on f eqb q) xs h in element-any (on f eqb q) ys x (within x c) e

-- things whose numbers rise to below a bound are no more than that
rising-few : {X : Type 0} (f : X → ℕ) (n : ℕ) (xs : List X) → AllPairs (λ x y. f x < f y) xs → ((x : X) → Contains xs x → f x < n) → length xs ≤ n
rising-few f n [] rise below = omega arith
rising-few {X} f n (x ∷ xs) rise below =
    let a = high (length xs) (omega arith) in
    let b = below (get_or (x ∷ xs) (length xs) x) (Contains-get_or (x ∷ xs) (length xs) x (omega arith)) in
    omega (arith, a, b)
  where
    high : (k : ℕ) → k < length (x ∷ xs) → k ≤ f (get_or (x ∷ xs) k x)
    high zero l = omega arith
    high (suc k) l =
        let a = high k (omega (arith, l)) in
        let b = rise k (suc k) x (omega arith) l in
        omega (arith, a, b)

few-tags : (tags : List Tag) → length (filter_map (λ (tag : Tag). tag) tags) ≤ length tags
few-tags [] = omega arith
few-tags (None ∷ tags) = let ih = few-tags tags in omega (arith, ih)
few-tags (Some e ∷ tags) = let ih = few-tags tags in omega (arith, ih)

mentioned-few : (log : Log) → IsWellFormed log → length (mentioned_tags log) < 2 ^ 20
mentioned-few log formed =
    let a = length-append (flat_map (λ t. flat_map (mentioned_by t) (thread_of log t).entries) (thread_numbers log)) log.last_tags in
    let b = length-flat_map (λ t. flat_map (mentioned_by t) (thread_of log t).entries) (thread_numbers log) in
    let c = sum_by-le (λ t. length (flat_map (mentioned_by t) (thread_of log t).entries)) (3 * 16384) (thread_numbers log)
    (λ k d l. one (get_or (thread_numbers log) k d) (Contains-get_or (thread_numbers log) k d l)) in
    let d = length-range_with_len 0 (length log.threads) in
    let t = formed.range.threads in
    let w = formed.range.words in
    omega (arith, a, b, c, d, t, w)
  where
    three : (t : ℕ) (entries : List Entry) → length (flat_map (mentioned_by t) entries) ≡ 3 * length entries
    three t [] = refl
    three t (entry ∷ entries) =
        let a = length-append (mentioned_by t entry) (flat_map (mentioned_by t) entries) in
        let ih = three t entries in
        omega (arith, a, ih)

    one : (t : ℕ) → Contains (thread_numbers log) t → length (flat_map (mentioned_by t) (thread_of log t).entries) ≤ 3 * 16384
    one t c =
        let (a, b) = of_range 0 (length log.threads) t c in
        let e = three t (thread_of log t).entries in
        let l = (formed.threads t (omega (arith, b))).entries in
        let m = formed.range.entries in
        omega (arith, e, l, m)

-- a log has no more events than it names
pub events_small : (log : Log) → IsWellFormed log → length (event_list log) < 2 ^ 20
events_small log formed =
    let tags = mentioned_tags log in
    let a = pigeons (position_of log) (event_list log) (filter_map (λ (tag : Tag). tag) (mentioned_tags log)) apart
    (λ e c. in_filter_map (λ (tag : Tag). tag) (mentioned_tags log) (Some e) e (in_mentioned log e (of_list log e c)) refl) in
    let b = few-tags (mentioned_tags log) in
    let c = mentioned-few log formed in
    omega (arith, a, b, c)
  where
    at : (p : ℕ) (d : Event) → p < length (event_list log) → position_of log (get_or (event_list log) p d) ≡ p
    at p d l = ap (position_of log) (get_or_default (event_list log) p d no_event l) ∙ position-event log p l

    apart : AllPairs (λ x y. position_of log x ≢ position_of log y) (event_list log)
    apart i j d l m e =
        let x = at i d (omega (arith, l, m)) in
        let y = at j d m in
        omega (arith, l, e, x, y)

-- each thread reads a source of a word in one entry at most, so the last reads are of different threads
pub readers_few : (log : Log) → IsWellFormed log → (word s : ℕ) → length (last_reads_from log word s) ≤ length log.threads
readers_few log formed word s = rising-few (λ p. (event_at log p).thread) (length log.threads) (last_reads_from log word s) rise (λ p c. (reader p c).0)
  where
    reader : (p : ℕ) → Contains (last_reads_from log word s) p → ((event_at log p).thread < length log.threads) × (p < length (event_list log))
    reader p c =
        let (l, (t, a, h, w, q, e)) = of_last_reads log word s p c in
        let i = entry_thread log t a h in
        let n : t ≡ (event_at log p).thread = ap (λ (x : Event). x.thread) e in
        (omega (arith, i, n), l)

    same : (a b : Entry) (t : ℕ) → HasEntry log t a → HasEntry log t b → a.word ≡ b.word → a.source ≡ b.source → a.last ≡ b.last
    same a b t (i, l, x) (j, m, y) w q = go (cases_order i j)
      where
        entries : List Entry
        entries = (thread_of log t).entries

        thread : t < length log.threads
        thread = entry_thread log t a (i, l, x)

        at : get_or entries j a ≡ b
        at = get_or_default entries j a b m ∙ y

        go : (i ≡ j) ⊎ ((i < j) ⊎ (j < i)) → a.last ≡ b.last
        go (inl e) = ap (λ (c : Entry). c.last) (sym x ∙ ap (λ n. get_or (thread_of log t).entries n a) e ∙ at)
        go (inr (inl k)) = absurd ((formed.threads t thread).once i j a k m (ap (λ (c : Entry). c.word) x ∙ w ∙ sym (ap (λ (c : Entry). c.word) at)) (ap (λ (c : Entry). c.source) x ∙ q ∙ sym (ap (λ (c : Entry). c.source) at)))
        go (inr (inr k)) = absurd ((formed.threads t thread).once j i a k l (ap (λ (c : Entry). c.word) at ∙ sym w ∙ sym (ap (λ (c : Entry). c.word) x)) (ap (λ (c : Entry). c.source) at ∙ sym q ∙ sym (ap (λ (c : Entry). c.source) x)))

    rise : AllPairs (λ p q. (event_at log p).thread < (event_at log q).thread) (last_reads_from log word s)
    rise i j d l m = by (get_or (last_reads_from log word s) i d) (get_or (last_reads_from log word s) j d)
        (Contains-get_or (last_reads_from log word s) i d (omega (arith, l, m))) (Contains-get_or (last_reads_from log word s) j d m) (last_reads-rising log word s i j d l m)
      where
        by : (p q : ℕ) → Contains (last_reads_from log word s) p → Contains (last_reads_from log word s) q → p < q → (event_at log p).thread < (event_at log q).thread
        by p q c d o = go (before_from log p q o (reader q d).1)
          where
            go : Before (event_at log p) (event_at log q) → (event_at log p).thread < (event_at log q).thread
            go (inl l) = l
            go (inr (e, l)) =
                let (m, (t, a, h, w, x, f)) = of_last_reads log word s p c in
                let (n, (u, b, k, v, y, g)) = of_last_reads log word s q d in
                let z : u ≡ t = ap (λ (r : Event). r.thread) g ∙ sym e ∙ sym (ap (λ (r : Event). r.thread) f) in
                let o = same a b t h (subst (λ (r : ℕ). HasEntry log r b) z k) (w ∙ sym v) (x ∙ sym y) in
                let one = ap (λ (r : Event). r.step) f in
                let two = ap (λ (r : Event). r.step) g in
                absurd (omega (arith, l, o, one, two))
