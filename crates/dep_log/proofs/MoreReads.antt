-- Entries after one more read: the pair's entry now ends later, or a new one stands at the end.
use Rattle.std.proofs.Common.{◌≡◌, ℕ, ◌+◌, ◌<◌, ◌≤◌, Bool, true, false, cond, List, [], ◌∷◌, ◌++◌, length, get_or, set, map, sym, ◌∙◌, ap, subst, arith, inl, inr, ◌⊎◌}
use Rattle.std.specs.Prelude.{◌≢◌}
use Rattle.std.specs.List.{list_any}
use Rattle.std.proofs.lemmas.List.{append-nil, same_lists, length_push, length-map, length-set, get_or-map, get_or-set_same, get_or-set_other, get_or_append_left, get_or_push, get_or_default}
use Rattle.std.proofs.lemmas.List.Folds.{list_any_at}
use Rattle.std.proofs.lemmas.Bool.{cases_Bool, cases_eq, cases_lt}
use Rattle.replay_model.specs.Steps.{Tag}
use Rattle.replay_model.specs.MoreReads.{is_entry_for, touched, with_read}
use Rattle.replay_model.proofs.Tags.{any-element}
use Rattle.dep_log.specs.AccessLogs.{Entry}
use Rattle.dep_log.specs.Buckets.{no_entry, entry_at, AreOnce}
use Rattle.dep_log.proofs.Chains.{entry_for-word, entry_for-source, entry_for-from}

-- an entry of another pair stays
touched-other : (word : ℕ) (tag : Tag) (n : ℕ) (entry : Entry) → is_entry_for word tag entry ≡ false → touched word tag n entry ≡ entry
touched-other word tag n entry h = ap (λ (b : Bool). record { word = entry.word; source = entry.source; first = entry.first; last = cond b n entry.last }) h

touched-own : (word : ℕ) (tag : Tag) (n : ℕ) (entry : Entry) → is_entry_for word tag entry ≡ true → touched word tag n entry ≡ record entry { last = n }
touched-own word tag n entry h = ap (λ (b : Bool). record { word = entry.word; source = entry.source; first = entry.first; last = cond b n entry.last }) h

-- a pair that has its entry at one place has none at another
pub once-other : (entries : List Entry) → AreOnce entries → (word : ℕ) (tag : Tag) (place k : ℕ) → place < length entries → k < length entries → k ≢ place →
    is_entry_for word tag (entry_at entries place) ≡ true → is_entry_for word tag (entry_at entries k) ≡ false
once-other entries h word tag place k l m ne own = go (cases_Bool (is_entry_for word tag (entry_at entries k))) (cases_lt k place)
  where
    go : (is_entry_for word tag (entry_at entries k) ≡ true) ⊎ (is_entry_for word tag (entry_at entries k) ≡ false) → (k < place) ⊎ (place ≤ k) →
        is_entry_for word tag (entry_at entries k) ≡ false
    go (inr f) s = f
    go (inl t) (inl s) =
        let twice = entry_for-from (entry_at entries k).word (entry_at entries k).source (entry_at entries place)
        (sym (entry_for-word word tag (entry_at entries k) t) ∙ entry_for-word word tag (entry_at entries place) own)
        (sym (entry_for-source word tag (entry_at entries k) t) ∙ entry_for-source word tag (entry_at entries place) own) in
        let never = h.once k place s l in cc (twice, never)
    go (inl t) (inr s) =
        let twice = entry_for-from (entry_at entries place).word (entry_at entries place).source (entry_at entries k)
        (sym (entry_for-word word tag (entry_at entries place) own) ∙ entry_for-word word tag (entry_at entries k) t)
        (sym (entry_for-source word tag (entry_at entries place) own) ∙ entry_for-source word tag (entry_at entries k) t) in
        let never = h.once place k (omega (arith, s, ne)) m in cc (twice, never)

-- one more read of a pair that has its entry
pub with_read-own : (entries : List Entry) → AreOnce entries → (word : ℕ) (tag : Tag) (n place : ℕ) → place < length entries → is_entry_for word tag (entry_at entries place) ≡ true →
    set entries place (record (entry_at entries place) { last = n }) ≡ with_read word tag n entries
with_read-own entries once word tag n place there own =
    same_lists changed (map (touched word tag n) entries) lengths each ∙ sym (append-nil (map (touched word tag n) entries)) ∙
    ap (λ (b : Bool). map (touched word tag n) entries ++ cond b [] (record { word = word; source = tag; first = n; last = n } ∷ [])) (sym any)
  where
    changed : List Entry
    changed = set entries place (record (entry_at entries place) { last = n })

    any : list_any (is_entry_for word tag) entries ≡ true
    any = list_any_at (is_entry_for word tag) entries place no_entry there own

    lengths : length changed ≡ length (map (touched word tag n) entries)
    lengths = length-set entries place (record (entry_at entries place) { last = n }) ∙ sym (length-map entries (touched word tag n))

    at : (k : ℕ) (d : Entry) → k < length entries → (k ≡ place) ⊎ (k ≢ place) → get_or changed k d ≡ touched word tag n (get_or entries k d)
    at k d l (inl e) =
        let P : ℕ → Type 0 = λ j. get_or changed j d ≡ touched word tag n (get_or entries j d) in
        let same : entry_at entries place ≡ get_or entries place d = get_or_default entries place no_entry d there in
        subst P (sym e) (get_or-set_same entries place (record (entry_at entries place) { last = n }) d there ∙ sym (touched-own word tag n (entry_at entries place) own) ∙ ap (touched word tag n) same)
    at k d l (inr ne) =
        get_or-set_other entries place k (record (entry_at entries place) { last = n }) d ne ∙ get_or_default entries k d no_entry l ∙
        sym (touched-other word tag n (entry_at entries k) (once-other entries once word tag place k there l ne own)) ∙ ap (touched word tag n) (get_or_default entries k no_entry d l)

    each : (k : ℕ) (d : Entry) → k < length changed → get_or changed k d ≡ get_or (map (touched word tag n) entries) k d
    each k d l =
        let within : k < length entries = omega (arith, length-set entries place (record (entry_at entries place) { last = n })) in
        at k d within (cases_eq k place) ∙ sym (get_or-map (touched word tag n) entries k d d within)

-- no entry is that of the pair
pub any_none : (entries : List Entry) (word : ℕ) (tag : Tag) → ((k : ℕ) → k < length entries → is_entry_for word tag (entry_at entries k) ≡ false) → list_any (is_entry_for word tag) entries ≡ false
any_none entries word tag none = go (cases_Bool (list_any (is_entry_for word tag) entries))
  where
    go : (list_any (is_entry_for word tag) entries ≡ true) ⊎ (list_any (is_entry_for word tag) entries ≡ false) → list_any (is_entry_for word tag) entries ≡ false
    go (inl t) =
        let (entry, c, p) = any-element (is_entry_for word tag) entries t in
        let never = none c.0 c.1 in
        let here : is_entry_for word tag (entry_at entries c.0) ≡ true = ap (is_entry_for word tag) (get_or_default entries c.0 no_entry entry c.1 ∙ c.2) ∙ p in
        cc (never, here)
    go (inr f) = f

-- one more read of a pair without an entry
pub with_read-new : (entries : List Entry) (word : ℕ) (tag : Tag) (n : ℕ) → ((k : ℕ) → k < length entries → is_entry_for word tag (entry_at entries k) ≡ false) →
    entries ++ record { word = word; source = tag; first = n; last = n } ∷ [] ≡ with_read word tag n entries
with_read-new entries word tag n none =
    ap (λ (es : List Entry). es ++ record { word = word; source = tag; first = n; last = n } ∷ []) (sym same) ∙
    ap (λ (b : Bool). map (touched word tag n) entries ++ cond b [] (record { word = word; source = tag; first = n; last = n } ∷ [])) (sym (any_none entries word tag none))
  where
    each : (k : ℕ) (d : Entry) → k < length (map (touched word tag n) entries) → get_or (map (touched word tag n) entries) k d ≡ get_or entries k d
    each k d l =
        let within : k < length entries = omega (arith, length-map entries (touched word tag n)) in
        get_or-map (touched word tag n) entries k d d within ∙ ap (touched word tag n) (get_or_default entries k d no_entry within) ∙
        touched-other word tag n (entry_at entries k) (none k within) ∙ get_or_default entries k no_entry d within

    same : map (touched word tag n) entries ≡ entries
    same = same_lists (map (touched word tag n) entries) entries (length-map entries (touched word tag n)) each

-- no pair has two entries, also after an entry is replaced by one of its pair
pub once-set : (entries : List Entry) (place n : ℕ) → AreOnce entries → place < length entries → AreOnce (set entries place (record (entry_at entries place) { last = n }))
once-set entries place n h l = record {
  once = λ i j b m. subst (λ (x : Bool). x ≡ false) (sym (as_before i j)) (h.once i j b (omega (arith, m, length-set entries place new)));
}
  where
    new : Entry
    new = record (entry_at entries place) { last = n }

    word : (k : ℕ) → (k ≡ place) ⊎ (k ≢ place) → (entry_at (set entries place new) k).word ≡ (entry_at entries k).word
    word k (inl e) =
        let P : ℕ → Type 0 = λ j. (entry_at (set entries place new) j).word ≡ (entry_at entries j).word in
        subst P (sym e) (ap (λ (x : Entry). x.word) (get_or-set_same entries place new no_entry l))
    word k (inr ne) = ap (λ (x : Entry). x.word) (get_or-set_other entries place k new no_entry ne)

    source : (k : ℕ) → (k ≡ place) ⊎ (k ≢ place) → (entry_at (set entries place new) k).source ≡ (entry_at entries k).source
    source k (inl e) =
        let P : ℕ → Type 0 = λ j. (entry_at (set entries place new) j).source ≡ (entry_at entries j).source in
        subst P (sym e) (ap (λ (x : Entry). x.source) (get_or-set_same entries place new no_entry l))
    source k (inr ne) = ap (λ (x : Entry). x.source) (get_or-set_other entries place k new no_entry ne)

    as_before : (i j : ℕ) → is_entry_for (entry_at (set entries place new) i).word (entry_at (set entries place new) i).source (entry_at (set entries place new) j) ≡
        is_entry_for (entry_at entries i).word (entry_at entries i).source (entry_at entries j)
    as_before i j =
        let wi = word i (cases_eq i place) in
        let wj = word j (cases_eq j place) in
        let si = source i (cases_eq i place) in
        let sj = source j (cases_eq j place) in
        cc

-- and after one of another pair came
pub once-push : (entries : List Entry) (entry : Entry) → AreOnce entries → ((k : ℕ) → k < length entries → is_entry_for entry.word entry.source (entry_at entries k) ≡ false) →
    AreOnce (entries ++ entry ∷ [])
once-push entries entry h none = record {
  once = λ i j b m. go i j b (cases_lt j (length entries)) (let n = length_push entries entry in omega (arith, m, n));
}
  where
    left : (k : ℕ) → k < length entries → entry_at (entries ++ entry ∷ []) k ≡ entry_at entries k
    left k l = get_or_append_left entries (entry ∷ []) no_entry k l

    new : (i : ℕ) → i < length entries → is_entry_for (entry_at entries i).word (entry_at entries i).source entry ≡ false
    new i l = at (cases_Bool (is_entry_for (entry_at entries i).word (entry_at entries i).source entry))
      where
        at : (is_entry_for (entry_at entries i).word (entry_at entries i).source entry ≡ true) ⊎ (is_entry_for (entry_at entries i).word (entry_at entries i).source entry ≡ false) →
            is_entry_for (entry_at entries i).word (entry_at entries i).source entry ≡ false
        at (inl t) =
            let twice = entry_for-from entry.word entry.source (entry_at entries i) (sym (entry_for-word (entry_at entries i).word (entry_at entries i).source entry t))
            (sym (entry_for-source (entry_at entries i).word (entry_at entries i).source entry t)) in
            let never = none i l in cc (twice, never)
        at (inr f) = f

    pair : Entry → Entry → Bool
    pair a b = is_entry_for a.word a.source b

    go : (i j : ℕ) → i < j → (j < length entries) ⊎ (length entries ≤ j) → j < length entries + 1 →
        is_entry_for (entry_at (entries ++ entry ∷ []) i).word (entry_at (entries ++ entry ∷ []) i).source (entry_at (entries ++ entry ∷ []) j) ≡ false
    go i j b (inl l) m =
        ap (λ (e : Entry). is_entry_for e.word e.source (entry_at (entries ++ entry ∷ []) j)) (left i (omega (arith, b, l))) ∙
        ap (is_entry_for (entry_at entries i).word (entry_at entries i).source) (left j l) ∙ h.once i j b l
    go i j b (inr l) m =
        ap (λ (e : Entry). is_entry_for e.word e.source (entry_at (entries ++ entry ∷ []) j)) (left i (omega (arith, b, m))) ∙
        ap (is_entry_for (entry_at entries i).word (entry_at entries i).source) (get_or_push entries entry no_entry j (omega (arith, l, m))) ∙ new i (omega (arith, b, m))
