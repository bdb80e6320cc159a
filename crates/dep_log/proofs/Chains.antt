-- Entries in buckets: one more, one that ends later, and the way along a bucket.
use Rattle.std.proofs.Common.{◌≡◌, ℕ, ◌+◌, ◌-◌, ◌*◌, ◌/◌, ◌%◌, ◌^◌, ◌<◌, ◌≤◌, true, false, eqb, List, [], ◌∷◌, ◌++◌, length, set, replicate, refl, sym, ◌∙◌, ap, subst, arith, inl, inr, ◌⊎◌}
use Rattle.std.specs.Prelude.{◌≢◌, slice_index}
use Rattle.std.proofs.lemmas.Bool.{cases_eq, cases_lt, cases_Bool, eqb-true, eq-eqb, and_parts, and_from}
use Rattle.std.proofs.lemmas.List.{length_push, length-set, get_or_append_left, get_or_push, get_or-replicate, length-replicate, get_or-set_same, get_or-set_other}
use Rattle.std.proofs.lemmas.Nat.{and_le_r}
use Rattle.light_base.specs.Tags.{bits_of}
use Rattle.replay_model.specs.Steps.{Tag, same_tag}
use Rattle.replay_model.specs.MoreReads.{is_entry_for}
use Rattle.replay_model.proofs.Tags.{same_tag-true, same_tag-same}
use Rattle.dep_log.specs.AccessLogs.{Entry}
use Rattle.dep_log.specs.Buckets.{bucket_of, no_entry, entry_at, bucket_at, IsNewest, AreBuckets}

-- the mask keeps a bucket below their number
pub bucket_of-below : (count word : ℕ) (tag : Tag) → 0 < count → bucket_of count word tag < count
unfolding bucket_of
bucket_of-below count word tag c =
    let within = and_le_r ((bits_of tag * 2654435769 % 2 ^ 32) * count / 2 ^ 32 + word) (count - 1) in
    omega (arith, within, c)

-- an entry of this word and tag has them
pub entry_for-word : (word : ℕ) (tag : Tag) (entry : Entry) → is_entry_for word tag entry ≡ true → word ≡ entry.word
entry_for-word word tag entry h = eqb-true word entry.word (and_parts (eqb word entry.word) (same_tag tag entry.source) h).0

pub entry_for-source : (word : ℕ) (tag : Tag) (entry : Entry) → is_entry_for word tag entry ≡ true → tag ≡ entry.source
entry_for-source word tag entry h = same_tag-true tag entry.source (and_parts (eqb word entry.word) (same_tag tag entry.source) h).1

pub entry_for-from : (word : ℕ) (tag : Tag) (entry : Entry) → word ≡ entry.word → tag ≡ entry.source → is_entry_for word tag entry ≡ true
entry_for-from word tag entry p q =
    and_from (eqb word entry.word) (same_tag tag entry.source) (eq-eqb word entry.word p) (subst (λ (t : Tag). same_tag tag t ≡ true) q (same_tag-same tag))

-- and so their bucket
pub entry_for-bucket : (count word : ℕ) (tag : Tag) (entry : Entry) → is_entry_for word tag entry ≡ true → bucket_of count entry.word entry.source ≡ bucket_of count word tag
entry_for-bucket count word tag entry h =
    ap (λ (w : ℕ). bucket_of count w entry.source) (sym (entry_for-word word tag entry h)) ∙ ap (λ (t : Tag). bucket_of count word t) (sym (entry_for-source word tag entry h))

-- the same pairs at the same places
pub newest-same : (count : ℕ) (entries entries' : List Entry) (below bucket at : ℕ) → ((k : ℕ) → k < below → bucket_at count entries' k ≡ bucket_at count entries k) →
    IsNewest count entries below bucket at → IsNewest count entries' below bucket at
newest-same count entries entries' below bucket at same h = record {
  within = h.within;
  here = λ k e. (let w = h.within in same k (omega (arith, w, e)) ∙ h.here k e);
  none = λ k a b e. h.none k a b (sym (same k b) ∙ e);
}

module _ (count : ℕ) (entries : List Entry) (entry : Entry) where
  bucket-left : (k : ℕ) → k < length entries → bucket_at count (entries ++ entry ∷ []) k ≡ bucket_at count entries k
  bucket-left k l = ap (λ (e : Entry). bucket_of count e.word e.source) (get_or_append_left entries (entry ∷ []) no_entry k l)

  bucket-last : (k : ℕ) → length entries ≡ k → bucket_at count (entries ++ entry ∷ []) k ≡ bucket_of count entry.word entry.source
  bucket-last k l = ap (λ (e : Entry). bucket_of count e.word e.source) (get_or_push entries entry no_entry k l)

-- one entry more
pub buckets-push : (entries : List Entry) (heads older : List ℕ) (entry : Entry) (bucket at last : ℕ) → AreBuckets entries heads older →
    bucket ≡ bucket_of (length heads) entry.word entry.source → bucket < length heads → at ≡ slice_index heads bucket → last ≡ length entries + 1 →
    AreBuckets (entries ++ entry ∷ []) (set heads bucket last) (older ++ at ∷ [])
buckets-push entries heads older entry bucket at last h is l e f = record {
  some = subst (λ (n : ℕ). 0 < n) (sym same) h.some;
  few = subst (λ (n : ℕ). n < 2 ^ 16) (sym same) h.few;
  counted = (let a = length_push older at in let b = length_push entries entry in let s = h.counted in omega (arith, a, b, s));
  newest = λ b n. subst (λ (c : ℕ). IsNewest c longer (length longer) b (slice_index (set heads bucket last) b)) (sym same)
      (subst (λ (k : ℕ). IsNewest (length heads) longer k b (slice_index (set heads bucket last) b)) (sym (length_push entries entry)) (newest b (omega (arith, n, same)) (cases_eq b bucket)));
  chained = λ k n. subst (λ (c : ℕ). IsNewest c longer k (bucket_at c longer k) (slice_index (older ++ at ∷ []) k)) (sym same)
      (chained k (let b = length_push entries entry in omega (arith, n, b)) (cases_lt k (length entries)));
}
  where
    longer : List Entry
    longer = entries ++ entry ∷ []

    same : length (set heads bucket last) ≡ length heads
    same = length-set heads bucket last

    newest : (b : ℕ) → b < length heads → (b ≡ bucket) ⊎ (b ≢ bucket) → IsNewest (length heads) longer (length entries + 1) b (slice_index (set heads bucket last) b)
    newest b n (inl p) =
        let a = get_or-set_same heads bucket last 0 l in
        let q : slice_index (set heads bucket last) b ≡ length entries + 1 = ap (λ (k : ℕ). slice_index (set heads bucket last) k) p ∙ a ∙ f in
        subst (λ (k : ℕ). IsNewest (length heads) longer (length entries + 1) b k) (sym q)
        (record { within = omega arith; here = λ k s. bucket-last (length heads) entries entry k (omega (arith, s)) ∙ sym is ∙ sym p; none = λ k u d z. absurd (omega (arith, u, d)) })
    newest b n (inr p) =
        let old = h.newest b n in
        subst (λ (k : ℕ). IsNewest (length heads) longer (length entries + 1) b k) (sym (get_or-set_other heads bucket b last 0 p))
        (record {
          within = (let w = old.within in omega (arith, w));
          here = λ k s. (let w = old.within in bucket-left (length heads) entries entry k (omega (arith, s, w)) ∙ old.here k s);
          none = λ k u d z. go k u d z (cases_lt k (length entries));
        })
      where
        go : (k : ℕ) → slice_index heads b ≤ k → k < length entries + 1 → bucket_at (length heads) longer k ≡ b → (k < length entries) ⊎ (length entries ≤ k) → ⊥
        go k u d z (inl s) = (h.newest b n).none k u s (sym (bucket-left (length heads) entries entry k s) ∙ z)
        go k u d z (inr s) = p (sym z ∙ bucket-last (length heads) entries entry k (omega (arith, d, s)) ∙ sym is)

    chained : (k : ℕ) → k < length entries + 1 → (k < length entries) ⊎ (length entries ≤ k) →
        IsNewest (length heads) longer k (bucket_at (length heads) longer k) (slice_index (older ++ at ∷ []) k)
    chained k n (inl s) =
        let a = get_or_append_left older (at ∷ []) 0 k (let z = h.counted in omega (arith, z, s)) in
        subst (λ (x : ℕ). IsNewest (length heads) longer k (bucket_at (length heads) longer k) x) (sym a)
        (subst (λ (b : ℕ). IsNewest (length heads) longer k b (slice_index older k)) (sym (bucket-left (length heads) entries entry k s))
        (newest-same (length heads) entries longer k (bucket_at (length heads) entries k) (slice_index older k)
        (λ j m. bucket-left (length heads) entries entry j (omega (arith, m, s))) (h.chained k s)))
    chained k n (inr s) =
        let q : length entries ≡ k = omega (arith, n, s) in
        let a = get_or_push older at 0 k (h.counted ∙ q) in
        subst (λ (x : ℕ). IsNewest (length heads) longer k (bucket_at (length heads) longer k) x) (sym (a ∙ e))
        (subst (λ (b : ℕ). IsNewest (length heads) longer k b (slice_index heads bucket)) (is ∙ sym (bucket-last (length heads) entries entry k q))
        (newest-same (length heads) entries longer k bucket (slice_index heads bucket) (λ j m. bucket-left (length heads) entries entry j (omega (arith, m, q)))
        (subst (λ (n : ℕ). IsNewest (length heads) entries n bucket (slice_index heads bucket)) q (h.newest bucket l))))

-- an entry replaced by one of the same pair
pub buckets-set : (entries : List Entry) (heads older : List ℕ) (place : ℕ) (new : Entry) → AreBuckets entries heads older → place < length entries →
    new.word ≡ (entry_at entries place).word → new.source ≡ (entry_at entries place).source → AreBuckets (set entries place new) heads older
buckets-set entries heads older place new h l w s = record {
  some = h.some;
  few = h.few;
  counted = h.counted ∙ sym same;
  newest = λ b n. subst (λ (k : ℕ). IsNewest (length heads) (set entries place new) k b (slice_index heads b)) (sym same)
      (newest-same (length heads) entries (set entries place new) (length entries) b (slice_index heads b) (λ k m. as_before k) (h.newest b n));
  chained = λ k n. subst (λ (b : ℕ). IsNewest (length heads) (set entries place new) k b (slice_index older k)) (sym (as_before k))
      (newest-same (length heads) entries (set entries place new) k (bucket_at (length heads) entries k) (slice_index older k) (λ j m. as_before j) (h.chained k (omega (arith, n, same))));
}
  where
    same : length (set entries place new) ≡ length entries
    same = length-set entries place new

    as_before : (k : ℕ) → bucket_at (length heads) (set entries place new) k ≡ bucket_at (length heads) entries k
    as_before k = go (cases_eq k place)
      where
        go : (k ≡ place) ⊎ (k ≢ place) → bucket_at (length heads) (set entries place new) k ≡ bucket_at (length heads) entries k
        go (inl e) =
            let P : ℕ → Type 0 = λ j. bucket_at (length heads) (set entries place new) j ≡ bucket_at (length heads) entries j in
            let b = λ (e : Entry). bucket_of (length heads) e.word e.source in
            subst P (sym e)
            (ap b (get_or-set_same entries place new no_entry l) ∙ ap (λ (x : ℕ). bucket_of (length heads) x new.source) w ∙ ap (λ (t : Tag). bucket_of (length heads) (entry_at entries place).word t) s)
        go (inr n) = ap (λ (e : Entry). bucket_of (length heads) e.word e.source) (get_or-set_other entries place k new no_entry n)

-- no entry in any bucket
pub buckets-none : (heads : List ℕ) (count : ℕ) → heads ≡ replicate count 0 → 0 < count → count < 2 ^ 16 → AreBuckets [] heads []
buckets-none heads count e some few = record {
  some = (let n = ap length e ∙ length-replicate count 0 in omega (arith, n, some));
  few = (let n = ap length e ∙ length-replicate count 0 in omega (arith, n, few));
  counted = refl;
  newest = λ b l. subst (λ (x : ℕ). IsNewest (length heads) [] 0 b x)
      (sym (ap (λ (z : List ℕ). slice_index z b) e ∙ get_or-replicate count b 0 0 (let n = ap length e ∙ length-replicate count 0 in omega (arith, n, l))))
      (record { within = omega arith; here = λ k s. absurd (omega (arith, s)); none = λ k a b z. absurd (omega (arith, b)) });
  chained = λ k n. absurd (omega (arith, n));
}

-- what is passed on the way along the bucket of a word and a tag: so far none of their entries is found, and where the way goes on, it goes through the bucket
pub record IsPassed (count : ℕ) (entries : List Entry) (word : ℕ) (tag : Tag) (at : ℕ) : Type 0 where
  pub within : at ≤ length entries
  pub here : (k : ℕ) → at ≡ k + 1 → bucket_at count entries k ≡ bucket_of count word tag
  pub none : (k : ℕ) → at ≤ k → k < length entries → is_entry_for word tag (entry_at entries k) ≡ false

-- no entry of other buckets is that of the pair
other_bucket : (count : ℕ) (entries : List Entry) (word : ℕ) (tag : Tag) (k : ℕ) → bucket_at count entries k ≢ bucket_of count word tag → is_entry_for word tag (entry_at entries k) ≡ false
other_bucket count entries word tag k ne = go (cases_Bool (is_entry_for word tag (entry_at entries k)))
  where
    go : (is_entry_for word tag (entry_at entries k) ≡ true) ⊎ (is_entry_for word tag (entry_at entries k) ≡ false) → is_entry_for word tag (entry_at entries k) ≡ false
    go (inl t) = absurd (ne (entry_for-bucket count word tag (entry_at entries k) t))
    go (inr f) = f

-- the way begins at the newest entry of the bucket
pub passed-start : (entries : List Entry) (heads older : List ℕ) (word : ℕ) (tag : Tag) (bucket at : ℕ) → AreBuckets entries heads older →
    bucket ≡ bucket_of (length heads) word tag → at ≡ slice_index heads bucket → IsPassed (length heads) entries word tag at
passed-start entries heads older word tag bucket at h is e =
    let newest = h.newest (bucket_of (length heads) word tag) (bucket_of-below (length heads) word tag h.some) in
    let from : at ≡ slice_index heads (bucket_of (length heads) word tag) = e ∙ ap (slice_index heads) is in
    subst (IsPassed (length heads) entries word tag) (sym from)
    (record { within = newest.within; here = newest.here; none = λ k a l. other_bucket (length heads) entries word tag k (newest.none k a l) })

-- and goes on to the next older one, where the entry here is not that of the pair
pub passed-more : (entries : List Entry) (heads older : List ℕ) (word : ℕ) (tag : Tag) (at place next : ℕ) → AreBuckets entries heads older →
    IsPassed (length heads) entries word tag at → at ≡ place + 1 → is_entry_for word tag (entry_at entries place) ≡ false → next ≡ slice_index older place →
    IsPassed (length heads) entries word tag next
passed-more entries heads older word tag at place next h passed is not e =
    subst (IsPassed (length heads) entries word tag) (sym e)
    (record {
      within = (let w = older_one.within in omega (arith, w, there));
      here = λ k s. older_one.here k s ∙ passed.here place is;
      none = λ k a l. go k a l (cases_lt k place) (cases_eq k place);
    })
  where
    there : place < length entries
    there = let w = passed.within in omega (arith, w, is)

    older_one : IsNewest (length heads) entries place (bucket_at (length heads) entries place) (slice_index older place)
    older_one = h.chained place there

    go : (k : ℕ) → slice_index older place ≤ k → k < length entries → (k < place) ⊎ (place ≤ k) → (k ≡ place) ⊎ (k ≢ place) → is_entry_for word tag (entry_at entries k) ≡ false
    go k a l (inl b) q = other_bucket (length heads) entries word tag k (λ z. older_one.none k a b (z ∙ sym (passed.here place is)))
    go k a l (inr b) (inl q) = subst (λ (j : ℕ). is_entry_for word tag (entry_at entries j) ≡ false) (sym q) not
    go k a l (inr b) (inr q) = passed.none k (omega (arith, is, b, q)) l
