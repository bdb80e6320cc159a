-- Lists of what is kept, and where they first differ.
use Rattle.std.proofs.Common.{◌≡◌, ℕ, zero, suc, false, ◌+◌, ◌<◌, ◌≤◌, List, [], ◌∷◌, ◌++◌, length, refl, sym, ◌∙◌, ap, subst, arith}
use Rattle.std.specs.Prelude.{◌≢◌, None, slice_get, slice_index_or, min}
use Rattle.std.proofs.lemmas.List.{append_assoc, get_or-map, length-map, get_or_default, ext_get_or}
use Rattle.replay_model.specs.declared.Entry.{Entry}
use Rattle.replay_model.specs.Steps.{Tag, Cell, same_tag}
use Rattle.replay_model.specs.RunLogs.{last_tags}
use Rattle.replay_model.proofs.Tags.{same_tag-same}
use Rattle.replayer.specs.declared.difference.Kept.{Kept}
use Rattle.replayer.specs.declared.difference.Kept.TheVariants as kept
use Rattle.replayer.specs.declared.difference.Difference.{Difference}
use Rattle.replayer.specs.Differences.{Part, Item, DifferFirst, tail_of, entry_items, thread_items, tag_items, part_items, kept_or, kept_at}

-- the same in front of both
pub differ-behind : (us xs ys : List Item) (d : Difference) → DifferFirst xs ys d → DifferFirst (us ++ xs) (us ++ ys) d
differ-behind us xs ys d h = record {
  before = us ++ h.before;
  rest_logged = h.rest_logged;
  rest_found = h.rest_found;
  logged_is = ap (λ (l : List Item). us ++ l) h.logged_is ∙ sym (append_assoc us h.before _);
  found_is = ap (λ (l : List Item). us ++ l) h.found_is ∙ sym (append_assoc us h.before _);
  unequal = h.unequal;
}

-- anything behind both
pub differ-before : (xs ys vs ws : List Item) (d : Difference) → DifferFirst xs ys d → DifferFirst (xs ++ vs) (ys ++ ws) d
differ-before xs ys vs ws d h = record {
  before = h.before;
  rest_logged = h.rest_logged ++ vs;
  rest_found = h.rest_found ++ ws;
  logged_is = ap (λ (l : List Item). l ++ vs) h.logged_is ∙ append_assoc h.before _ vs;
  found_is = ap (λ (l : List Item). l ++ ws) h.found_is ∙ append_assoc h.before _ ws;
  unequal = h.unequal;
}

-- ---- a thread

-- the places after the first one
rest-of : ℕ → ℕ → List Entry → Kept → List Item
rest-of t k [] tail = []
rest-of t k (e ∷ entries) tail = entry_items t (k + 1) entries tail

first-item : (t n : ℕ) (entries : List Entry) (tail kept : Kept) → kept ≡ kept_or tail (slice_get entries 0) → entry_items t n entries tail ≡ record { thread = t; entry = n; kept = kept } ∷ rest-of t n entries tail
unfolding rest-of
first-item t n [] tail kept e = ap (λ (x : Kept). record { thread = t; entry = n; kept = x } ∷ []) (sym e)
first-item t n (x ∷ entries) tail kept e = ap (λ (y : Kept). record { thread = t; entry = n; kept = y } ∷ entry_items t (n + 1) entries tail) (sym e)

-- the same first place
in-front : (item : Item) (xs ys : List Item) (d : Difference) → DifferFirst xs ys d → DifferFirst (item ∷ xs) (item ∷ ys) d
in-front item xs ys d h = record {
  before = item ∷ h.before;
  rest_logged = h.rest_logged;
  rest_found = h.rest_found;
  logged_is = ap (λ (l : List Item). item ∷ l) h.logged_is;
  found_is = ap (λ (l : List Item). item ∷ l) h.found_is;
  unequal = h.unequal;
}

-- the entries differ first at place k
pub entries-differ : (t n k : ℕ) (xs ys : List Entry) (a b u v : Kept) → k ≤ length xs → k ≤ length ys → ((j : ℕ) → j < k → kept_or a (slice_get xs j) ≡ kept_or b (slice_get ys j)) →
    u ≡ kept_or a (slice_get xs k) → v ≡ kept_or b (slice_get ys k) → u ≢ v →
    DifferFirst (entry_items t n xs a) (entry_items t n ys b) (record { thread = t; entry = n + k; logged = u; found = v })
entries-differ t n zero xs ys a b u v lx ly same uk vk ne =
    let z : n ≡ n + 0 = omega arith in
    let P : ℕ → Type 0 = λ m. DifferFirst (entry_items t n xs a) (entry_items t n ys b) (record { thread = t; entry = m; logged = u; found = v }) in
    subst P z (record { before = []; rest_logged = rest-of t n xs a; rest_found = rest-of t n ys b; logged_is = first-item t n xs a u uk; found_is = first-item t n ys b v vk; unequal = ne })
entries-differ t n (suc k) [] ys a b u v lx ly same uk vk ne = absurd (omega arith)
entries-differ t n (suc k) (x ∷ xs) [] a b u v lx ly same uk vk ne = absurd (omega arith)
entries-differ t n (suc k) (x ∷ xs) (y ∷ ys) a b u v lx ly same uk vk ne =
    let z : (n + 1) + k ≡ n + suc k = omega arith in
    let front : kept.Entry x ≡ kept.Entry y = same 0 (omega arith) in
    let rest = entries-differ t (n + 1) k xs ys a b u v (omega arith) (omega arith) (λ j l. same (suc j) (omega arith)) uk vk ne in
    let P : ℕ → Type 0 = λ m. DifferFirst (entry_items t n (x ∷ xs) a) (entry_items t n (y ∷ ys) b) (record { thread = t; entry = m; logged = u; found = v }) in
    let Q : Kept → Type 0 = λ e. DifferFirst (entry_items t n (x ∷ xs) a) (record { thread = t; entry = n; kept = e } ∷ entry_items t (n + 1) ys b) (record { thread = t; entry = (n + 1) + k; logged = u; found = v }) in
    subst P z (subst Q front (in-front (record { thread = t; entry = n; kept = kept.Entry x }) _ _ _ rest))

-- a tail is no entry
not-entry : (part : Part) (e : Entry) → tail_of part ≡ kept.Entry e → ⊥
not-entry part e h = cc

-- no entry differs
entries-same : (xs ys : List Entry) (a b : Part) → ((j : ℕ) → j ≤ length xs → j ≤ length ys → kept_or (tail_of a) (slice_get xs j) ≡ kept_or (tail_of b) (slice_get ys j)) → (xs ≡ ys) × (tail_of a ≡ tail_of b)
entries-same [] [] a b same = (refl, same 0 (omega arith) (omega arith))
entries-same [] (y ∷ ys) a b same = absurd (not-entry a y (same 0 (omega arith) (omega arith)))
entries-same (x ∷ xs) [] a b same = absurd (not-entry b x (sym (same 0 (omega arith) (omega arith))))
entries-same (x ∷ xs) (y ∷ ys) a b same =
    let rest = entries-same xs ys a b (λ j lx ly. same (suc j) (omega arith) (omega arith)) in
    let front : kept.Entry x ≡ kept.Entry y = same 0 (omega arith) (omega arith) in
    let e : x ≡ y = cc front in
    (ap (λ (z : Entry). z ∷ xs) e ∙ ap (λ (l : List Entry). y ∷ l) rest.0, rest.1)

-- so the parts are the same
pub parts-same : (a b : Part) → ((j : ℕ) → j ≤ length a.entries → j ≤ length b.entries → kept_at a j ≡ kept_at b j) → a ≡ b
parts-same a b same =
    let h = entries-same a.entries b.entries a b same in
    let tails : tail_of a ≡ tail_of b = h.1 in
    let steps : a.steps ≡ b.steps = cc tails in
    let instr : a.instr ≡ b.instr = cc tails in
    let end : a.end ≡ b.end = cc tails in
    let taken : a.taken ≡ b.taken = cc tails in
    λ j. record { entries = h.0 j; steps = steps j; instr = instr j; end = end j; taken = taken j }

-- ---- the last tags

pub tags-differ : (count n k : ℕ) (xs ys : List Tag) (u v d : Tag) → k < length xs → k < length ys → ((j : ℕ) → j < k → slice_index_or xs j d ≡ slice_index_or ys j d) →
    u ≡ slice_index_or xs k d → v ≡ slice_index_or ys k d → u ≢ v →
    DifferFirst (tag_items count n xs) (tag_items count n ys) (record { thread = count; entry = n + k; logged = kept.LastTag u; found = kept.LastTag v })
tags-differ count n k [] ys u v d lx ly same uk vk ne = absurd (omega arith)
tags-differ count n k (x ∷ xs) [] u v d lx ly same uk vk ne = absurd (omega arith)
tags-differ count n zero (x ∷ xs) (y ∷ ys) u v d lx ly same uk vk ne =
    let z : n ≡ n + 0 = omega arith in
    let P : ℕ → Type 0 = λ m. DifferFirst (tag_items count n (x ∷ xs)) (tag_items count n (y ∷ ys)) (record { thread = count; entry = m; logged = kept.LastTag u; found = kept.LastTag v }) in
    subst P z (record {
      before = [];
      rest_logged = tag_items count (n + 1) xs;
      rest_found = tag_items count (n + 1) ys;
      logged_is = ap (λ (w : Tag). record { thread = count; entry = n; kept = kept.LastTag w } ∷ tag_items count (n + 1) xs) (sym uk);
      found_is = ap (λ (w : Tag). record { thread = count; entry = n; kept = kept.LastTag w } ∷ tag_items count (n + 1) ys) (sym vk);
      unequal = λ e. ne (cc e);
    })
tags-differ count n (suc k) (x ∷ xs) (y ∷ ys) u v d lx ly same uk vk ne =
    let z : (n + 1) + k ≡ n + suc k = omega arith in
    let front : x ≡ y = same 0 (omega arith) in
    let rest = tags-differ count (n + 1) k xs ys u v d (omega arith) (omega arith) (λ j l. same (suc j) (omega arith)) uk vk ne in
    let P : ℕ → Type 0 = λ m. DifferFirst (tag_items count n (x ∷ xs)) (tag_items count n (y ∷ ys)) (record { thread = count; entry = m; logged = kept.LastTag u; found = kept.LastTag v }) in
    let Q : Tag → Type 0 = λ w. DifferFirst (tag_items count n (x ∷ xs)) (tag_items count n (w ∷ ys)) (record { thread = count; entry = (n + 1) + k; logged = kept.LastTag u; found = kept.LastTag v }) in
    subst P z (subst Q front (in-front (record { thread = count; entry = n; kept = kept.LastTag x }) _ _ _ rest))

-- ---- the threads

pub thread_items-append : (t : ℕ) (xs ys : List Part) → thread_items t (xs ++ ys) ≡ thread_items t xs ++ thread_items (t + length xs) ys
thread_items-append t [] ys = let z : t ≡ t + 0 = omega arith in ap (λ (n : ℕ). thread_items n ys) z
thread_items-append t (x ∷ xs) ys =
    let z : (t + 1) + length xs ≡ t + suc (length xs) = omega arith in
    ap (λ (l : List Item). part_items t x ++ l) (thread_items-append (t + 1) xs ys ∙ ap (λ (n : ℕ). thread_items (t + 1) xs ++ thread_items n ys) z) ∙ sym (append_assoc (part_items t x) _ _)

-- the threads before are the same, and this one differs
pub threads-differ : (t : ℕ) (front xs ys : List Part) (a b : Part) (d : Difference) → length front ≡ t → DifferFirst (part_items t a) (part_items t b) d →
    DifferFirst (thread_items 0 (front ++ a ∷ xs)) (thread_items 0 (front ++ b ∷ ys)) d
threads-differ t front xs ys a b d n h =
    let z : t ≡ 0 + length front = omega (arith, n) in
    let P : List Item → Type 0 = λ l. DifferFirst l (thread_items 0 (front ++ b ∷ ys)) d in
    let Q : List Item → Type 0 = λ l. DifferFirst (thread_items 0 front ++ thread_items (0 + length front) (a ∷ xs)) l d in
    let R : ℕ → Type 0 = λ m. DifferFirst (thread_items 0 front ++ thread_items m (a ∷ xs)) (thread_items 0 front ++ thread_items m (b ∷ ys)) d in
    subst P (sym (thread_items-append 0 front (a ∷ xs))) (subst Q (sym (thread_items-append 0 front (b ∷ ys))) (subst R z (differ-behind (thread_items 0 front) _ _ d (differ-before (part_items t a) (part_items t b) _ _ d h))))

-- ---- what the loops find

-- the place of a thread at which a loop stops
pub parts-differ-at : (t k common : ℕ) (a b : Part) (u v : Kept) → common ≡ min (length a.entries) (length b.entries) → k < common + 1 → ((j : ℕ) → j < k → kept_at a j ≡ kept_at b j) →
    u ≡ kept_at a k → v ≡ kept_at b k → u ≢ v → DifferFirst (part_items t a) (part_items t b) (record { thread = t; entry = k; logged = u; found = v })
parts-differ-at t k common a b u v m l same uk vk ne =
    let z : 0 + k ≡ k = omega arith in
    let lx : k ≤ length a.entries = omega arith in
    let ly : k ≤ length b.entries = omega arith in
    let P : ℕ → Type 0 = λ n. DifferFirst (part_items t a) (part_items t b) (record { thread = t; entry = n; logged = u; found = v }) in
    subst P z (entries-differ t 0 k a.entries b.entries (tail_of a) (tail_of b) u v lx ly same uk vk ne)

-- no place stops it
pub parts-same-all : (common k : ℕ) (a b : Part) → common ≡ min (length a.entries) (length b.entries) → common + 1 ≤ k → ((j : ℕ) → j < k → kept_at a j ≡ kept_at b j) → a ≡ b
parts-same-all common k a b m l same = parts-same a b (λ j lx ly. same j (omega arith))

tag_in : (cells : List Cell) (k : ℕ) (d : Cell) → k < length cells → slice_index_or (last_tags cells) k None ≡ (slice_index_or cells k d).tag
tag_in cells k d l = get_or-map (λ (cell : Cell). cell.tag) cells k d None l

-- the word at which a loop stops
pub tags-differ-at : (threads k : ℕ) (logged : List Tag) (cells : List Cell) (there : Tag) (here : Cell) → length logged ≡ length cells → k < length cells → there ≡ slice_index_or logged k there →
    here ≡ slice_index_or cells k here → false ≡ same_tag there here.tag → ((j : ℕ) → j < k → slice_index_or logged j None ≡ slice_index_or (last_tags cells) j None) →
    DifferFirst (tag_items threads 0 logged) (tag_items threads 0 (last_tags cells)) (record { thread = threads; entry = k; logged = kept.LastTag there; found = kept.LastTag here.tag })
tags-differ-at threads k logged cells there here n l t h other same =
    let z : 0 + k ≡ k = omega arith in
    let m : length (last_tags cells) ≡ length cells = length-map cells (λ (cell : Cell). cell.tag) in
    let found : here.tag ≡ slice_index_or (last_tags cells) k None = ap (λ (cell : Cell). cell.tag) h ∙ sym (tag_in cells k here l) in
    let named : there ≡ slice_index_or logged k None = t ∙ get_or_default logged k there None (omega arith) in
    let apart : there ≢ here.tag = λ e. (let s = same_tag-same there in let q = ap (same_tag there) e in cc (other, s, q)) in
    let P : ℕ → Type 0 = λ w. DifferFirst (tag_items threads 0 logged) (tag_items threads 0 (last_tags cells)) (record { thread = threads; entry = w; logged = kept.LastTag there; found = kept.LastTag here.tag }) in
    subst P z (tags-differ threads 0 k logged (last_tags cells) there here.tag None (omega arith) (omega arith) same named found apart)

-- no word stops it
pub tags-same-all : (k : ℕ) (logged : List Tag) (cells : List Cell) → length logged ≡ length cells → length cells ≤ k → ((j : ℕ) → j < k → slice_index_or logged j None ≡ slice_index_or (last_tags cells) j None) →
    logged ≡ last_tags cells
tags-same-all k logged cells n l same = ext_get_or None logged (last_tags cells) (n ∙ sym (length-map cells (λ (cell : Cell). cell.tag))) (λ j h. same j (omega arith))
