-- The pairs from one place on, and from a later one.
use Rattle.std.proofs.Common.{◌≡◌, ℕ, zero, suc, ◌+◌, ◌-◌, ◌<◌, ◌≤◌, Bool, List, [], ◌∷◌, ◌++◌, length, true, get_or, take, drop, append_assoc, add-one, refl, sym, ◌∙◌, ap, subst, arith, inl, inr, ◌⊎◌}
use Rattle.std.specs.Prelude.{Contains, map, filter, nat_lt}
use Rattle.std.proofs.Math.Seq.{drop-cons}
use Rattle.std.proofs.Math.ListN.{drop_of_length-le}
use Rattle.std.proofs.lemmas.Bool.{cases_lt, cond-true, cond-false, lt-ltb, le-ltb}
use Rattle.std.proofs.lemmas.List.{take-append-drop, drop-drop, length-take, map-append, get_or-take, get_or-drop, get_or_default}
use Rattle.std.proofs.lemmas.List.Elements.{All-nil, All-append, All-map, filter-append}
use Rattle.constraints.proofs.Ranked.{All-from}
use Rattle.plain_search.specs.declared.Edge.{Edge}
use Rattle.plain_search.specs.Searches.{Pair}
use Rattle.constraints.proofs.Members.{of_filter}
use Rattle.order_solver.specs.declared.cursor.Cursor.{Cursor}
use Rattle.order_solver.specs.Rivals.{Rivalry, source_at, pair_in, pairs_where, pairs_from}
use Rattle.order_solver.specs.Cursors.{cursor, next_of, next_row_of, pairs_at, IsPlace, IsAt, IsSettled, AreSettled, Passes}

-- the pairs of one source, and those of later sources and words
abbrev pub row : Rivalry → ℕ → ℕ → ℕ → List Pair
row r w i j = map (pair_in r w (source_at r w i)) (filter (r.rival w (source_at r w i)) (drop j (r.sources w)))

abbrev pub below : Rivalry → ℕ → ℕ → List Pair
below r w i = pairs_where (r.rival w) (pair_in r w) (drop i (r.sources w)) ++ pairs_from r (w + 1) (r.words - (w + 1))

pub at-view : (r : Rivalry) (w i j : ℕ) → w < r.words → pairs_at r (cursor w i j) ≡ row r w i j ++ below r w (i + 1)
at-view r w i j l = cond-true (nat_lt w r.words) (row r w i j ++ below r w (i + 1)) [] (lt-ltb w r.words l)

pub at-none : (r : Rivalry) (w i j : ℕ) → r.words ≤ w → pairs_at r (cursor w i j) ≡ []
at-none r w i j l = cond-false (nat_lt w r.words) (row r w i j ++ below r w (i + 1)) [] (le-ltb w r.words l)

filter-yes : (test : ℕ → Bool) (x : ℕ) (xs : List ℕ) → test x ≡ true → filter test (x ∷ xs) ≡ x ∷ filter test xs
filter-yes test x xs e = rw e refl

-- a pair, and those after it
pub at-next : (r : Rivalry) (c : Cursor) → IsAt r c → pairs_at r c ≡ pair_in r c.word (source_at r c.word c.lesser) (source_at r c.word c.greater) ∷ pairs_at r (next_of c)
at-next r c a =
    let P = pair_in r c.word (source_at r c.word c.lesser) in
    let T = r.rival c.word (source_at r c.word c.lesser) in
    let ss = r.sources c.word in
    let d : drop c.greater ss ≡ get_or ss c.greater 0 ∷ drop (c.greater + 1) ss = drop-cons ss c.greater 0 a.greater ∙ ap (λ (n : ℕ). get_or ss c.greater 0 ∷ drop n ss) (sym (add-one c.greater)) in
    at-view r c.word c.lesser c.greater a.word ∙ ap (λ (xs : List ℕ). map P xs ++ below r c.word (c.lesser + 1)) (ap (filter T) d ∙ filter-yes T (get_or ss c.greater 0) (drop (c.greater + 1) ss) a.rival)
    ∙ ap (λ (ps : List Pair). P (source_at r c.word c.greater) ∷ ps) (sym (at-view r c.word c.lesser (c.greater + 1) a.word))

-- past some of a row
pub row-passes : (r : Rivalry) (edges : List Edge) (w i j k : ℕ) → w < r.words → j ≤ k → AreSettled r edges w i j k → Passes edges (pairs_at r (cursor w i j)) (pairs_at r (cursor w i k))
row-passes r edges w i j k l m settled = record {
  passed = map P (filter T between);
  all = at-view r w i j l ∙ ap (λ (xs : List ℕ). map P xs ++ below r w (i + 1)) (ap (filter T) parts ∙ filter-append T between (drop k ss))
      ∙ ap (λ (ps : List Pair). ps ++ below r w (i + 1)) (map-append P (filter T between) (filter T (drop k ss)))
      ∙ append_assoc (map P (filter T between)) (map P (filter T (drop k ss))) (below r w (i + 1)) ∙ ap (λ (ps : List Pair). map P (filter T between) ++ ps) (sym (at-view r w i k l));
  settled = All-map (IsSettled edges) P (filter T between) (All-from (λ s. IsSettled edges (P s)) (filter T between) each);
}
  where
    ss : List ℕ
    ss = r.sources w

    P : ℕ → Pair
    P = pair_in r w (source_at r w i)

    T : ℕ → Bool
    T = r.rival w (source_at r w i)

    between : List ℕ
    between = take (k - j) (drop j ss)

    parts : drop j ss ≡ between ++ drop k ss
    parts = let e : j + (k - j) ≡ k = omega arith in
        sym (take-append-drop (k - j) (drop j ss)) ∙ ap (λ (xs : List ℕ). between ++ xs) (drop-drop (k - j) j ss ∙ ap (λ (n : ℕ). drop n ss) e)

    each : (s : ℕ) → Contains (filter T between) s → IsSettled edges (P s)
    each s c = at s (of_filter T between s c)
      where
        at : (s : ℕ) → Contains between s × (T s ≡ true) → IsSettled edges (P s)
        at s ((n, h, e), t) =
            let b : n < k - j = (let z = length-take (k - j) (drop j ss) in omega (arith, h, z)) in
            let q : source_at r w (j + n) ≡ s = sym (get_or-take (k - j) (drop j ss) n 0 b ∙ get_or-drop j ss n 0) ∙ get_or_default between n 0 s h ∙ e in
            subst (λ (x : ℕ). IsSettled edges (P x)) q (settled (j + n) (omega arith) (omega (arith, b)) (ap T q ∙ t))

-- the first place of a word
pub where-view : (test : ℕ → ℕ → Bool) (pair : ℕ → ℕ → Pair) (xs : List ℕ) → map (pair (get_or xs 0 0)) (filter (test (get_or xs 0 0)) (drop 1 xs)) ++ pairs_where test pair (drop 1 xs) ≡ pairs_where test pair xs
where-view test pair [] = refl
where-view test pair (x ∷ xs) = refl

pub word-starts : (r : Rivalry) (w : ℕ) → w ≤ r.words → pairs_at r (cursor w 0 1) ≡ pairs_from r w (r.words - w)
word-starts r w l = go (cases_lt w r.words)
  where
    go : (w < r.words) ⊎ (r.words ≤ w) → pairs_at r (cursor w 0 1) ≡ pairs_from r w (r.words - w)
    go (inl m) =
        let e : r.words - w ≡ suc (r.words - (w + 1)) = omega arith in
        let rest = pairs_from r (w + 1) (r.words - (w + 1)) in
        at-view r w 0 1 m ∙ sym (append_assoc (row r w 0 1) (pairs_where (r.rival w) (pair_in r w) (drop 1 (r.sources w))) rest)
        ∙ ap (λ (ps : List Pair). ps ++ rest) (where-view (r.rival w) (pair_in r w) (r.sources w)) ∙ sym (ap (pairs_from r w) e)
    go (inr m) = let e : r.words - w ≡ 0 = omega arith in at-none r w 0 1 m ∙ sym (ap (pairs_from r w) e)

-- at a row's end the next row begins
pub row-ends : (r : Rivalry) (w i j : ℕ) → w < r.words → length (r.sources w) ≤ j → pairs_at r (cursor w i j) ≡ pairs_at r (next_row_of r (cursor w i j))
row-ends r w i j l m = ended ∙ go (cases_lt (i + 1) (length ss))
  where
    ss : List ℕ
    ss = r.sources w

    ended : pairs_at r (cursor w i j) ≡ below r w (i + 1)
    ended = at-view r w i j l ∙ ap (λ (xs : List ℕ). map (pair_in r w (source_at r w i)) (filter (r.rival w (source_at r w i)) xs) ++ below r w (i + 1)) (drop_of_length-le ss m)

    go : (i + 1 < length ss) ⊎ (length ss ≤ i + 1) → below r w (i + 1) ≡ pairs_at r (next_row_of r (cursor w i j))
    go (inl h) =
        let d : drop (i + 1) ss ≡ get_or ss (i + 1) 0 ∷ drop (i + 2) ss = (let e : suc (i + 1) ≡ i + 2 = omega arith in drop-cons ss (i + 1) 0 h ∙ ap (λ (n : ℕ). get_or ss (i + 1) 0 ∷ drop n ss) e) in
        let q : (i + 1) + 1 ≡ i + 2 = omega arith in
        ap (λ (xs : List ℕ). pairs_where (r.rival w) (pair_in r w) xs ++ pairs_from r (w + 1) (r.words - (w + 1))) d
        ∙ append_assoc (row r w (i + 1) (i + 2)) (pairs_where (r.rival w) (pair_in r w) (drop (i + 2) ss)) (pairs_from r (w + 1) (r.words - (w + 1)))
        ∙ ap (λ (n : ℕ). row r w (i + 1) (i + 2) ++ below r w n) (sym q)
        ∙ sym (at-view r w (i + 1) (i + 2) l)
        ∙ ap (pairs_at r) (sym (cond-true (nat_lt (i + 1) (length ss)) (cursor w (i + 1) (i + 2)) (cursor (w + 1) 0 1) (lt-ltb (i + 1) (length ss) h)))
    go (inr h) =
        ap (λ (xs : List ℕ). pairs_where (r.rival w) (pair_in r w) xs ++ pairs_from r (w + 1) (r.words - (w + 1))) (drop_of_length-le ss h)
        ∙ sym (word-starts r (w + 1) (omega arith))
        ∙ ap (pairs_at r) (sym (cond-false (nat_lt (i + 1) (length ss)) (cursor w (i + 1) (i + 2)) (cursor (w + 1) 0 1) (le-ltb (i + 1) (length ss) h)))

pub passes-same : (edges : List Edge) (ps qs : List Pair) → ps ≡ qs → Passes edges ps qs
passes-same edges ps qs e = record { passed = []; all = e; settled = All-nil (IsSettled edges) }

pub passes-on : (edges : List Edge) (ps qs rs : List Pair) → Passes edges ps qs → Passes edges qs rs → Passes edges ps rs
passes-on edges ps qs rs one two = record {
  passed = one.passed ++ two.passed;
  all = one.all ∙ ap (λ (xs : List Pair). one.passed ++ xs) two.all ∙ sym (append_assoc one.passed two.passed rs);
  settled = All-append (IsSettled edges) one.passed two.passed one.settled two.settled;
}

-- the rows of so many words, from this one on, each word counted with one more
abbrev pub rows : Rivalry → ℕ → ℕ → ℕ
rows r w zero = 0
rows r w (suc n) = (length (r.sources w) + 1) + rows r (w + 1) n

abbrev pub rows_left : Rivalry → Cursor → ℕ
rows_left r c = rows r c.word (r.words - c.word) - c.lesser

pub rows-fall : (r : Rivalry) (c : Cursor) → c.word < r.words → IsPlace r c → (rows_left r (next_row_of r c) < rows_left r c) × IsPlace r (next_row_of r c)
rows-fall r c l p = go (cases_lt (c.lesser + 1) (length (r.sources c.word)))
  where
    Falls : Cursor → Type 0
    Falls n = (rows_left r n < rows_left r c) × IsPlace r n

    now : rows r c.word (r.words - c.word) ≡ (length (r.sources c.word) + 1) + rows r (c.word + 1) (r.words - (c.word + 1))
    now = let e : r.words - c.word ≡ suc (r.words - (c.word + 1)) = omega arith in ap (rows r c.word) e

    go : (c.lesser + 1 < length (r.sources c.word)) ⊎ (length (r.sources c.word) ≤ c.lesser + 1) → Falls (next_row_of r c)
    go (inl h) = subst Falls (sym (cond-true (nat_lt (c.lesser + 1) (length (r.sources c.word))) (cursor c.word (c.lesser + 1) (c.lesser + 2)) (cursor (c.word + 1) 0 1) (lt-ltb (c.lesser + 1) (length (r.sources c.word)) h)))
        (let e = now in omega (arith, e, h), record { lesser = omega arith; row = omega (arith, h) })
    go (inr h) = subst Falls (sym (cond-false (nat_lt (c.lesser + 1) (length (r.sources c.word))) (cursor c.word (c.lesser + 1) (c.lesser + 2)) (cursor (c.word + 1) 0 1) (le-ltb (c.lesser + 1) (length (r.sources c.word)) h)))
        (let e = now in let q = p.row in omega (arith, e, q), record { lesser = omega arith; row = omega arith })

-- a pair of a row that is not settled, or none
pub found-at : (r : Rivalry) (edges : List Edge) (from c : Cursor) (k : ℕ) → c.word < r.words → IsPlace r c → Passes edges (pairs_at r from) (pairs_at r c) → c.greater ≤ k → k < length (r.sources c.word) →
    AreSettled r edges c.word c.lesser c.greater k → r.rival c.word (source_at r c.word c.lesser) (source_at r c.word k) ≡ true → IsAt r (cursor c.word c.lesser k) × Passes edges (pairs_at r from) (pairs_at r (cursor c.word c.lesser k))
found-at r edges from c k l p before a b settled rival = (
  record { word = l; lesser = (let q = p.lesser in omega (arith, q, a)); greater = b; rival = rival },
  passes-on edges (pairs_at r from) (pairs_at r c) (pairs_at r (cursor c.word c.lesser k)) before (row-passes r edges c.word c.lesser c.greater k l a settled),
)

-- the row is over: either its end is past already, or all of it is settled
pub row-over : (r : Rivalry) (edges : List Edge) (from c : Cursor) → c.word < r.words → IsPlace r c → Passes edges (pairs_at r from) (pairs_at r c) →
    AreSettled r edges c.word c.lesser c.greater (length (r.sources c.word)) → Passes edges (pairs_at r from) (pairs_at r (next_row_of r c))
row-over r edges from c l p before settled = passes-on edges (pairs_at r from) (pairs_at r c) (pairs_at r (next_row_of r c)) before (go (cases_lt c.greater (length (r.sources c.word))))
  where
    go : (c.greater < length (r.sources c.word)) ⊎ (length (r.sources c.word) ≤ c.greater) → Passes edges (pairs_at r c) (pairs_at r (next_row_of r c))
    go (inl h) = passes-on edges (pairs_at r c) (pairs_at r (cursor c.word c.lesser (length (r.sources c.word)))) (pairs_at r (next_row_of r c))
        (row-passes r edges c.word c.lesser c.greater (length (r.sources c.word)) l (omega arith) settled)
        (passes-same edges (pairs_at r (cursor c.word c.lesser (length (r.sources c.word)))) (pairs_at r (next_row_of r c)) (row-ends r c.word c.lesser (length (r.sources c.word)) l (omega arith)))
    go (inr h) = passes-same edges (pairs_at r c) (pairs_at r (next_row_of r c)) (row-ends r c.word c.lesser c.greater l h)
