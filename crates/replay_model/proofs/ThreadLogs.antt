-- The log of one thread: its entries and the reads that they stand for.
use Rattle.std.proofs.Common.{◌≡◌, ℕ, zero, suc, ◌+◌, ◌-◌, ◌<◌, ◌≤◌, Bool, true, false, cond, eqb, List, [], ◌∷◌, ◌++◌, length, refl, sym, ◌∙◌, ap, subst, arith, inl, inr, ◌⊎◌}
use Rattle.std.specs.Prelude.{slice_index_or, Contains, Option, Some, None}
use Rattle.std.proofs.lemmas.List.Elements.{Contains-append_left, Contains-append_right, Contains-append_cases}
use Rattle.std.proofs.lemmas.Bool.{cases_Bool, and_parts, and_from, eqb-true, eq-eqb}
use Rattle.replay_model.specs.Steps.{Tag, Cell, Step, same_tag, word_of}
use Rattle.replay_model.specs.Threads.{no_step}
use Rattle.replay_model.specs.ThreadLogs.{Entry, saw, is_sight, numbers, least, greatest, entry_at, entries_from, thread_log}
use Rattle.replay_model.proofs.Tags.{same_tag-true, same_tag-same}

-- the step at k
abbrev pub nth : List Step → ℕ → Step
nth steps k = slice_index_or steps k no_step

-- a sight is a cell with this tag in this word
pub saw-found : (word : ℕ) (tag : Tag) (at : ℕ) (found : Option Cell) → is_sight word tag at found ≡ true →
    (cell : Cell) × (found ≡ Some cell) × (at ≡ word) × (cell.tag ≡ tag)
saw-found word tag at None h = cc
saw-found word tag at (Some cell) h =
    let p = and_parts (eqb at word) (same_tag cell.tag tag) h in
    (cell, refl, eqb-true at word p.0, same_tag-true cell.tag tag p.1)

-- a step that found a cell saw its tag in its word
pub saw-from : (step : Step) (cell : Cell) → step.found ≡ Some cell → saw (word_of step.want) cell.tag step ≡ true
saw-from step cell q =
    let h : is_sight (word_of step.want) cell.tag (word_of step.want) (Some cell) ≡ true = and_from (eqb (word_of step.want) (word_of step.want)) (same_tag cell.tag cell.tag) (eq-eqb _ _ refl) (same_tag-same cell.tag) in
    ap (is_sight (word_of step.want) cell.tag (word_of step.want)) q ∙ h

-- the least number is that of a step that saw the same, no later than any that did
pub least_at : (word : ℕ) (tag : Tag) (steps : List Step) (n k : ℕ) → k < length steps → saw word tag (nth steps k) ≡ true →
    (j : ℕ) × (j ≤ k) × (least (numbers word tag n steps) ≡ n + j) × (saw word tag (nth steps j) ≡ true)
least_at word tag [] n k l h = absurd (omega (arith, l))
least_at word tag (s ∷ steps) n k l h = go k l h (least_at word tag steps (n + 1)) (cases_Bool (saw word tag s))
  where
    go : (k : ℕ) → k < length (s ∷ steps) → saw word tag (nth (s ∷ steps) k) ≡ true →
        ((k : ℕ) → k < length steps → saw word tag (nth steps k) ≡ true →
        (j : ℕ) × (j ≤ k) × (least (numbers word tag (n + 1) steps) ≡ (n + 1) + j) × (saw word tag (nth steps j) ≡ true)) →
        (saw word tag s ≡ true) ⊎ (saw word tag s ≡ false) →
        (j : ℕ) × (j ≤ k) × (least (cond (saw word tag s) (n ∷ []) [] ++ numbers word tag (n + 1) steps) ≡ n + j) × (saw word tag (nth (s ∷ steps) j) ≡ true)
    go k l h ih (inl t) = (0, omega arith, rw t (omega arith), t)
    go zero l h ih (inr f) = absurd (let no : true ≡ false = sym h ∙ f in cc no)
    go (suc k) l h ih (inr f) =
        let (j, le, e, sj) = ih k (omega arith) h in
        (suc j, omega arith, rw f (omega arith), sj)

-- the greatest number is none less than that of a step that saw the same
pub greatest_over : (word : ℕ) (tag : Tag) (steps : List Step) (n k : ℕ) → k < length steps → saw word tag (nth steps k) ≡ true →
    n + k ≤ greatest (numbers word tag n steps)
greatest_over word tag [] n k l h = absurd (omega (arith, l))
greatest_over word tag (s ∷ steps) n k l h = go k l h (greatest_over word tag steps (n + 1)) (cases_Bool (saw word tag s))
  where
    go : (k : ℕ) → k < length (s ∷ steps) → saw word tag (nth (s ∷ steps) k) ≡ true →
        ((k : ℕ) → k < length steps → saw word tag (nth steps k) ≡ true → (n + 1) + k ≤ greatest (numbers word tag (n + 1) steps)) →
        (saw word tag s ≡ true) ⊎ (saw word tag s ≡ false) →
        n + k ≤ greatest (cond (saw word tag s) (n ∷ []) [] ++ numbers word tag (n + 1) steps)
    go zero l h ih (inl t) = rw t (omega arith)
    go (suc k) l h ih (inl t) = let r = ih k (omega arith) h in rw t (omega arith)
    go zero l h ih (inr f) = absurd (let no : true ≡ false = sym h ∙ f in cc no)
    go (suc k) l h ih (inr f) = let r = ih k (omega arith) h in rw f (omega arith)

-- the greatest number is that of a step that saw the same
pub greatest_at : (word : ℕ) (tag : Tag) (steps : List Step) (n : ℕ) →
    (numbers word tag n steps ≡ []) ⊎ ((j : ℕ) × (j < length steps) × (greatest (numbers word tag n steps) ≡ n + j) × (saw word tag (nth steps j) ≡ true))
greatest_at word tag [] n = inl refl
greatest_at word tag (s ∷ steps) n = go (greatest_at word tag steps (n + 1)) (cases_Bool (saw word tag s))
  where
    go : (numbers word tag (n + 1) steps ≡ []) ⊎ ((j : ℕ) × (j < length steps) × (greatest (numbers word tag (n + 1) steps) ≡ (n + 1) + j) × (saw word tag (nth steps j) ≡ true)) →
        (saw word tag s ≡ true) ⊎ (saw word tag s ≡ false) →
        (cond (saw word tag s) (n ∷ []) [] ++ numbers word tag (n + 1) steps ≡ []) ⊎
        ((j : ℕ) × (j < length (s ∷ steps)) × (greatest (cond (saw word tag s) (n ∷ []) [] ++ numbers word tag (n + 1) steps) ≡ n + j) × (saw word tag (nth (s ∷ steps) j) ≡ true))
    go (inl e) (inl t) = inr (0, omega arith, (rw t (let g : greatest (numbers word tag (n + 1) steps) ≡ 0 = ap greatest e in omega arith)), t)
    go (inr (j, l, e, sj)) (inl t) = inr (suc j, omega arith, rw t (omega arith), sj)
    go (inl e) (inr f) = inl (rw f e)
    go (inr (j, l, e, sj)) (inr f) = inr (suc j, omega arith, rw f (omega arith), sj)

-- the entry of a step that found this cell
abbrev pub entry_for : List Step → ℕ → ℕ → Cell → Entry
entry_for whole n word cell = record { word = word; source = cell.tag; first = n; last = greatest (numbers word cell.tag 1 whole) }

-- the first step that saw a pair has its entry
pub entry_at-has : (whole : List Step) (n word : ℕ) (found : Option Cell) (cell : Cell) → found ≡ Some cell →
    least (numbers word cell.tag 1 whole) ≡ n → Contains (entry_at whole n word found) (entry_for whole n word cell)
entry_at-has whole n word found cell q e =
    let t : eqb (least (numbers word cell.tag 1 whole)) n ≡ true = eq-eqb _ _ e in
    let P : Option Cell → Type 0 = λ f. Contains (entry_at whole n word f) (entry_for whole n word cell) in
    let Q : Bool → Type 0 = λ b. Contains (cond b (entry_for whole n word cell ∷ []) []) (entry_for whole n word cell) in
    subst P (sym q) (subst Q (sym t) (0, omega arith, refl))

-- an entry comes of such a step
pub entry_at-comes : (whole : List Step) (n word : ℕ) (found : Option Cell) (entry : Entry) → Contains (entry_at whole n word found) entry →
    (cell : Cell) × (found ≡ Some cell) × (entry ≡ entry_for whole n word cell) × (least (numbers word cell.tag 1 whole) ≡ n)
entry_at-comes whole n word None entry (k, l, h) = absurd (omega (arith, l))
entry_at-comes whole n word (Some cell) entry c = go (cases_Bool (eqb (least (numbers word cell.tag 1 whole)) n))
  where
    go : (eqb (least (numbers word cell.tag 1 whole)) n ≡ true) ⊎ (eqb (least (numbers word cell.tag 1 whole)) n ≡ false) →
        (c2 : Cell) × (Some cell ≡ Some c2) × (entry ≡ entry_for whole n word c2) × (least (numbers word c2.tag 1 whole) ≡ n)
    go (inl t) =
        let Q : Bool → Type 0 = λ b. Contains (cond b (entry_for whole n word cell ∷ []) []) entry in
        let (k, l, h) = subst Q t c in
        let z : k ≡ 0 = omega arith in
        let R : ℕ → Type 0 = λ x. slice_index_or (entry_for whole n word cell ∷ []) x entry ≡ entry in
        (cell, refl, sym (subst R z h), eqb-true _ _ t)
    go (inr f) =
        let Q : Bool → Type 0 = λ b. Contains (cond b (entry_for whole n word cell ∷ []) []) entry in
        let (k, l, h) = subst Q f c in absurd (omega arith)

-- the same for the rest of the steps
pub entries_from-has : (whole : List Step) (n : ℕ) (rest : List Step) (k : ℕ) (cell : Cell) → k < length rest → (nth rest k).found ≡ Some cell →
    least (numbers (word_of (nth rest k).want) cell.tag 1 whole) ≡ n + k →
    Contains (entries_from whole n rest) (entry_for whole (n + k) (word_of (nth rest k).want) cell)
entries_from-has whole n [] k cell l q e = absurd (omega (arith, l))
entries_from-has whole n (s ∷ rest) zero cell l q e =
    let z : n + 0 ≡ n = omega arith in
    let P : ℕ → Type 0 = λ x. Contains (entries_from whole n (s ∷ rest)) (entry_for whole x (word_of s.want) cell) in
    subst P (sym z) (Contains-append_left (entry_at whole n (word_of s.want) s.found) (entries_from whole (n + 1) rest) _
    (entry_at-has whole n (word_of s.want) s.found cell q (e ∙ z)))
entries_from-has whole n (s ∷ rest) (suc k) cell l q e =
    let z : (n + 1) + k ≡ n + suc k = omega arith in
    let P : ℕ → Type 0 = λ x. Contains (entries_from whole n (s ∷ rest)) (entry_for whole x (word_of (nth rest k).want) cell) in
    subst P z (Contains-append_right (entry_at whole n (word_of s.want) s.found) (entries_from whole (n + 1) rest) _
    (entries_from-has whole (n + 1) rest k cell (omega arith) q (e ∙ sym z)))

-- and the other way round
pub entries_from-comes : (whole : List Step) (n : ℕ) (rest : List Step) (entry : Entry) → Contains (entries_from whole n rest) entry →
    (k : ℕ) × (cell : Cell) × (k < length rest) × ((nth rest k).found ≡ Some cell) × (entry ≡ entry_for whole (n + k) (word_of (nth rest k).want) cell) ×
    (least (numbers (word_of (nth rest k).want) cell.tag 1 whole) ≡ n + k)
entries_from-comes whole n [] entry (k, l, h) = absurd (omega (arith, l))
entries_from-comes whole n (s ∷ rest) entry c =
    go (entries_from-comes whole (n + 1) rest entry) (Contains-append_cases (entry_at whole n (word_of s.want) s.found) (entries_from whole (n + 1) rest) entry c)
  where
    go : (Contains (entries_from whole (n + 1) rest) entry → (k : ℕ) × (cell : Cell) × (k < length rest) × ((nth rest k).found ≡ Some cell) ×
        (entry ≡ entry_for whole ((n + 1) + k) (word_of (nth rest k).want) cell) × (least (numbers (word_of (nth rest k).want) cell.tag 1 whole) ≡ (n + 1) + k)) →
        Contains (entry_at whole n (word_of s.want) s.found) entry ⊎ Contains (entries_from whole (n + 1) rest) entry →
        (k : ℕ) × (cell : Cell) × (k < length (s ∷ rest)) × ((nth (s ∷ rest) k).found ≡ Some cell) ×
        (entry ≡ entry_for whole (n + k) (word_of (nth (s ∷ rest) k).want) cell) × (least (numbers (word_of (nth (s ∷ rest) k).want) cell.tag 1 whole) ≡ n + k)
    go ih (inl c) =
        let (cell, q, e, le) = entry_at-comes whole n (word_of s.want) s.found entry c in
        let z : n ≡ n + 0 = omega arith in
        (0, cell, omega arith, q, e ∙ ap (λ x. entry_for whole x (word_of s.want) cell) z, le ∙ z)
    go ih (inr c) =
        let (k, cell, l, q, e, le) = ih c in
        let z : (n + 1) + k ≡ n + suc k = omega arith in
        (suc k, cell, omega arith, q, e ∙ ap (λ x. entry_for whole x (word_of (nth rest k).want) cell) z, le ∙ z)

-- each read has an entry of its thread's log
pub thread_log-covers : (steps : List Step) (k : ℕ) (cell : Cell) → k < length steps → (nth steps k).found ≡ Some cell →
    (entry : Entry) × Contains (thread_log steps) entry × (entry.word ≡ word_of (nth steps k).want) ×
    (entry.source ≡ cell.tag) × (entry.first ≤ k + 1) × (k + 1 ≤ entry.last)
unfolding thread_log
thread_log-covers steps k cell l q =
    let (j, jk, le, sj) = least_at (word_of (nth steps k).want) cell.tag steps 1 k l (saw-from (nth steps k) cell q) in
    let (c2, q2, w2, t2) = saw-found (word_of (nth steps k).want) cell.tag (word_of (nth steps j).want) (nth steps j).found sj in
    let le2 : least (numbers (word_of (nth steps j).want) c2.tag 1 steps) ≡ 1 + j =
    ap (λ (x : ℕ). least (numbers x c2.tag 1 steps)) w2 ∙ ap (λ (x : Tag). least (numbers (word_of (nth steps k).want) x 1 steps)) t2 ∙ le in
    let gr : greatest (numbers (word_of (nth steps j).want) c2.tag 1 steps) ≡ greatest (numbers (word_of (nth steps k).want) cell.tag 1 steps) =
    ap (λ (x : ℕ). greatest (numbers x c2.tag 1 steps)) w2 ∙ ap (λ (x : Tag). greatest (numbers (word_of (nth steps k).want) x 1 steps)) t2 in
    let over = greatest_over (word_of (nth steps k).want) cell.tag steps 1 k l (saw-from (nth steps k) cell q) in (
      entry_for steps (1 + j) (word_of (nth steps j).want) c2,
      entries_from-has steps 1 steps j c2 (omega arith) q2 le2,
      w2,
      t2,
      omega arith,
      omega arith,
    )

-- each entry stands for reads of its thread
pub record Stands (steps : List Step) (entry : Entry) : Type 0 where
  pub low : 1 ≤ entry.first
  pub between : entry.first ≤ entry.last
  pub high : entry.last ≤ length steps
  pub first : saw entry.word entry.source (nth steps (entry.first - 1)) ≡ true
  pub last : saw entry.word entry.source (nth steps (entry.last - 1)) ≡ true

-- each entry of the log stands for reads
pub thread_log-stands : (steps : List Step) (entry : Entry) → Contains (thread_log steps) entry → Stands steps entry
unfolding thread_log
thread_log-stands steps entry c =
    let (k, cell, l, q, e, le) = entries_from-comes steps 1 steps entry c in
    let over = greatest_over (word_of (nth steps k).want) cell.tag steps 1 k l (saw-from (nth steps k) cell q) in
    subst (Stands steps) (sym e) (go k cell l q over (greatest_at (word_of (nth steps k).want) cell.tag steps 1))
  where
    go : (k : ℕ) (cell : Cell) → k < length steps → (nth steps k).found ≡ Some cell → 1 + k ≤ greatest (numbers (word_of (nth steps k).want) cell.tag 1 steps) →
        (numbers (word_of (nth steps k).want) cell.tag 1 steps ≡ []) ⊎
        ((j : ℕ) × (j < length steps) × (greatest (numbers (word_of (nth steps k).want) cell.tag 1 steps) ≡ 1 + j) × (saw (word_of (nth steps k).want) cell.tag (nth steps j) ≡ true)) →
        Stands steps (entry_for steps (1 + k) (word_of (nth steps k).want) cell)
    go k cell l q over (inl none) = absurd (let g : greatest (numbers (word_of (nth steps k).want) cell.tag 1 steps) ≡ 0 = ap greatest none in omega arith)
    go k cell l q over (inr (j, jl, g, sj)) =
        let x : k ≡ (1 + k) - 1 = omega arith in
        let y : j ≡ greatest (numbers (word_of (nth steps k).want) cell.tag 1 steps) - 1 = omega arith in
        record {
          low = omega arith;
          between = over;
          high = omega arith;
          first = subst (λ (n : ℕ). saw (word_of (nth steps k).want) cell.tag (nth steps n) ≡ true) x (saw-from (nth steps k) cell q);
          last = subst (λ (n : ℕ). saw (word_of (nth steps k).want) cell.tag (nth steps n) ≡ true) y sj;
        }
