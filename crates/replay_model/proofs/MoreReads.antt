-- The log of a thread after one more step.
use Rattle.std.proofs.Common.{◌≡◌, ℕ, suc, ◌+◌, ◌-◌, ◌<◌, ◌≤◌, Bool, true, false, cond, eqb, List, [], ◌∷◌, ◌++◌, length, refl, sym, ◌∙◌, ap, subst, arith, inl, inr, ◌⊎◌, map, Contains}
use Rattle.std.specs.Prelude.{Option, Some, None, ◌&&◌, max, All}
use Rattle.std.specs.List.{list_any}
use Rattle.std.proofs.lemmas.List.{append_assoc, append-nil, map-append}
use Rattle.std.proofs.lemmas.Bool.{cases_Bool, eq-eqb, eqb-true, ne_eqb, and_from, and_parts, cond-true, cond-false}
use Rattle.replay_model.specs.Steps.{Tag, Cell, Step, same_tag, word_of}
use Rattle.replay_model.specs.ThreadLogs.{Entry, saw, is_sight, numbers, least, greatest, entry_at, entries_from, thread_log}
use Rattle.replay_model.specs.MoreReads.{is_entry_for, touched, with_read}
use Rattle.replay_model.proofs.Tags.{same_tag-true, same_tag-same, any-element, element-any}
use Rattle.replay_model.proofs.ThreadLogs.{nth, saw-found, saw-from, entry_for, greatest_over, greatest_at, thread_log-covers, thread_log-stands}
use Rattle.std.proofs.lemmas.List.Elements.{All-weaker, All-contains_itself}
use Rattle.std.proofs.lemmas.List.Folds.{map_fixed, list_any_none}

-- whether there is no number
abbrev pub is_nil : List ℕ → Bool
is_nil [] = true
is_nil (n ∷ ns) = false

-- the numbers of a pair after one more step
pub numbers-push : (word : ℕ) (tag : Tag) (n : ℕ) (steps : List Step) (s : Step) →
    numbers word tag n (steps ++ s ∷ []) ≡ numbers word tag n steps ++ cond (saw word tag s) ((n + length steps) ∷ []) []
numbers-push word tag n [] s =
    let z : n ≡ n + 0 = omega arith in append-nil (cond (saw word tag s) (n ∷ []) []) ∙ ap (λ (x : ℕ). cond (saw word tag s) (x ∷ []) []) z
numbers-push word tag n (x ∷ steps) s = go (numbers-push word tag (n + 1) steps s) (cases_Bool (saw word tag x))
  where
    z : (n + 1) + length steps ≡ n + suc (length steps)
    z = omega arith

    go : numbers word tag (n + 1) (steps ++ s ∷ []) ≡ numbers word tag (n + 1) steps ++ cond (saw word tag s) (((n + 1) + length steps) ∷ []) [] →
        (saw word tag x ≡ true) ⊎ (saw word tag x ≡ false) →
        cond (saw word tag x) (n ∷ []) [] ++ numbers word tag (n + 1) (steps ++ s ∷ []) ≡
        (cond (saw word tag x) (n ∷ []) [] ++ numbers word tag (n + 1) steps) ++ cond (saw word tag s) ((n + suc (length steps)) ∷ []) []
    go ih (inl t) = rw t (ap (λ (y : List ℕ). n ∷ y) (ih ∙ ap (λ (k : ℕ). numbers word tag (n + 1) steps ++ cond (saw word tag s) (k ∷ []) []) z))
    go ih (inr f) = rw f (ih ∙ ap (λ (k : ℕ). numbers word tag (n + 1) steps ++ cond (saw word tag s) (k ∷ []) []) z)

-- more numbers at the end leave the least
pub least-append : (xs ys : List ℕ) → (xs ≡ [] → ⊥) → least (xs ++ ys) ≡ least xs
least-append [] ys n = absurd (n refl)
least-append (x ∷ xs) ys n = refl

-- and may raise the greatest
pub greatest-push : (xs : List ℕ) (m : ℕ) → greatest (xs ++ m ∷ []) ≡ max (greatest xs) m
greatest-push [] m = omega arith
greatest-push (x ∷ xs) m = let h = greatest-push xs m in omega (arith, h)

-- no number is past the last step
pub greatest_below : (word : ℕ) (tag : Tag) (n : ℕ) (steps : List Step) → greatest (numbers word tag n steps) ≤ n + length steps
greatest_below word tag n [] = omega arith
greatest_below word tag n (x ∷ steps) = go (greatest_below word tag (n + 1) steps) (cases_Bool (saw word tag x))
  where
    go : greatest (numbers word tag (n + 1) steps) ≤ (n + 1) + length steps → (saw word tag x ≡ true) ⊎ (saw word tag x ≡ false) →
        greatest (cond (saw word tag x) (n ∷ []) [] ++ numbers word tag (n + 1) steps) ≤ n + suc (length steps)
    go ih (inl t) = rw t (omega (arith, ih))
    go ih (inr f) = rw f (omega (arith, ih))

-- the entries of one more step come at the end
pub entries_from-append : (whole : List Step) (n : ℕ) (xs : List Step) (s : Step) →
    entries_from whole n (xs ++ s ∷ []) ≡ entries_from whole n xs ++ entry_at whole (n + length xs) (word_of s.want) s.found
entries_from-append whole n [] s =
    let z : n ≡ n + 0 = omega arith in
    append-nil (entry_at whole n (word_of s.want) s.found) ∙ ap (λ (k : ℕ). entry_at whole k (word_of s.want) s.found) z
entries_from-append whole n (x ∷ xs) s =
    let z : (n + 1) + length xs ≡ n + suc (length xs) = omega arith in
    ap (λ (y : List Entry). entry_at whole n (word_of x.want) x.found ++ y)
    (entries_from-append whole (n + 1) xs s ∙ ap (λ (k : ℕ). entries_from whole (n + 1) xs ++ entry_at whole k (word_of s.want) s.found) z) ∙
    sym (append_assoc (entry_at whole n (word_of x.want) x.found) (entries_from whole (n + 1) xs) (entry_at whole (n + suc (length xs)) (word_of s.want) s.found))

-- the entry of an earlier step, after one more read
pub entry_at-push : (whole : List Step) (n word : ℕ) (found : Option Cell) (s : Step) (cell : Cell) → s.found ≡ Some cell →
    ((c : Cell) → found ≡ Some c → numbers word c.tag 1 whole ≡ [] → ⊥) →
    entry_at (whole ++ s ∷ []) n word found ≡ map (touched (word_of s.want) cell.tag (length whole + 1)) (entry_at whole n word found)
entry_at-push whole n word None s cell q some = refl
entry_at-push whole n word (Some c) s cell q some =
    let push = numbers-push word c.tag 1 whole s in
    let ne : numbers word c.tag 1 whole ≡ [] → ⊥ = some c refl in
    let le : least (numbers word c.tag 1 (whole ++ s ∷ [])) ≡ least (numbers word c.tag 1 whole) = ap least push ∙ least-append (numbers word c.tag 1 whole) (cond (saw word c.tag s) ((1 + length whole) ∷ []) []) ne in
    let sw : saw word c.tag s ≡ (eqb (word_of s.want) word && same_tag cell.tag c.tag) = ap (is_sight word c.tag (word_of s.want)) q in
    let gr : greatest (numbers word c.tag 1 (whole ++ s ∷ [])) ≡ cond (eqb (word_of s.want) word && same_tag cell.tag c.tag) (length whole + 1) (greatest (numbers word c.tag 1 whole)) =
    ap greatest push ∙ last (eqb (word_of s.want) word && same_tag cell.tag c.tag) (saw word c.tag s) sw in
    let e : entry_for (whole ++ s ∷ []) n word c ≡ touched (word_of s.want) cell.tag (length whole + 1) (entry_for whole n word c) =
    ap (λ (g : ℕ). record { word = word; source = c.tag; first = n; last = g }) gr in
    let P : ℕ → Type 0 = λ x. cond (eqb x n) (entry_for (whole ++ s ∷ []) n word c ∷ []) [] ≡ map (touched (word_of s.want) cell.tag (length whole + 1)) (cond (eqb (least (numbers word c.tag 1 whole)) n) (entry_for whole n word c ∷ []) []) in
    subst P (sym le) (one (eqb (least (numbers word c.tag 1 whole)) n) (entry_for (whole ++ s ∷ []) n word c) e)
  where
    last : (b d : Bool) → d ≡ b → greatest (numbers word c.tag 1 whole ++ cond d ((1 + length whole) ∷ []) []) ≡ cond b (length whole + 1) (greatest (numbers word c.tag 1 whole))
    last true d h = let g = greatest-push (numbers word c.tag 1 whole) (1 + length whole) in let b = greatest_below word c.tag 1 whole in
        ap (λ (x : Bool). greatest (numbers word c.tag 1 whole ++ cond x ((1 + length whole) ∷ []) [])) h ∙ g ∙ omega (arith, b)
    last false d h = ap (λ (x : Bool). greatest (numbers word c.tag 1 whole ++ cond x ((1 + length whole) ∷ []) [])) h ∙ ap greatest (append-nil (numbers word c.tag 1 whole))

    one : (b : Bool) (new : Entry) → new ≡ touched (word_of s.want) cell.tag (length whole + 1) (entry_for whole n word c) →
        cond b (new ∷ []) [] ≡ map (touched (word_of s.want) cell.tag (length whole + 1)) (cond b (entry_for whole n word c ∷ []) [])
    one true new e = ap (λ (x : Entry). x ∷ []) e
    one false new e = refl

-- the entries of all earlier steps, after one more read
pub entries_from-push : (whole : List Step) (n : ℕ) (rest : List Step) (s : Step) (cell : Cell) → s.found ≡ Some cell →
    ((k : ℕ) (c : Cell) → k < length rest → (nth rest k).found ≡ Some c → numbers (word_of (nth rest k).want) c.tag 1 whole ≡ [] → ⊥) →
    entries_from (whole ++ s ∷ []) n rest ≡ map (touched (word_of s.want) cell.tag (length whole + 1)) (entries_from whole n rest)
entries_from-push whole n [] s cell q some = refl
entries_from-push whole n (x ∷ rest) s cell q some =
    let a = entry_at-push whole n (word_of x.want) x.found s cell q (λ c fq. some 0 c (omega arith) fq) in
    let b = entries_from-push whole (n + 1) rest s cell q (λ k c l fq. some (suc k) c (omega arith) fq) in
    ap (λ (y : List Entry). y ++ entries_from (whole ++ s ∷ []) (n + 1) rest) a ∙
    ap (λ (y : List Entry). map (touched (word_of s.want) cell.tag (length whole + 1)) (entry_at whole n (word_of x.want) x.found) ++ y) b ∙
    sym (map-append (touched (word_of s.want) cell.tag (length whole + 1)) (entry_at whole n (word_of x.want) x.found) (entries_from whole (n + 1) rest))

-- the least number is none of a step to come
pub least_below : (word : ℕ) (tag : Tag) (n : ℕ) (steps : List Step) → least (numbers word tag (n + 1) steps) ≤ n + length steps
least_below word tag n [] = omega arith
least_below word tag n (x ∷ steps) = go (least_below word tag (n + 1) steps) (cases_Bool (saw word tag x))
  where
    go : least (numbers word tag ((n + 1) + 1) steps) ≤ (n + 1) + length steps → (saw word tag x ≡ true) ⊎ (saw word tag x ≡ false) →
        least (cond (saw word tag x) ((n + 1) ∷ []) [] ++ numbers word tag ((n + 1) + 1) steps) ≤ n + suc (length steps)
    go ih (inl t) = rw t (omega arith)
    go ih (inr f) = rw f (omega (arith, ih))

-- the entry of the new read itself
pub entry_at-new : (whole : List Step) (s : Step) (cell : Cell) → s.found ≡ Some cell →
    entry_at (whole ++ s ∷ []) (1 + length whole) (word_of s.want) s.found ≡
    cond (is_nil (numbers (word_of s.want) cell.tag 1 whole)) (record { word = word_of s.want; source = cell.tag; first = length whole + 1; last = length whole + 1 } ∷ []) []
entry_at-new whole s cell q =
    ap (entry_at (whole ++ s ∷ []) (1 + length whole) (word_of s.want)) q ∙
    go (numbers (word_of s.want) cell.tag 1 whole) (numbers-push (word_of s.want) cell.tag 1 whole s ∙ ap (λ (b : Bool). numbers (word_of s.want) cell.tag 1 whole ++ cond b ((1 + length whole) ∷ []) []) (saw-from s cell q)) (greatest_below_least (numbers (word_of s.want) cell.tag 1 whole) refl)
  where
    z : 1 + length whole ≡ length whole + 1
    z = omega arith

    greatest_below_least : (ns : List ℕ) → numbers (word_of s.want) cell.tag 1 whole ≡ ns → least ns ≤ length whole
    greatest_below_least ns e = subst (λ (x : List ℕ). least x ≤ length whole) e (let h = least_below (word_of s.want) cell.tag 0 whole in let z : 0 + 1 ≡ 1 = refl in omega (arith, h))

    go : (ns : List ℕ) → numbers (word_of s.want) cell.tag 1 (whole ++ s ∷ []) ≡ ns ++ ((1 + length whole) ∷ []) → least ns ≤ length whole →
        cond (eqb (least (numbers (word_of s.want) cell.tag 1 (whole ++ s ∷ []))) (1 + length whole)) (entry_for (whole ++ s ∷ []) (1 + length whole) (word_of s.want) cell ∷ []) [] ≡
        cond (is_nil ns) (record { word = word_of s.want; source = cell.tag; first = length whole + 1; last = length whole + 1 } ∷ []) []
    go [] e l =
        let le : eqb (least (numbers (word_of s.want) cell.tag 1 (whole ++ s ∷ []))) (1 + length whole) ≡ true = eq-eqb _ _ (ap least e) in
        let g : greatest (numbers (word_of s.want) cell.tag 1 (whole ++ s ∷ [])) ≡ length whole + 1 = ap greatest e ∙ omega arith in
        cond-true _ _ _ le ∙ ap (λ (x : Entry). x ∷ []) (λ j. record { word = word_of s.want; source = cell.tag; first = z j; last = g j })
    go (n ∷ ns) e l =
        let le : eqb (least (numbers (word_of s.want) cell.tag 1 (whole ++ s ∷ []))) (1 + length whole) ≡ false = ne_eqb _ _ (λ h. let k : least (numbers (word_of s.want) cell.tag 1 (whole ++ s ∷ [])) ≡ n = ap least e in omega (arith, k, h, l)) in
        cond-false _ _ _ le

pushed : (steps : List Step) (s : Step) (cell : Cell) → s.found ≡ Some cell →
    thread_log (steps ++ s ∷ []) ≡ map (touched (word_of s.want) cell.tag (length steps + 1)) (thread_log steps) ++
    cond (is_nil (numbers (word_of s.want) cell.tag 1 steps)) (record { word = word_of s.want; source = cell.tag; first = length steps + 1; last = length steps + 1 } ∷ []) []
unfolding thread_log
pushed steps s cell q =
    entries_from-append (steps ++ s ∷ []) 1 steps s ∙
    ap (λ (y : List Entry). y ++ entry_at (steps ++ s ∷ []) (1 + length steps) (word_of s.want) s.found)
    (entries_from-push steps 1 steps s cell q (λ k c l fq none.
    let o = greatest_over (word_of (nth steps k).want) c.tag steps 1 k l (saw-from (nth steps k) c fq) in
    let g : greatest (numbers (word_of (nth steps k).want) c.tag 1 steps) ≡ 0 = ap greatest none in omega (arith, o, g))) ∙
    ap (λ (y : List Entry). map (touched (word_of s.want) cell.tag (length steps + 1)) (entries_from steps 1 steps) ++ y) (entry_at-new steps s cell q)

-- a pair has an entry exactly where a step saw it
pub is_logged : (word : ℕ) (tag : Tag) (steps : List Step) (new : List Entry) →
    cond (is_nil (numbers word tag 1 steps)) new [] ≡ cond (list_any (is_entry_for word tag) (thread_log steps)) [] new
is_logged word tag steps new = go (cases_Bool (list_any (is_entry_for word tag) (thread_log steps))) (numbers word tag 1 steps) refl
  where
    go : (list_any (is_entry_for word tag) (thread_log steps) ≡ true) ⊎ (list_any (is_entry_for word tag) (thread_log steps) ≡ false) →
        (ns : List ℕ) → numbers word tag 1 steps ≡ ns →
        cond (is_nil (numbers word tag 1 steps)) new [] ≡ cond (list_any (is_entry_for word tag) (thread_log steps)) [] new
    go (inl t) (n ∷ ns) q = ap (λ (x : List ℕ). cond (is_nil x) new []) q ∙ sym (cond-true (list_any (is_entry_for word tag) (thread_log steps)) [] new t)
    go (inl t) [] q =
        let (entry, c, p) = any-element (is_entry_for word tag) (thread_log steps) t in
        let a = and_parts (eqb word entry.word) (same_tag tag entry.source) p in
        let w : word ≡ entry.word = eqb-true word entry.word a.0 in
        let g : tag ≡ entry.source = same_tag-true tag entry.source a.1 in
        let s = thread_log-stands steps entry c in
        let low = s.low in let between = s.between in let high = s.high in
        let o = greatest_over entry.word entry.source steps 1 (entry.first - 1) (omega arith) s.first in
        let e : greatest (numbers entry.word entry.source 1 steps) ≡ 0 =
        ap (λ (x : ℕ). greatest (numbers x entry.source 1 steps)) (sym w) ∙ ap (λ (x : Tag). greatest (numbers word x 1 steps)) (sym g) ∙ ap greatest q in
        absurd (omega (arith, o, e))
    go (inr f) [] q = ap (λ (x : List ℕ). cond (is_nil x) new []) q ∙ sym (cond-false (list_any (is_entry_for word tag) (thread_log steps)) [] new f)
    go (inr f) (n ∷ ns) q = at (greatest_at word tag steps 1)
      where
        at : (numbers word tag 1 steps ≡ []) ⊎ ((j : ℕ) × (j < length steps) × (greatest (numbers word tag 1 steps) ≡ 1 + j) × (saw word tag (nth steps j) ≡ true)) →
            cond (is_nil (numbers word tag 1 steps)) new [] ≡ cond (list_any (is_entry_for word tag) (thread_log steps)) [] new
        at (inl none) = absurd (let no : [] ≡ n ∷ ns = sym none ∙ q in cc no)
        at (inr (j, l, g, sj)) =
            let (cell, fq, wq, tq) = saw-found word tag (word_of (nth steps j).want) (nth steps j).found sj in
            let (entry, c, ew, es, lo, hi) = thread_log-covers steps j cell l fq in
            let p : is_entry_for word tag entry ≡ true =
            and_from (eqb word entry.word) (same_tag tag entry.source) (eq-eqb word entry.word (sym wq ∙ sym ew)) (subst (λ (x : Tag). same_tag tag x ≡ true) (sym tq ∙ sym es) (same_tag-same tag)) in
            absurd (let no : true ≡ false = sym (element-any (is_entry_for word tag) (thread_log steps) entry c p) ∙ f in cc no)

-- the log after one more read, in the form in which it can be kept
pub thread_log-push : (steps : List Step) (s : Step) (cell : Cell) → s.found ≡ Some cell →
    thread_log (steps ++ s ∷ []) ≡ with_read (word_of s.want) cell.tag (length steps + 1) (thread_log steps)
thread_log-push steps s cell q = pushed steps s cell q ∙
    ap (λ (y : List Entry). map (touched (word_of s.want) cell.tag (length steps + 1)) (thread_log steps) ++ y)
    (is_logged (word_of s.want) cell.tag steps (record { word = word_of s.want; source = cell.tag; first = length steps + 1; last = length steps + 1 } ∷ []))

-- a step that reads nothing is not seen in the numbers
pub numbers-quiet : (word : ℕ) (tag : Tag) (n : ℕ) (steps : List Step) (s : Step) → s.found ≡ None → numbers word tag n (steps ++ s ∷ []) ≡ numbers word tag n steps
numbers-quiet word tag n steps s q =
    numbers-push word tag n steps s ∙
    ap (λ (f : Option Cell). numbers word tag n steps ++ cond (is_sight word tag (word_of s.want) f) ((n + length steps) ∷ []) []) q ∙
    append-nil (numbers word tag n steps)

-- entries follow from the numbers alone
pub entries_from-same : (one two : List Step) → ((word : ℕ) (tag : Tag) → numbers word tag 1 one ≡ numbers word tag 1 two) →
    (n : ℕ) (rest : List Step) → entries_from one n rest ≡ entries_from two n rest
entries_from-same one two same n [] = refl
entries_from-same one two same n (x ∷ rest) =
    ap (λ (y : List Entry). y ++ entries_from one (n + 1) rest) (at x.found) ∙
    ap (λ (y : List Entry). entry_at two n (word_of x.want) x.found ++ y) (entries_from-same one two same (n + 1) rest)
  where
    at : (found : Option Cell) → entry_at one n (word_of x.want) found ≡ entry_at two n (word_of x.want) found
    at None = refl
    at (Some cell) =
        ap (λ (ns : List ℕ). cond (eqb (least ns) n) (record { word = word_of x.want; source = cell.tag; first = n; last = greatest ns } ∷ []) []) (same (word_of x.want) cell.tag)

-- the log after a step that reads nothing
pub thread_log-quiet : (steps : List Step) (s : Step) → s.found ≡ None → thread_log (steps ++ s ∷ []) ≡ thread_log steps
unfolding thread_log
thread_log-quiet steps s q =
    entries_from-append (steps ++ s ∷ []) 1 steps s ∙
    ap (λ (f : Option Cell). entries_from (steps ++ s ∷ []) 1 steps ++ entry_at (steps ++ s ∷ []) (1 + length steps) (word_of s.want) f) q ∙
    append-nil (entries_from (steps ++ s ∷ []) 1 steps) ∙
    entries_from-same (steps ++ s ∷ []) steps (λ word tag. numbers-quiet word tag 1 steps s q) 1 steps

-- where no entry is the pair's, one is added
pub with_read-new : (word : ℕ) (tag : Tag) (n : ℕ) (entries : List Entry) → ((entry : Entry) → Contains entries entry → is_entry_for word tag entry ≡ false) →
    with_read word tag n entries ≡ entries ++ record { word = word; source = tag; first = n; last = n } ∷ []
with_read-new word tag n entries none =
    ap (λ (x : List Entry). x ++ cond (list_any (is_entry_for word tag) entries) [] new) (map_fixed (touched word tag n) entries same) ∙
    ap (λ (b : Bool). entries ++ cond b [] new) (list_any_none (is_entry_for word tag) entries absent)
  where
    new : List Entry
    new = record { word = word; source = tag; first = n; last = n } ∷ []

    absent : All (λ (x : Entry). is_entry_for word tag x ≡ false) entries
    absent = All-weaker (Contains entries) (λ x. is_entry_for word tag x ≡ false) none entries (All-contains_itself entries)

    same : All (λ (x : Entry). touched word tag n x ≡ x) entries
    same = All-weaker (λ (x : Entry). is_entry_for word tag x ≡ false) (λ x. touched word tag n x ≡ x)
        (λ x f. ap (λ (b : Bool). record { word = x.word; source = x.source; first = x.first; last = cond b n x.last }) f) entries absent
