-- How many entries the log of a thread has, told by what its steps saw.
use Rattle.std.proofs.Common.{◌≡◌, ℕ, ◌+◌, ◌-◌, Bool, true, false, cond, eqb, List, [], ◌∷◌, ◌++◌, length, refl, sym, ◌∙◌, ap, subst, arith, inl, inr, ◌⊎◌, map, length-append}
use Rattle.std.specs.Prelude.{Some, None, ◌||◌}
use Rattle.std.specs.List.{list_any}
use Rattle.std.proofs.lemmas.List.{get_or_default, length-map}
use Rattle.std.proofs.lemmas.List.Folds.{list_any-append, list_any_at}
use Rattle.std.proofs.lemmas.Bool.{cases_Bool, eq-eqb, and_from, and_parts, eqb-true}
use Rattle.replay_model.specs.Steps.{Tag, Cell, Step, same_tag, word_of}
use Rattle.replay_model.specs.Threads.{no_step}
use Rattle.replay_model.specs.ThreadLogs.{Entry, saw, thread_log}
use Rattle.replay_model.specs.MoreReads.{is_entry_for, touched}
use Rattle.replay_model.proofs.Tags.{same_tag-true, same_tag-same, any-element, element-any}
use Rattle.replay_model.proofs.ThreadLogs.{nth, saw-found, thread_log-covers, thread_log-stands}
use Rattle.replay_model.proofs.MoreReads.{thread_log-push, thread_log-quiet}

-- whether one of the steps found this tag in this word
abbrev pub has_seen : ℕ → Tag → List Step → Bool
has_seen word tag steps = list_any (saw word tag) steps

-- the log has an entry for exactly the pairs that a step saw
pub is_logged-has_seen : (word : ℕ) (tag : Tag) (steps : List Step) → list_any (is_entry_for word tag) (thread_log steps) ≡ has_seen word tag steps
is_logged-has_seen word tag steps = go (cases_Bool (list_any (is_entry_for word tag) (thread_log steps))) (cases_Bool (has_seen word tag steps))
  where
    go : (list_any (is_entry_for word tag) (thread_log steps) ≡ true) ⊎ (list_any (is_entry_for word tag) (thread_log steps) ≡ false) →
        (has_seen word tag steps ≡ true) ⊎ (has_seen word tag steps ≡ false) → list_any (is_entry_for word tag) (thread_log steps) ≡ has_seen word tag steps
    go (inl a) (inl b) = a ∙ sym b
    go (inr a) (inr b) = a ∙ sym b
    go (inl a) (inr b) =
        let (entry, c, p) = any-element (is_entry_for word tag) (thread_log steps) a in
        let s = thread_log-stands steps entry c in
        let low = s.low in let between = s.between in let high = s.high in
        let parts = and_parts (eqb word entry.word) (same_tag tag entry.source) p in
        let w : entry.word ≡ word = sym (eqb-true word entry.word parts.0) in
        let g : entry.source ≡ tag = sym (same_tag-true tag entry.source parts.1) in
        let f : saw word tag (nth steps (entry.first - 1)) ≡ true =
        ap (λ (x : ℕ). saw x tag (nth steps (entry.first - 1))) (sym w) ∙ ap (λ (x : Tag). saw entry.word x (nth steps (entry.first - 1))) (sym g) ∙ s.first in
        let t : has_seen word tag steps ≡ true = list_any_at (saw word tag) steps (entry.first - 1) no_step (omega arith) f in
        absurd (let no : true ≡ false = sym t ∙ b in cc no)
    go (inr a) (inl b) =
        let (x, c, t) = any-element (saw word tag) steps b in
        let f : saw word tag (nth steps c.0) ≡ true = ap (saw word tag) (get_or_default steps c.0 no_step x c.1 ∙ c.2) ∙ t in
        let (cell, fq, wq, tq) = saw-found word tag (word_of (nth steps c.0).want) (nth steps c.0).found f in
        let (entry, ec, ew, es, lo, hi) = thread_log-covers steps c.0 cell c.1 fq in
        let p : is_entry_for word tag entry ≡ true =
        and_from (eqb word entry.word) (same_tag tag entry.source) (eq-eqb word entry.word (sym wq ∙ sym ew)) (subst (λ (y : Tag). same_tag tag y ≡ true) (sym tq ∙ sym es) (same_tag-same tag)) in
        absurd (let no : true ≡ false = sym (element-any (is_entry_for word tag) (thread_log steps) entry ec p) ∙ a in cc no)

-- one more read makes an entry exactly where its pair was not seen before
pub log_length-read : (steps : List Step) (s : Step) (cell : Cell) → s.found ≡ Some cell →
    length (thread_log (steps ++ s ∷ [])) ≡ length (thread_log steps) + cond (has_seen (word_of s.want) cell.tag steps) 0 1
log_length-read steps s cell q =
    ap length (thread_log-push steps s cell q) ∙
    length-append (map (touched (word_of s.want) cell.tag (length steps + 1)) (thread_log steps)) _ ∙
    ap (λ (n : ℕ). n + length (added (list_any (is_entry_for (word_of s.want) cell.tag) (thread_log steps)))) (length-map (thread_log steps) (touched (word_of s.want) cell.tag (length steps + 1))) ∙
    ap (λ (n : ℕ). length (thread_log steps) + n) (one (list_any (is_entry_for (word_of s.want) cell.tag) (thread_log steps)) ∙ ap (λ (b : Bool). cond b 0 1) (is_logged-has_seen (word_of s.want) cell.tag steps))
  where
    added : Bool → List Entry
    added b = cond b [] (record { word = word_of s.want; source = cell.tag; first = length steps + 1; last = length steps + 1 } ∷ [])

    one : (b : Bool) → length {A = Entry} (cond b [] (record { word = word_of s.want; source = cell.tag; first = length steps + 1; last = length steps + 1 } ∷ [])) ≡ cond b 0 1
    one true = refl
    one false = refl

-- a step that reads nothing makes no entry
pub log_length-quiet : (steps : List Step) (s : Step) → s.found ≡ None → length (thread_log (steps ++ s ∷ [])) ≡ length (thread_log steps)
log_length-quiet steps s q = ap length (thread_log-quiet steps s q)

-- what was seen after one more step
pub has_seen-push : (word : ℕ) (tag : Tag) (steps : List Step) (s : Step) → has_seen word tag (steps ++ s ∷ []) ≡ (has_seen word tag steps || saw word tag s)
has_seen-push word tag steps s = list_any-append (saw word tag) steps (s ∷ []) ∙ ap (λ (b : Bool). has_seen word tag steps || b) (or-false (saw word tag s))
  where
    or-false : (b : Bool) → (b || false) ≡ b
    or-false true = refl
    or-false false = refl
