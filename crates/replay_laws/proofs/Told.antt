-- What a log tells of runs that fit it, and the values that last tags name.
use Rattle.std.proofs.Common.{◌≡◌, ℕ, zero, suc, ◌+◌, ◌-◌, ◌<◌, ◌≤◌, true, false, List, [], ◌∷◌, length, take, map, refl, sym, ◌∙◌, ap, subst, arith, inl, inr, ◌⊎◌}
use Rattle.std.specs.Prelude.{Contains, Option, Some, None, slice_index_or, unwrap_or}
use Rattle.std.proofs.lemmas.List.{get_or_default, get_or_past, get_or-map, length-map, same_lists, length-take-le}
use Rattle.std.proofs.lemmas.Bool.{cases_lt}
use Rattle.replay_model.specs.Steps.{Event, Tag, Cell, Step, word_of, wrote, no_cell, has_ended}
use Rattle.replay_model.specs.declared.Entry.{Entry}
use Rattle.replay_model.specs.Threads.{Threads, EndsWithin, IsRun}
use Rattle.replay_model.specs.Histories.{steps_of}
use Rattle.replay_model.specs.Logs.{Log, HasEntry, last_tag}
use Rattle.replay_model.specs.RunLogs.{Tallies, last_tags}
use Rattle.replay_model.specs.Fitting.{step_at, HasWritten, IsGrounded, Fits, last_value, last_values_from}
use Rattle.replay_model.proofs.Moves.{in_range}
use Rattle.replay_model.proofs.ThreadLogs.{nth, saw-found, thread_log-covers, thread_log-stands}
use Rattle.replay_model.proofs.RunLogs.{entry-logged, logged-entry}
use Rattle.replay_laws.proofs.Skip.{Told}

-- a grounded cell with the tag of an event has what that event wrote
pub grounded_writes : (initial : List ℕ) (runs : List (List Step)) (word : ℕ) (cell : Cell) (event : Event) → IsGrounded initial runs word cell → cell.tag ≡ Some event →
    HasWritten runs event word cell.value
grounded_writes initial runs word cell event (inl (i, v)) q = let no : None ≡ Some event = sym i ∙ q in cc no
grounded_writes initial runs word cell event (inr (e, i, hw)) q =
    let same : e ≡ event = let y : Some e ≡ Some event = sym i ∙ q in cc y in
    subst (λ (x : Event). HasWritten runs x word cell.value) same hw

-- a log tells this of runs that fit it
pub told_by_fit : (threads : Threads) (tallies : Tallies) (initial : List ℕ) (log : Log) (runs : List (List Step)) → Fits threads tallies initial log runs → Told initial log runs
told_by_fit threads tallies initial log runs fits = record {
  grounded = fits.grounded;
  covered = λ t k cell l q.
      let (entry, c, a1, a2, a3, a4) = thread_log-covers (steps_of runs t) k cell l q in
      (entry, logged-entry threads tallies log runs fits.logs t entry (in_range runs t k l) c, a1, a2, a3, a4);
  inside = λ t entry c.
      let s = thread_log-stands (steps_of runs t) entry (entry-logged threads tallies log runs fits.logs t entry c).1 in (s.low, s.between, s.high);
  sources = λ t entry event c q. sources t entry event c q;
  last_tags = λ event c. ends event c;
}
  where
    sources : (t : ℕ) (entry : Entry) (event : Event) → HasEntry log t entry → entry.source ≡ Some event → (value : ℕ) × HasWritten runs event entry.word value
    sources t entry event c q =
        let s = thread_log-stands (steps_of runs t) entry (entry-logged threads tallies log runs fits.logs t entry c).1 in
        let (cell, fq, wq, tq) = saw-found entry.word entry.source (word_of (nth (steps_of runs t) (entry.first - 1)).want) (nth (steps_of runs t) (entry.first - 1)).found s.first in
        let low = s.low in let between = s.between in let high = s.high in
        let g = fits.grounded t (entry.first - 1) cell (omega arith) fq in
        (cell.value, subst (λ (x : ℕ). HasWritten runs event x cell.value) wq (grounded_writes initial runs _ cell event g (tq ∙ q)))

    ends : (event : Event) → Contains log.last_tags (Some event) →
        (word value : ℕ) × (word < length initial) × (last_tag log word ≡ Some event) × HasWritten runs event word value
    ends event (k, l, h) =
        let w : k < length initial = let y = fits.words in omega arith in
        let q : last_tag log k ≡ Some event = get_or_default log.last_tags k None (Some event) l ∙ h in
        let (v, hw) = fits.last_tags k event w q in (k, v, w, q, hw)

-- a run is no longer than the bound on steps
pub run_short : (threads : Threads) (runs : List (List Step)) (bound : ℕ) → EndsWithin threads bound →
    ((t : ℕ) → t < length runs → IsRun threads t (steps_of runs t)) → (t : ℕ) → length (steps_of runs t) ≤ bound
run_short threads runs bound stops run t = go (cases_lt bound (length (steps_of runs t))) (cases_lt t (length runs))
  where
    go : (bound < length (steps_of runs t)) ⊎ (length (steps_of runs t) ≤ bound) → (t < length runs) ⊎ (length runs ≤ t) → length (steps_of runs t) ≤ bound
    go (inr l) c = l
    go (inl l) (inr past) = let e = ap length (get_or_past runs t [] past) in omega (arith, e)
    go (inl l) (inl tl) =
        let r = run t tl in
        let k : length (take bound (steps_of runs t)) ≡ bound = length-take-le bound (steps_of runs t) (omega arith) in
        let ended : has_ended (threads t (take bound (steps_of runs t))) ≡ true = stops t (take bound (steps_of runs t)) (omega (arith, k)) in
        let lives : has_ended (threads t (take bound (steps_of runs t))) ≡ false = ap has_ended (r.wants bound l) ∙ r.lives bound l in
        let z : true ≡ false = sym ended ∙ lives in cc z

-- a grounded cell has the value that its tag names
pub grounded_value : (initial : List ℕ) (runs : List (List Step)) (word : ℕ) (cell : Cell) → IsGrounded initial runs word cell → cell.value ≡ last_value initial runs word cell.tag
grounded_value initial runs word cell (inl (i, v)) = v ∙ ap (last_value initial runs word) (sym i)
grounded_value initial runs word cell (inr (e, i, hw)) =
    let a : unwrap_or (wrote (step_at runs e).want (step_at runs e).found) 0 ≡ cell.value = ap (λ (o : Option ℕ). unwrap_or o 0) hw.wrote in
    sym a ∙ ap (last_value initial runs word) (sym i)

-- one value for each last tag
pub last_values_from-length : (initial : List ℕ) (runs : List (List Step)) (m : ℕ) (tags : List Tag) → length (last_values_from initial runs m tags) ≡ length tags
last_values_from-length initial runs m [] = refl
last_values_from-length initial runs m (tag ∷ tags) = ap suc (last_values_from-length initial runs (m + 1) tags)

-- and at each word its own
pub last_values_from-at : (initial : List ℕ) (runs : List (List Step)) (m : ℕ) (tags : List Tag) (word d : ℕ) (last : Tag) → word < length tags →
    slice_index_or (last_values_from initial runs m tags) word d ≡ last_value initial runs (m + word) (slice_index_or tags word last)
last_values_from-at initial runs m [] word d last l = absurd (omega (arith, l))
last_values_from-at initial runs m (tag ∷ tags) zero d last l = let z : m ≡ m + 0 = omega arith in ap (λ n. last_value initial runs n tag) z
last_values_from-at initial runs m (tag ∷ tags) (suc word) d last l =
    let z : (m + 1) + word ≡ m + suc word = omega arith in
    last_values_from-at initial runs (m + 1) tags word d last (omega arith) ∙ ap (λ n. last_value initial runs n (slice_index_or tags word last)) z

-- where each cell is grounded, the values are those that the tags name
pub grounded_last_values : (initial : List ℕ) (runs : List (List Step)) (memory : List Cell) (tags : List Tag) → last_tags memory ≡ tags → length memory ≡ length initial →
    ((word : ℕ) → word < length initial → IsGrounded initial runs word (slice_index_or memory word no_cell)) →
    map (λ (cell : Cell). cell.value) memory ≡ last_values_from initial runs 0 tags
grounded_last_values initial runs memory tags same sized grounded =
    subst (λ (x : List Tag). map (λ (cell : Cell). cell.value) memory ≡ last_values_from initial runs 0 x) same
    (same_lists (map (λ (cell : Cell). cell.value) memory) (last_values_from initial runs 0 (last_tags memory)) counted at)
  where
    values : length (map (λ (cell : Cell). cell.value) memory) ≡ length memory
    values = length-map memory (λ (cell : Cell). cell.value)

    tagged : length (last_tags memory) ≡ length memory
    tagged = length-map memory (λ (cell : Cell). cell.tag)

    counted : length (map (λ (cell : Cell). cell.value) memory) ≡ length (last_values_from initial runs 0 (last_tags memory))
    counted = values ∙ sym tagged ∙ sym (last_values_from-length initial runs 0 (last_tags memory))

    at : (k d : ℕ) → k < length (map (λ (cell : Cell). cell.value) memory) →
        slice_index_or (map (λ (cell : Cell). cell.value) memory) k d ≡ slice_index_or (last_values_from initial runs 0 (last_tags memory)) k d
    at k d l =
        let v = values in let t = tagged in
        let kl : k < length memory = omega arith in
        let ki : k < length initial = omega arith in
        let kt : k < length (last_tags memory) = omega arith in
        let z : k ≡ 0 + k = omega arith in
        get_or-map (λ (cell : Cell). cell.value) memory k no_cell d kl ∙
        grounded_value initial runs k (slice_index_or memory k no_cell) (grounded k ki) ∙
        ap (last_value initial runs k) (sym (get_or-map (λ (cell : Cell). cell.tag) memory k no_cell None kl)) ∙
        ap (λ n. last_value initial runs n (slice_index_or (last_tags memory) k None)) z ∙
        sym (last_values_from-at initial runs 0 (last_tags memory) k d None kt)
