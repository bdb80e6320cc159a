-- A source of a word that was overwritten never comes back.
use Rattle.std.proofs.Common.{◌≡◌, ℕ, ◌+◌, ◌<◌, ◌≤◌, ◌≢◌, true, false, List, [], ◌∷◌, ◌++◌, length, refl, sym, ◌∙◌, ap, subst, arith, inl, inr, ◌⊎◌}
use Rattle.std.specs.Prelude.{Option, Some, None, slice_index_or, slice_set}
use Rattle.std.proofs.lemmas.List.{length_push, get_or_push, get_or_append_left, get_or-set_same, get_or-set_other, set_past, append-nil, append_assoc}
use Rattle.std.proofs.lemmas.List.Elements.{Contains-get_or}
use Rattle.std.proofs.lemmas.Bool.{cases_Bool, cases_eq, cases_lt}
use Rattle.light_base.specs.declared.tag.Tag.{Tag}
use Rattle.light_base.specs.declared.tag.Event.{Event}
use Rattle.replay_model.specs.Steps.{Cell, Step, same_tag, word_of, wrote, no_cell, found_in, put, initial_cells}
use Rattle.replay_model.specs.Threads.{no_step}
use Rattle.replay_model.specs.ThreadLogs.{saw}
use Rattle.replay_model.specs.WordSteps.{WordStep, event_of, part, Folds}
use Rattle.replay_model.proofs.Tags.{same_tag-true, same_tag-same}
use Rattle.replay_model.proofs.Moves.{found_in-cell}
use Rattle.replay_model.proofs.ThreadLogs.{nth, saw-found}
use Rattle.replay_model.proofs.WordSteps.{step_of, part_push, part_push_other}
use Rattle.replay_model.proofs.WordCells.{IsFromList, IsKnown, known_start, known_next}
use Rattle.tagged_words.proofs.Places.{part-contains}

-- a source that a thread read before another stands in the word no more, and was not read again
record IsSettled (steps : List Step) (memory : List Cell) : Type 0 where
  gone : (i j word : ℕ) (a b : Tag) → i < j → j < length steps → saw word a (nth steps i) ≡ true → saw word b (nth steps j) ≡ true → a ≢ b →
      (slice_index_or memory word no_cell).tag ≢ a
  away : (i j k word : ℕ) (a b : Tag) → i < j → j < k → k < length steps → saw word a (nth steps i) ≡ true → saw word b (nth steps j) ≡ true → saw word a (nth steps k) ≡ true →
      a ≢ b → ⊥

-- a write with a tag that the thread has not read
written : (steps : List Step) (memory after : List Cell) → IsSettled steps memory →
    ((i word : ℕ) (a : Tag) → i + 1 < length steps → saw word a (nth steps i) ≡ true → ((slice_index_or after word no_cell).tag ≡ (slice_index_or memory word no_cell).tag) ⊎ ((slice_index_or after word no_cell).tag ≢ a)) →
    IsSettled steps after
written steps memory after settled new = record {
  gone = λ i j word a b ij jl p q ne is. go i j word a b (settled.gone i j word a b ij jl p q ne) is (new i word a (omega arith) p);
  away = settled.away;
}
  where
    go : (i j word : ℕ) (a b : Tag) → (slice_index_or memory word no_cell).tag ≢ a → (slice_index_or after word no_cell).tag ≡ a →
        ((slice_index_or after word no_cell).tag ≡ (slice_index_or memory word no_cell).tag) ⊎ ((slice_index_or after word no_cell).tag ≢ a) → ⊥
    go i j word a b old is (inl same) = old (sym same ∙ is)
    go i j word a b old is (inr other) = other is

-- one more step, which saw what stood there
module _ (steps : List Step) (step : Step) (memory : List Cell) (settled : IsSettled steps memory) (sight : (word : ℕ) (b : Tag) → saw word b step ≡ true → (slice_index_or memory word no_cell).tag ≡ b) where
  before : (word : ℕ) (a : Tag) (i : ℕ) → i < length steps → saw word a (nth (steps ++ step ∷ []) i) ≡ true → saw word a (nth steps i) ≡ true
  before word a i l p = subst (λ (s : Step). saw word a s ≡ true) (get_or_append_left steps (step ∷ []) no_step i l) p

  last : (word : ℕ) (b : Tag) (j : ℕ) → length steps ≡ j → saw word b (nth (steps ++ step ∷ []) j) ≡ true → (slice_index_or memory word no_cell).tag ≡ b
  last word b j e p = sight word b (subst (λ (s : Step). saw word b s ≡ true) (get_or_push steps step no_step j e) p)

  read : IsSettled (steps ++ step ∷ []) memory
  read = record { gone = gone; away = away }
    where
      gone : (i j word : ℕ) (a b : Tag) → i < j → j < length (steps ++ step ∷ []) → saw word a (nth (steps ++ step ∷ []) i) ≡ true → saw word b (nth (steps ++ step ∷ []) j) ≡ true → a ≢ b →
          (slice_index_or memory word no_cell).tag ≢ a
      gone i j word a b ij jl p q ne is = at (cases_lt j (length steps))
        where
          at : (j < length steps) ⊎ (length steps ≤ j) → ⊥
          at (inl l) = settled.gone i j word a b ij l (before word a i (omega arith) p) (before word b j l q) ne is
          at (inr l) = let n = length_push steps step in ne (sym is ∙ last word b j (omega arith) q)

      away : (i j k word : ℕ) (a b : Tag) → i < j → j < k → k < length (steps ++ step ∷ []) → saw word a (nth (steps ++ step ∷ []) i) ≡ true → saw word b (nth (steps ++ step ∷ []) j) ≡ true →
          saw word a (nth (steps ++ step ∷ []) k) ≡ true → a ≢ b → ⊥
      away i j k word a b ij jk kl p q r ne = at (cases_lt k (length steps))
        where
          at : (k < length steps) ⊎ (length steps ≤ k) → ⊥
          at (inl l) = settled.away i j k word a b ij jk l (before word a i (omega arith) p) (before word b j (omega arith) q) (before word a k l r) ne
          at (inr l) =
              let n = length_push steps step in
              settled.gone i j word a b ij (omega arith) (before word a i (omega arith) p) (before word b j (omega arith) q) ne (last word a k (omega arith) r)

-- a write changes the tag of a word to the writer's, or leaves it
put_tag : (memory : List Cell) (at : ℕ) (event : Event) (v : Option ℕ) (word : ℕ) →
    ((slice_index_or (put memory at event v) word no_cell).tag ≡ (slice_index_or memory word no_cell).tag) ⊎ ((slice_index_or (put memory at event v) word no_cell).tag ≡ Some event)
put_tag memory at event None word = inl refl
put_tag memory at event (Some v) word = go (cases_eq word at) (cases_lt at (length memory))
  where
    new : Cell
    new = record { value = v; tag = Some event }

    go : (word ≡ at) ⊎ (word ≡ at → ⊥) → (at < length memory) ⊎ (length memory ≤ at) →
        ((slice_index_or (slice_set memory at (record { value = v; tag = Some event })) word no_cell).tag ≡ (slice_index_or memory word no_cell).tag) ⊎
        ((slice_index_or (slice_set memory at (record { value = v; tag = Some event })) word no_cell).tag ≡ Some event)
    go (inr n) c = inl (ap (λ (x : Cell). x.tag) (get_or-set_other memory at word (record { value = v; tag = Some event }) no_cell n))
    go (inl s) (inl l) = inr (ap (λ (k : ℕ). (slice_index_or (slice_set memory at (record { value = v; tag = Some event })) k no_cell).tag) s ∙ ap (λ (x : Cell). x.tag) (get_or-set_same memory at (record { value = v; tag = Some event }) no_cell l))
    go (inl s) (inr l) = inl (ap (λ (m : List Cell). (slice_index_or m word no_cell).tag) (set_past memory at (record { value = v; tag = Some event }) l))

module _ (initial : List ℕ) (t : ℕ) where
  module _ (list : List WordStep) (memory : List Cell) (e : WordStep) (known : IsKnown initial list memory) (number : e.number ≡ length (part e.thread list) + 1) (saw_it : e.found ≡ found_in memory e.want) where
    -- no step of the list has the event of the next one
    unread : (i word : ℕ) (a : Tag) → i < length (part t list) → saw word a (nth (part t list) i) ≡ true → a ≢ Some (event_of e)
    unread i word a l p is =
        let (cell, found, at, tag) = saw-found word a (word_of (nth (part t list) i).want) (nth (part t list) i).found p in
        let (x, c, same) = part-contains t list (nth (part t list) i) (Contains-get_or (part t list) i no_step l) in
        go cell (tag ∙ is) (known.found x cell c (ap (λ (s : Step). s.found) same ∙ found))
      where
        go : {w : ℕ} (cell : Cell) → cell.tag ≡ Some (event_of e) → IsFromList initial list w cell → ⊥
        go cell q (inl (none, v)) = let no : None ≡ Some (event_of e) = sym none ∙ q in cc no
        go cell q (inr (y, d, s, w, v)) =
            let both : event_of y ≡ event_of e = let z : Some (event_of y) ≡ Some (event_of e) = sym s ∙ q in cc z in
            let (low, high) = known.numbered y d in
            let n : y.number ≡ e.number = ap (λ (ev : Event). ev.step) both in
            let h : y.number ≤ length (part e.thread list) = subst (λ (u : ℕ). y.number ≤ length (part u list)) (ap (λ (ev : Event). ev.thread) both) high in
            omega (arith, number, n, h)

    next : IsSettled (part t list) memory → IsSettled (part t (list ++ e ∷ [])) (put memory (word_of e.want) (event_of e) (wrote e.want e.found))
    next settled = go (cases_eq t e.thread)
      where
        new : (i word : ℕ) (a : Tag) → a ≢ Some (event_of e) →
            ((slice_index_or (put memory (word_of e.want) (event_of e) (wrote e.want e.found)) word no_cell).tag ≡ (slice_index_or memory word no_cell).tag) ⊎
            ((slice_index_or (put memory (word_of e.want) (event_of e) (wrote e.want e.found)) word no_cell).tag ≢ a)
        new i word a ne = at (put_tag memory (word_of e.want) (event_of e) (wrote e.want e.found) word)
          where
            at : ((slice_index_or (put memory (word_of e.want) (event_of e) (wrote e.want e.found)) word no_cell).tag ≡ (slice_index_or memory word no_cell).tag) ⊎
                ((slice_index_or (put memory (word_of e.want) (event_of e) (wrote e.want e.found)) word no_cell).tag ≡ Some (event_of e)) →
                ((slice_index_or (put memory (word_of e.want) (event_of e) (wrote e.want e.found)) word no_cell).tag ≡ (slice_index_or memory word no_cell).tag) ⊎
                ((slice_index_or (put memory (word_of e.want) (event_of e) (wrote e.want e.found)) word no_cell).tag ≢ a)
            at (inl s) = inl s
            at (inr s) = inr (λ q. ne (sym q ∙ s))

        sight : (word : ℕ) (b : Tag) → saw word b (step_of e) ≡ true → (slice_index_or memory word no_cell).tag ≡ b
        sight word b p =
            let (cell, found, at, tag) = saw-found word b (word_of e.want) e.found p in
            let is : cell ≡ slice_index_or memory (word_of e.want) no_cell = found_in-cell memory e.want cell (sym saw_it ∙ found) in
            ap (λ (k : ℕ). (slice_index_or memory k no_cell).tag) (sym at) ∙ ap (λ (c : Cell). c.tag) (sym is) ∙ tag

        go : (t ≡ e.thread) ⊎ (t ≡ e.thread → ⊥) → IsSettled (part t (list ++ e ∷ [])) (put memory (word_of e.want) (event_of e) (wrote e.want e.found))
        go (inr n) =
            subst (λ (steps : List Step). IsSettled steps (put memory (word_of e.want) (event_of e) (wrote e.want e.found))) (sym (part_push_other t e list n))
            (written (part t list) memory (put memory (word_of e.want) (event_of e) (wrote e.want e.found)) settled (λ i word a l p. new i word a (unread i word a (omega arith) p)))
        go (inl q) =
            let pushed : part t (list ++ e ∷ []) ≡ part t list ++ step_of e ∷ [] = subst (λ (u : ℕ). part u (list ++ e ∷ []) ≡ part u list ++ step_of e ∷ []) (sym q) (part_push e list) in
            let n = length_push (part t list) (step_of e) in
            subst (λ (steps : List Step). IsSettled steps (put memory (word_of e.want) (event_of e) (wrote e.want e.found))) (sym pushed)
            (written (part t list ++ step_of e ∷ []) memory (put memory (word_of e.want) (event_of e) (wrote e.want e.found)) (read (part t list) (step_of e) memory settled sight)
            (λ i word a l p. new i word a (unread i word a (omega arith) (before (part t list) (step_of e) memory settled sight word a i (omega arith) p))))

  settled_after : (list earlier : List WordStep) (memory last : List Cell) → IsKnown initial earlier memory → IsSettled (part t earlier) memory → Folds earlier memory list last → IsSettled (part t (earlier ++ list)) last
  settled_after [] earlier memory last known settled folds =
      subst (λ (x : List WordStep). IsSettled (part t x) last) (sym (append-nil earlier)) (subst (IsSettled (part t earlier)) folds settled)
  settled_after (e ∷ list) earlier memory last known settled folds =
      subst (λ (x : List WordStep). IsSettled (part t x) last) (append_assoc earlier (e ∷ []) list)
      (settled_after list (earlier ++ e ∷ []) (put memory (word_of e.want) (event_of e) (wrote e.want e.found)) last
      (known_next initial earlier memory e known folds.0 folds.1) (next earlier memory e known folds.0 folds.1 settled) folds.2)

  settled_end : (list : List WordStep) (last : List Cell) → Folds [] (initial_cells initial) list last → IsSettled (part t list) last
  settled_end list last folds = settled_after list [] (initial_cells initial) last (known_start initial)
      (record { gone = λ i j word a b ij jl. absurd (omega (arith, ij, jl)); away = λ i j k word a b ij jk kl. absurd (omega (arith, ij, jk, kl)) }) folds

-- two tags between which nothing differs are one
tag_cases : (a b : Tag) → (a ≢ b → ⊥) → a ≡ b
tag_cases a b denied = go (cases_Bool (same_tag a b))
  where
    go : (same_tag a b ≡ true) ⊎ (same_tag a b ≡ false) → a ≡ b
    go (inl e) = same_tag-true a b e
    go (inr e) = absurd (denied (λ q. let k : same_tag a b ≡ true = subst (λ (x : Tag). same_tag a x ≡ true) q (same_tag-same a) in cc (e, k)))

pub stay_away : (initial : List ℕ) (t : ℕ) (list : List WordStep) (last : List Cell) → Folds [] (initial_cells initial) list last → (word : ℕ) (a b : Tag) (i j k : ℕ) → i < j → j < k → k < length (part t list) →
    saw word a (nth (part t list) i) ≡ true → saw word b (nth (part t list) j) ≡ true → saw word a (nth (part t list) k) ≡ true → a ≡ b
stay_away initial t list last folds word a b i j k ij jk kl p q r = tag_cases a b (λ ne. (settled_end initial t list last folds).away i j k word a b ij jk kl p q r ne)
