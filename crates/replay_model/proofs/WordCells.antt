-- The cells of a list of steps at the words: each was there from the start or was written by one step of the list, so a tag on a word names one value.
use Rattle.std.proofs.Common.{◌≡◌, ℕ, ◌+◌, ◌<◌, ◌≤◌, List, [], ◌∷◌, ◌++◌, length, refl, sym, ◌∙◌, ap, subst, arith, inl, inr, ◌⊎◌}
use Rattle.std.specs.Prelude.{Contains, Option, Some, None, slice_index_or, slice_set}
use Rattle.std.proofs.lemmas.List.{length-set, length-map, length_push, get_or-map, get_or-set_same, get_or-set_other, get_or_past, append_assoc, append-nil}
use Rattle.std.proofs.lemmas.List.Elements.{Contains-push, Contains-push_cases, Contains-append_left}
use Rattle.std.proofs.lemmas.Bool.{cases_eq, cases_lt}
use Rattle.replay_model.specs.Steps.{Event, Cell, word_of, wrote, no_cell, found_in, put, initial_cells}
use Rattle.replay_model.specs.WordSteps.{WordStep, event_of, part, Folds}
use Rattle.replay_model.proofs.Moves.{found_in-cell}
use Rattle.replay_model.proofs.WordSteps.{part_push, part_push_other}

-- the cell is the initial one of the word, or a step of the list wrote it
abbrev pub IsFromList : List ℕ → List WordStep → ℕ → Cell → Type 0
IsFromList initial list word cell =
    ((cell.tag ≡ None) × (cell.value ≡ slice_index_or initial word 0)) ⊎
    ((e : WordStep) × Contains list e × (cell.tag ≡ Some (event_of e)) × (word_of e.want ≡ word) × (wrote e.want e.found ≡ Some cell.value))

-- what is known of a list and the memory to which it leads
pub record IsKnown (initial : List ℕ) (list : List WordStep) (memory : List Cell) : Type 0 where
  pub sized : length memory ≡ length initial
  pub numbered : (e : WordStep) → Contains list e → (1 ≤ e.number) × (e.number ≤ length (part e.thread list))
  pub once : (e x : WordStep) → Contains list e → Contains list x → event_of e ≡ event_of x → e ≡ x
  pub cells : (word : ℕ) → IsFromList initial list word (slice_index_or memory word no_cell)
  pub found : (e : WordStep) (cell : Cell) → Contains list e → e.found ≡ Some cell → IsFromList initial list (word_of e.want) cell

-- at the start nothing was written
pub known_start : (initial : List ℕ) → IsKnown initial [] (initial_cells initial)
known_start initial = record {
  sized = length-map initial _;
  numbered = λ e c. let (k, l, h) = c in absurd (omega (arith, l));
  once = λ e x c d q. let (k, l, h) = c in absurd (omega (arith, l));
  cells = λ word. go word (cases_lt word (length initial));
  found = λ e cell c q. let (k, l, h) = c in absurd (omega (arith, l));
}
  where
    go : (word : ℕ) → (word < length initial) ⊎ (length initial ≤ word) → IsFromList initial [] word (slice_index_or (initial_cells initial) word no_cell)
    go word (inl l) = subst (IsFromList initial [] word) (sym (get_or-map (λ (value : ℕ). record { value = value; tag = None }) initial word 0 no_cell l)) (inl (refl, refl))
    go word (inr p) =
        let n : length (initial_cells initial) ≡ length initial = length-map initial _ in
        let q : length (initial_cells initial) ≤ word = omega (arith, n, p) in
        subst (IsFromList initial [] word) (sym (get_or_past (initial_cells initial) word no_cell q)) (inl (refl, sym (get_or_past initial word 0 p)))

module _ (initial : List ℕ) (list : List WordStep) (memory : List Cell) (e : WordStep) (known : IsKnown initial list memory)
    (number : e.number ≡ length (part e.thread list) + 1) (saw : e.found ≡ found_in memory e.want) where
  more : (word : ℕ) (cell : Cell) → IsFromList initial list word cell → IsFromList initial (list ++ e ∷ []) word cell
  more word cell (inl p) = inl p
  more word cell (inr (x, c, q, w, v)) = inr (x, Contains-append_left list (e ∷ []) x c, q, w, v)

  longer : (t : ℕ) → length (part t list) ≤ length (part t (list ++ e ∷ []))
  longer t = go (cases_eq t e.thread)
    where
      go : (t ≡ e.thread) ⊎ (t ≡ e.thread → ⊥) → length (part t list) ≤ length (part t (list ++ e ∷ []))
      go (inl q) =
          let P : ℕ → Type 0 = λ u. length (part u list) ≤ length (part u (list ++ e ∷ [])) in
          let h = ap length (part_push e list) in
          let n = length_push (part e.thread list) (record { want = e.want; found = e.found }) in
          subst P (sym q) (omega (arith, h, n))
      go (inr n) = let h = ap length (part_push_other t e list n) in omega (arith, h)

  own : length (part e.thread (list ++ e ∷ [])) ≡ e.number
  own = ap length (part_push e list) ∙ length_push (part e.thread list) (record { want = e.want; found = e.found }) ∙ sym number

  old_apart : (x : WordStep) → Contains list x → event_of x ≡ event_of e → ⊥
  old_apart x c q =
      let t : x.thread ≡ e.thread = ap (λ (a : Event). a.thread) q in
      let n : x.number ≡ e.number = ap (λ (a : Event). a.step) q in
      let k = (known.numbered x c).1 in
      let m : x.number ≤ length (part e.thread list) = subst (λ (u : ℕ). x.number ≤ length (part u list)) t k in
      omega (arith, number, n, m)

  numbered_next : (x : WordStep) → Contains (list ++ e ∷ []) x → (1 ≤ x.number) × (x.number ≤ length (part x.thread (list ++ e ∷ [])))
  numbered_next x c = go (Contains-push_cases list e x c)
    where
      go : Contains list x ⊎ (e ≡ x) → (1 ≤ x.number) × (x.number ≤ length (part x.thread (list ++ e ∷ [])))
      go (inl d) = let (a, b) = known.numbered x d in let l = longer x.thread in (a, omega arith)
      go (inr q) =
          let P : WordStep → Type 0 = λ y. (1 ≤ y.number) × (y.number ≤ length (part y.thread (list ++ e ∷ []))) in
          let o = own in subst P q (omega (arith, number), omega (arith, o))

  once_next : (x y : WordStep) → Contains (list ++ e ∷ []) x → Contains (list ++ e ∷ []) y → event_of x ≡ event_of y → x ≡ y
  once_next x y c d q = go (Contains-push_cases list e x c) (Contains-push_cases list e y d)
    where
      go : Contains list x ⊎ (e ≡ x) → Contains list y ⊎ (e ≡ y) → x ≡ y
      go (inl a) (inl b) = known.once x y a b q
      go (inl a) (inr b) = absurd (old_apart x a (q ∙ ap event_of (sym b)))
      go (inr a) (inl b) = absurd (old_apart y b (sym q ∙ ap event_of (sym a)))
      go (inr a) (inr b) = sym a ∙ b

  found_next : (x : WordStep) (cell : Cell) → Contains (list ++ e ∷ []) x → x.found ≡ Some cell → IsFromList initial (list ++ e ∷ []) (word_of x.want) cell
  found_next x cell c q = go (Contains-push_cases list e x c)
    where
      go : Contains list x ⊎ (e ≡ x) → IsFromList initial (list ++ e ∷ []) (word_of x.want) cell
      go (inl d) = more (word_of x.want) cell (known.found x cell d q)
      go (inr s) =
          let f : found_in memory e.want ≡ Some cell = sym saw ∙ ap (λ (y : WordStep). y.found) s ∙ q in
          let is : cell ≡ slice_index_or memory (word_of e.want) no_cell = found_in-cell memory e.want cell f in
          let g : IsFromList initial (list ++ e ∷ []) (word_of e.want) cell = subst (IsFromList initial (list ++ e ∷ []) (word_of e.want)) (sym is) (more (word_of e.want) _ (known.cells (word_of e.want))) in
          subst (λ (y : WordStep). IsFromList initial (list ++ e ∷ []) (word_of y.want) cell) s g

  cells_next : (v : Option ℕ) → wrote e.want e.found ≡ v → (word : ℕ) →
      IsFromList initial (list ++ e ∷ []) word (slice_index_or (put memory (word_of e.want) (event_of e) v) word no_cell)
  cells_next None q word = more word _ (known.cells word)
  cells_next (Some v) q word = go (cases_eq word (word_of e.want)) (cases_lt word (length memory))
    where
      new : Cell
      new = record { value = v; tag = Some (event_of e) }

      go : (word ≡ word_of e.want) ⊎ (word ≡ word_of e.want → ⊥) → (word < length memory) ⊎ (length memory ≤ word) →
          IsFromList initial (list ++ e ∷ []) word (slice_index_or (slice_set memory (word_of e.want) (record { value = v; tag = Some (event_of e) })) word no_cell)
      go (inr n) c = subst (IsFromList initial (list ++ e ∷ []) word) (sym (get_or-set_other memory (word_of e.want) word new no_cell n)) (more word _ (known.cells word))
      go (inl s) (inl l) =
          let g : slice_index_or (slice_set memory (word_of e.want) new) word no_cell ≡ new =
          ap (λ w. slice_index_or (slice_set memory (word_of e.want) new) w no_cell) s ∙ get_or-set_same memory (word_of e.want) new no_cell (omega arith) in
          subst (IsFromList initial (list ++ e ∷ []) word) (sym g) (inr (e, Contains-push list e, refl, sym s, q))
      go (inl s) (inr p) =
          let z = known.sized in
          let n = length-set memory (word_of e.want) new in
          let l : length (slice_set memory (word_of e.want) new) ≤ word = omega (arith, n, p) in
          let i : length initial ≤ word = omega (arith, z, p) in
          subst (IsFromList initial (list ++ e ∷ []) word) (sym (get_or_past (slice_set memory (word_of e.want) new) word no_cell l)) (inl (refl, sym (get_or_past initial word 0 i)))

  sized_next : (v : Option ℕ) → length (put memory (word_of e.want) (event_of e) v) ≡ length initial
  sized_next None = known.sized
  sized_next (Some v) = length-set memory (word_of e.want) _ ∙ known.sized

  -- one more step keeps it
  pub known_next : IsKnown initial (list ++ e ∷ []) (put memory (word_of e.want) (event_of e) (wrote e.want e.found))
  known_next = record {
    sized = sized_next (wrote e.want e.found);
    numbered = numbered_next;
    once = once_next;
    cells = cells_next (wrote e.want e.found) refl;
    found = found_next;
  }

-- and so does a whole list
pub known_after : (initial : List ℕ) (list earlier : List WordStep) (memory last : List Cell) → IsKnown initial earlier memory → Folds earlier memory list last → IsKnown initial (earlier ++ list) last
known_after initial [] earlier memory last known folds = subst (λ (x : List WordStep). IsKnown initial x last) (sym (append-nil earlier)) (subst (IsKnown initial earlier) folds known)
known_after initial (e ∷ list) earlier memory last known folds =
    subst (λ (x : List WordStep). IsKnown initial x last) (append_assoc earlier (e ∷ []) list)
    (known_after initial list (earlier ++ e ∷ []) (put memory (word_of e.want) (event_of e) (wrote e.want e.found)) last
    (known_next initial earlier memory e known folds.0 folds.1) folds.2)

-- what is known of any list that begins with the initial values
pub known_end : (initial : List ℕ) (list : List WordStep) (last : List Cell) → Folds [] (initial_cells initial) list last → IsKnown initial list last
known_end initial list last folds = known_after initial list [] (initial_cells initial) last (known_start initial) folds

-- two cells of one word with one tag are one
pub one_cell : (initial : List ℕ) (list : List WordStep) (memory : List Cell) → IsKnown initial list memory → (word : ℕ) (a b : Cell) →
    IsFromList initial list word a → IsFromList initial list word b → a.tag ≡ b.tag → a ≡ b
one_cell initial list memory known word a b (inl (at, av)) (inl (bt, bv)) q = let v : a.value ≡ b.value = av ∙ sym bv in λ j. record { value = v j; tag = q j }
one_cell initial list memory known word a b (inl (at, av)) (inr (x, c, t, w, v)) q = absurd (let no : None ≡ Some (event_of x) = sym at ∙ q ∙ t in cc no)
one_cell initial list memory known word a b (inr (x, c, t, w, v)) (inl (bt, bv)) q = absurd (let no : None ≡ Some (event_of x) = sym bt ∙ sym q ∙ t in cc no)
one_cell initial list memory known word a b (inr (x, c, t, w, v)) (inr (y, d, s, u, z)) q =
    let e : event_of x ≡ event_of y = let y1 : Some (event_of x) ≡ Some (event_of y) = sym t ∙ q ∙ s in cc y1 in
    let same : x ≡ y = known.once x y c d e in
    let o : Some a.value ≡ Some b.value = sym v ∙ ap (λ (k : WordStep). wrote k.want k.found) same ∙ z in
    let value : a.value ≡ b.value = cc o in
    λ j. record { value = value j; tag = q j }

-- a tag in a word is that of a step of the list
pub tag_of_step : (initial : List ℕ) (list : List WordStep) (memory : List Cell) → IsKnown initial list memory → (word : ℕ) (event : Event) →
    (slice_index_or memory word no_cell).tag ≡ Some event → (1 ≤ event.step) × (event.step ≤ length (part event.thread list))
tag_of_step initial list memory known word event q = go (known.cells word)
  where
    go : IsFromList initial list word (slice_index_or memory word no_cell) → (1 ≤ event.step) × (event.step ≤ length (part event.thread list))
    go (inl (t, v)) = absurd (let no : None ≡ Some event = sym t ∙ q in cc no)
    go (inr (x, c, t, w, v)) =
        let e : event_of x ≡ event = let y : Some (event_of x) ≡ Some event = sym t ∙ q in cc y in
        let P : Event → Type 0 = λ a. (1 ≤ a.step) × (a.step ≤ length (part a.thread list)) in
        subst P e (known.numbered x c)
