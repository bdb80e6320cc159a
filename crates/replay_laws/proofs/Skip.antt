-- The state of a play by an order, in which some writes may be left out, and why each read finds what its run found.
use Rattle.std.proofs.Common.{◌≡◌, ℕ, ◌+◌, ◌<◌, ◌≤◌, List, length, take, sym, ◌∙◌, ap, subst, arith, inl, inr, ◌⊎◌}
use Rattle.std.specs.Prelude.{◌≢◌, slice_index_or, Bool, true, Contains, Some, None}
use Rattle.replay_model.specs.Steps.{Event, Cell, Step, word_of, no_cell}
use Rattle.replay_model.specs.Threads.{no_step}
use Rattle.replay_model.specs.Histories.{World, steps_of}
use Rattle.replay_model.specs.declared.Entry.{Entry}
use Rattle.replay_model.specs.Logs.{Log, HasEntry, last_tag, first_event, last_event}
use Rattle.replay_model.specs.Orders.{place}
use Rattle.replay_model.specs.Fitting.{HasWritten, IsGrounded}
use Rattle.replay_model.proofs.Tags.{event_cases}
use Rattle.replay_laws.proofs.Places.{IsOnce}

-- what a log tells of the runs that fit it, and all that the induction uses of them
pub record Told (initial : List ℕ) (log : Log) (runs : List (List Step)) : Type 0 where
  pub grounded : (t k : ℕ) (cell : Cell) → k < length (steps_of runs t) →
      (slice_index_or (steps_of runs t) k no_step).found ≡ Some cell →
      IsGrounded initial runs (word_of (slice_index_or (steps_of runs t) k no_step).want) cell
  pub covered : (t k : ℕ) (cell : Cell) → k < length (steps_of runs t) →
      (slice_index_or (steps_of runs t) k no_step).found ≡ Some cell →
      (entry : Entry) × HasEntry log t entry × (entry.word ≡ word_of (slice_index_or (steps_of runs t) k no_step).want) ×
      (entry.source ≡ cell.tag) × (entry.first ≤ k + 1) × (k + 1 ≤ entry.last)
  pub inside : (t : ℕ) (entry : Entry) → HasEntry log t entry → (1 ≤ entry.first) × (entry.first ≤ entry.last) × (entry.last ≤ length (steps_of runs t))
  pub sources : (t : ℕ) (entry : Entry) (event : Event) → HasEntry log t entry → entry.source ≡ Some event → (value : ℕ) × HasWritten runs event entry.word value
  pub last_tags : (event : Event) → Contains log.last_tags (Some event) →
      (word value : ℕ) × (word < length initial) × (last_tag log word ≡ Some event) × HasWritten runs event word value

-- the event stands outside the reads of the entry: no earlier than the last of them, or before their source
abbrev pub IsOutside : List Event → ℕ → Entry → Event → Type 0
IsOutside order t a e = (place order (last_event t a) ≤ place order e) ⊎ ((s : Event) × (a.source ≡ Some s) × (place order e < place order s))

-- no write to the word is made, and its last tag is initial; or that is the tag of the latest write that is made
abbrev pub HasLastTag : (Event → Bool) → Log → List (List Step) → List Event → ℕ → Type 0
HasLastTag keep log runs order word =
    ((last_tag log word ≡ None) × ((e : Event) (v : ℕ) → keep e ≡ true → HasWritten runs e word v → ⊥)) ⊎
    ((z : Event) × (v : ℕ) × (last_tag log word ≡ Some z) × (keep z ≡ true) × HasWritten runs z word v ×
    ((e : Event) (v : ℕ) → keep e ≡ true → HasWritten runs e word v → place order e ≤ place order z))

-- what an order must have for a play by it to give each read what its run found, and each word its last tag. `keep` says which writes are made
pub record Serves (size : ℕ) (keep : Event → Bool) (log : Log) (runs : List (List Step)) (order : List Event) : Type 0 where
  pub once : IsOnce order
  pub inside : (e : Event) → Contains order e → (1 ≤ e.step) × (e.step ≤ length (steps_of runs e.thread))
  pub rising : (a b : Event) → Contains order a → Contains order b → a.thread ≡ b.thread → a.step < b.step → place order a < place order b
  pub made : (e : Event) (word v : ℕ) → keep e ≡ true → HasWritten runs e word v → Contains order e
  pub firsts : (t : ℕ) (a : Entry) → HasEntry log t a → Contains order (first_event t a)
  pub last_reads : (t : ℕ) (a : Entry) → HasEntry log t a → Contains order (last_event t a)
  pub sources : (t : ℕ) (a : Entry) (s : Event) → HasEntry log t a → a.source ≡ Some s → (keep s ≡ true) × (place order s < place order (first_event t a))
  pub others : (t : ℕ) (a : Entry) (e : Event) (v : ℕ) → HasEntry log t a → keep e ≡ true → HasWritten runs e a.word v → a.source ≢ Some e →
      IsOutside order t a e
  pub last_tags : (word : ℕ) → word < size → HasLastTag keep log runs order word

-- the word's cell after the events before place i
pub record IsFresh (keep : Event → Bool) (runs : List (List Step)) (order : List Event) (i word : ℕ) (first : ℕ) (cell : Cell) : Type 0 where
  pub tag : cell.tag ≡ None
  pub value : cell.value ≡ first
  pub none : (e : Event) (v : ℕ) → keep e ≡ true → HasWritten runs e word v → i ≤ place order e

-- a write that is made, done, and no later one is done
pub record IsFrom (keep : Event → Bool) (runs : List (List Step)) (order : List Event) (i word : ℕ) (cell : Cell) : Type 0 where
  pub event : Event
  pub tag : cell.tag ≡ Some event
  pub kept : keep event ≡ true
  pub written : HasWritten runs event word cell.value
  pub done : place order event < i
  pub latest : (e : Event) (v : ℕ) → keep e ≡ true → HasWritten runs e word v → place order e < i → place order e ≤ place order event

-- one of the two
abbrev pub IsLatest : List ℕ → (Event → Bool) → List (List Step) → List Event → ℕ → ℕ → Cell → Type 0
IsLatest initial keep runs order i word cell = IsFresh keep runs order i word (slice_index_or initial word 0) cell ⊎ IsFrom keep runs order i word cell

-- the state when the events before place i are done
pub record Inv (initial : List ℕ) (keep : Event → Bool) (runs : List (List Step)) (order : List Event) (i : ℕ) (world : World) : Type 0 where
  pub sized : length world.memory ≡ length initial
  pub counted : length world.threads ≡ length runs
  pub short : (t : ℕ) → length (steps_of world.threads t) ≤ length (steps_of runs t)
  pub prefix : (t : ℕ) → steps_of world.threads t ≡ take (length (steps_of world.threads t)) (steps_of runs t)
  pub done : (e : Event) → Contains order e → place order e < i → e.step ≤ length (steps_of world.threads e.thread)
  pub todo : (e : Event) → Contains order e → i ≤ place order e → length (steps_of world.threads e.thread) < e.step
  pub memory : (word : ℕ) → word < length initial → IsLatest initial keep runs order i word (slice_index_or world.memory word no_cell)

-- one step writes one value
pub same_value : (runs : List (List Step)) (e : Event) (word v w : ℕ) → HasWritten runs e word v → HasWritten runs e word w → v ≡ w
same_value runs e word v w a b = let p = a.wrote in let q = b.wrote in cc

-- to one word
pub same_word : (runs : List (List Step)) (e : Event) (x y v w : ℕ) → HasWritten runs e x v → HasWritten runs e y w → x ≡ y
same_word runs e x y v w a b = let p = a.to in let q = b.to in cc

module _ (initial : List ℕ) (keep : Event → Bool) (log : Log) (runs : List (List Step)) (order : List Event)
    (serves : Serves (length initial) keep log runs order) where
  -- where the entry a of a word is not yet past its last step, and e is another made write to the word that is done, e comes before the source of a
  pub other_first : (t : ℕ) (a : Entry) (i : ℕ) → HasEntry log t a → i ≤ place order (last_event t a) →
      (e : Event) (v : ℕ) → keep e ≡ true → HasWritten runs e a.word v → place order e < i → a.source ≢ Some e →
      (s : Event) × (a.source ≡ Some s) × (place order e < place order s)
  other_first t a i ha la e v k w d ne = go (serves.others t a e v ha k w ne)
    where
      go : IsOutside order t a e →
          (s : Event) × (a.source ≡ Some s) × (place order e < place order s)
      go (inl l) = absurd (omega arith)
      go (inr later) = later

  -- a reading step finds what its run found: the word's latest write is the entry's source
  pub found_right : (i : ℕ) (word : ℕ) (here found : Cell) (t : ℕ) (a : Entry) → HasEntry log t a → a.word ≡ word → a.source ≡ found.tag →
      i ≤ place order (last_event t a) → place order (first_event t a) ≤ i →
      IsGrounded initial runs word found → IsLatest initial keep runs order i word here → here ≡ found
  found_right i word here found t a ha aw hs la fa (inl (ft, fv)) (inl fresh) =
      let p : here.tag ≡ found.tag = fresh.tag ∙ sym ft in
      let q : here.value ≡ found.value = fresh.value ∙ sym fv in
      λ j. record { tag = p j; value = q j }
  found_right i word here found t a ha aw hs la fa (inl (ft, fv)) (inr from) =
      let hw : HasWritten runs from.event a.word here.value = subst (λ (x : ℕ). HasWritten runs from.event x here.value) (sym aw) from.written in
      let (s, q, l) = other_first t a i ha la from.event here.value from.kept hw from.done (λ z. let y : None ≡ Some from.event = sym ft ∙ sym hs ∙ z in cc y) in
      let y : None ≡ Some s = sym ft ∙ sym hs ∙ q in cc y
  found_right i word here found t a ha aw hs la fa (inr (s, ft, fw)) (inl fresh) =
      let (k, m) = serves.sources t a s ha (hs ∙ ft) in
      let l = fresh.none s found.value k fw in
      absurd (omega arith)
  found_right i word here found t a ha aw hs la fa (inr (s, ft, fw)) (inr from) = go (event_cases from.event s)
    where
      go : (from.event ≡ s) ⊎ (from.event ≢ s) → here ≡ found
      go (inl e) =
          let p : here.tag ≡ found.tag = from.tag ∙ ap Some e ∙ sym ft in
          let w2 : HasWritten runs s word here.value = subst (λ (x : Event). HasWritten runs x word here.value) e from.written in
          let q : here.value ≡ found.value = same_value runs s word here.value found.value w2 fw in
          λ j. record { tag = p j; value = q j }
      go (inr ne) =
          let hw : HasWritten runs from.event a.word here.value = subst (λ (x : ℕ). HasWritten runs from.event x here.value) (sym aw) from.written in
          let (r, q, l) = other_first t a i ha la from.event here.value from.kept hw from.done (λ z. let y : Some s ≡ Some from.event = sym ft ∙ sym hs ∙ z in ne (cc y)) in
          let rs : r ≡ s = let y : Some r ≡ Some s = sym q ∙ hs ∙ ft in cc y in
          let l2 : place order from.event < place order s = subst (λ (x : Event). place order from.event < place order x) rs l in
          let (k, m) = serves.sources t a s ha (hs ∙ ft) in
          let n = from.latest s found.value k fw (omega arith) in
          absurd (omega arith)
