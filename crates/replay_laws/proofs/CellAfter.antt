-- The cell of a word at each place of a history, and what each step found.
use Rattle.std.proofs.Common.{◌≡◌, ℕ, zero, suc, ◌<◌, ◌≤◌, List, [], ◌∷◌, length, take, refl, sym, ◌∙◌, ap, subst, arith, inl, inr, ◌⊎◌}
use Rattle.std.specs.Prelude.{slice_index_or, Option, Some, None, slice_set}
use Rattle.std.proofs.lemmas.List.{get_or-set_same, get_or-set_other}
use Rattle.std.proofs.lemmas.Bool.{cases_eq}
use Rattle.replay_model.specs.Steps.{Event, Cell, Step, word_of, wrote, no_cell, found_in, put}
use Rattle.replay_model.specs.declared.Want.{Want}
use Rattle.replay_model.specs.Threads.{Threads, StaysWithin, HasOnly}
use Rattle.replay_model.specs.Histories.{World, steps_of, step_in, next_event, move, keep_all, play, IsLegal}
use Rattle.replay_model.specs.Events.{events_of}
use Rattle.replay_model.specs.Orders.{place}
use Rattle.replay_model.specs.Fitting.{step_at, HasWritten}
use Rattle.replay_model.proofs.Moves.{move_shape}
use Rattle.replay_laws.proofs.Places.{place_head, place_next}
use Rattle.replay_laws.proofs.Advance.{step_at-next}
use Rattle.replay_laws.proofs.Sound.{IsGoing, going_move}
use Rattle.replay_laws.proofs.History.{IsLater, head_step, later_split, later_back}

-- the cell of a word after i more steps: as it was, or that of the latest write since
abbrev pub IsOld : List (List Step) → List Event → World → ℕ → ℕ → Cell → Type 0
IsOld runs all world i word cell =
    (cell ≡ slice_index_or world.memory word no_cell) × ((e : Event) (v : ℕ) → IsLater world e → HasWritten runs e word v → i ≤ place all e)

-- the latest write to the word since
pub record IsNew (runs : List (List Step)) (all : List Event) (world : World) (i word : ℕ) (cell : Cell) : Type 0 where
  pub event : Event
  pub tag : cell.tag ≡ Some event
  pub later : IsLater world event
  pub written : HasWritten runs event word cell.value
  pub done : place all event < i
  pub latest : (e : Event) (v : ℕ) → IsLater world e → HasWritten runs e word v → place all e < i → place all e ≤ place all event

module _ (threads : Threads) (initial : List ℕ) (count : ℕ) (within : StaysWithin threads (length initial)) (only : HasOnly threads count) where
  -- what the head of a history does to a word
  pub memory_next : (t : ℕ) (history : List ℕ) (world : World) → IsGoing threads initial count world → IsLegal threads (t ∷ history) world → (word : ℕ) → word < length initial →
      ((slice_index_or (move threads keep_all t world).memory word no_cell ≡ slice_index_or world.memory word no_cell) ×
      ((v : ℕ) → HasWritten (play threads (t ∷ history) world).threads (next_event t world) word v → ⊥)) ⊎
      ((v : ℕ) × (slice_index_or (move threads keep_all t world).memory word no_cell ≡ record { value = v; tag = Some (next_event t world) }) ×
      HasWritten (play threads (t ∷ history) world).threads (next_event t world) word v)
  unfolding IsLegal
  memory_next t history world g legal word wl = go (wrote w (found_in world.memory w)) refl (cases_eq word (word_of w))
    where
      w : Want
      w = threads t (steps_of world.threads t)

      runs : List (List Step)
      runs = (play threads (t ∷ history) world).threads

      here : Event
      here = next_event t world

      st : step_at runs here ≡ step_in world.memory w
      st = step_at-next runs t (length (steps_of world.threads t)) ∙ (head_step threads initial count within only t history world g legal).1

      mem : (v : Option ℕ) → wrote w (found_in world.memory w) ≡ v → (move threads keep_all t world).memory ≡ put world.memory (word_of w) here v
      mem v q = ap (λ (x : World). x.memory) (move_shape threads keep_all t world w refl legal.0) ∙ ap (put world.memory (word_of w) here) q

      go : (v : Option ℕ) → wrote w (found_in world.memory w) ≡ v → (word ≡ word_of w) ⊎ (word ≡ word_of w → ⊥) →
          ((slice_index_or (move threads keep_all t world).memory word no_cell ≡ slice_index_or world.memory word no_cell) × ((v : ℕ) → HasWritten runs here word v → ⊥)) ⊎
          ((v : ℕ) × (slice_index_or (move threads keep_all t world).memory word no_cell ≡ record { value = v; tag = Some here }) × HasWritten runs here word v)
      go None q c = inl (
        ap (λ (m : List Cell). slice_index_or m word no_cell) (mem None q),
        λ v hw.
            let x : wrote w (found_in world.memory w) ≡ Some v = ap (λ (s : Step). wrote s.want s.found) (sym st) ∙ hw.wrote in
            let no : None ≡ Some v = sym q ∙ x in cc no,
      )
      go (Some v) q (inl e) =
          let s = g.sound.sized in
          inr (
            v,
            ap (λ (m : List Cell). slice_index_or m word no_cell) (mem (Some v) q) ∙ ap (λ x. slice_index_or (slice_set world.memory (word_of w) (record { value = v; tag = Some here })) x no_cell) e ∙
                get_or-set_same world.memory (word_of w) (record { value = v; tag = Some here }) no_cell (omega arith),
            record {
              low = omega arith;
              high = (let h = (head_step threads initial count within only t history world g legal).0 in omega (arith, h));
              to = ap (λ (x : Step). word_of x.want) st ∙ sym e;
              wrote = ap (λ (x : Step). wrote x.want x.found) st ∙ q;
            },
          )
      go (Some v) q (inr n) = inl (
        ap (λ (m : List Cell). slice_index_or m word no_cell) (mem (Some v) q) ∙
            get_or-set_other world.memory (word_of w) word (record { value = v; tag = Some here }) no_cell n,
        λ v2 hw. n (sym hw.to ∙ ap (λ (x : Step). word_of x.want) st),
      )

  -- after i more steps a cell is as it was, or that of the latest write since
  pub cell_after : (history : List ℕ) (world : World) → IsGoing threads initial count world → IsLegal threads history world → (i word : ℕ) → i ≤ length history → word < length initial →
      IsOld (play threads history world).threads (events_of threads history world) world i word (slice_index_or (play threads (take i history) world).memory word no_cell) ⊎
      IsNew (play threads history world).threads (events_of threads history world) world i word (slice_index_or (play threads (take i history) world).memory word no_cell)
  unfolding play events_of IsLegal
  cell_after [] world g legal zero word il wl = inl (refl, λ e v l hw. omega arith)
  cell_after [] world g legal (suc i) word il wl = absurd (omega arith)
  cell_after (t ∷ history) world g legal zero word il wl = inl (refl, λ e v l hw. omega arith)
  cell_after (t ∷ history) world g legal (suc i) word il wl =
      go (cell_after history (move threads keep_all t world) (going_move threads initial count within only keep_all t world g) legal.1 i word (omega arith) wl)
      (memory_next t history world g legal word wl)
    where
      runs : List (List Step)
      runs = (play threads history (move threads keep_all t world)).threads

      later : List Event
      later = events_of threads history (move threads keep_all t world)

      here : Event
      here = next_event t world

      cell : Cell
      cell = slice_index_or (play threads (take i history) (move threads keep_all t world)).memory word no_cell

      head : place (here ∷ later) here ≡ 0
      head = place_head here later

      next : (e : Event) → IsLater (move threads keep_all t world) e → place (here ∷ later) e ≡ suc (place later e)
      next e l = place_next here e later (later_back threads initial count within only world g t legal.0 e l).1

      split : (e : Event) → IsLater world e → (here ≡ e) ⊎ IsLater (move threads keep_all t world) e
      split e l = later_split threads initial count within only world g t legal.0 e l

      go : IsOld runs later (move threads keep_all t world) i word cell ⊎ IsNew runs later (move threads keep_all t world) i word cell →
          ((slice_index_or (move threads keep_all t world).memory word no_cell ≡ slice_index_or world.memory word no_cell) × ((v : ℕ) → HasWritten runs here word v → ⊥)) ⊎
          ((v : ℕ) × (slice_index_or (move threads keep_all t world).memory word no_cell ≡ record { value = v; tag = Some here }) × HasWritten runs here word v) →
          IsOld runs (here ∷ later) world (suc i) word cell ⊎ IsNew runs (here ∷ later) world (suc i) word cell
      go (inl (same, none)) (inl (kept, silent)) = inl (same ∙ kept, λ e v l hw. quiet e v hw (split e l))
        where
          quiet : (e : Event) (v : ℕ) → HasWritten runs e word v → (here ≡ e) ⊎ IsLater (move threads keep_all t world) e → suc i ≤ place (here ∷ later) e
          quiet e v hw (inl q) = absurd (silent v (subst (λ (x : Event). HasWritten runs x word v) (sym q) hw))
          quiet e v hw (inr l) = let n = next e l in let m = none e v l hw in omega arith
      go (inl (same, none)) (inr (v, is, hw)) =
          let c : cell ≡ record { value = v; tag = Some here } = same ∙ is in
          inr (record {
            event = here;
            tag = ap (λ (x : Cell). x.tag) c;
            later = omega arith;
            written = subst (λ (x : ℕ). HasWritten runs here word x) (ap (λ (x : Cell). x.value) (sym c)) hw;
            done = (let h = head in omega (arith, h));
            latest = λ e v l hw d. near e v hw d (split e l);
          })
        where
          near : (e : Event) (v : ℕ) → HasWritten runs e word v → place (here ∷ later) e < suc i → (here ≡ e) ⊎ IsLater (move threads keep_all t world) e → place (here ∷ later) e ≤ place (here ∷ later) here
          near e v hw d (inl q) = let z : place (here ∷ later) here ≡ place (here ∷ later) e = ap (place (here ∷ later)) q in omega (arith, z)
          near e v hw d (inr l) = let n = next e l in let m = none e v l hw in absurd (omega (arith, n, m, d))
      go (inr new) m =
          let a = next new.event new.later in
          let b = new.done in
          inr (record {
            event = new.event;
            tag = new.tag;
            written = new.written;
            later = (later_back threads initial count within only world g t legal.0 new.event new.later).0;
            done = omega (arith, a, b);
            latest = λ e v l hw d. near e v hw d a (split e l);
          })
        where
          near : (e : Event) (v : ℕ) → HasWritten runs e word v → place (here ∷ later) e < suc i → place (here ∷ later) new.event ≡ suc (place later new.event) →
              (here ≡ e) ⊎ IsLater (move threads keep_all t world) e → place (here ∷ later) e ≤ place (here ∷ later) new.event
          near e v hw d a (inl q) = let z : place (here ∷ later) here ≡ place (here ∷ later) e = ap (place (here ∷ later)) q in let h = head in omega (arith, z, h, a)
          near e v hw d a (inr l) = let n = next e l in let m = new.latest e v l hw (omega (arith, n, d)) in omega (arith, n, m, a)

  -- a step found what stood in the memory at its place
  pub found_at : (history : List ℕ) (world : World) → IsGoing threads initial count world → IsLegal threads history world → (e : Event) → IsLater world e →
      e.step ≤ length (steps_of (play threads history world).threads e.thread) →
      (step_at (play threads history world).threads e).found ≡
      found_in (play threads (take (place (events_of threads history world) e) history) world).memory (step_at (play threads history world).threads e).want
  unfolding play events_of IsLegal
  found_at [] world g legal e later h = absurd (omega arith)
  found_at (t ∷ history) world g legal e later h =
      go (later_split threads initial count within only world g t legal.0 e later)
      (λ l. found_at history (move threads keep_all t world) (going_move threads initial count within only keep_all t world g) legal.1 e l h)
    where
      runs : List (List Step)
      runs = (play threads history (move threads keep_all t world)).threads

      rest : List Event
      rest = events_of threads history (move threads keep_all t world)

      here : Event
      here = next_event t world

      go : (here ≡ e) ⊎ IsLater (move threads keep_all t world) e →
          (IsLater (move threads keep_all t world) e → (step_at runs e).found ≡ found_in (play threads (take (place rest e) history) (move threads keep_all t world)).memory (step_at runs e).want) →
          (step_at runs e).found ≡ found_in (play threads (take (place (here ∷ rest) e) (t ∷ history)) world).memory (step_at runs e).want
      go (inl q) ih =
          let P : Event → Type 0 = λ x. (step_at runs x).found ≡ found_in (play threads (take (place (here ∷ rest) x) (t ∷ history)) world).memory (step_at runs x).want in
          let st : step_at runs here ≡ step_in world.memory (threads t (steps_of world.threads t)) =
          step_at-next runs t (length (steps_of world.threads t)) ∙ (head_step threads initial count within only t history world g legal).1 in
          let z : 0 ≡ place (here ∷ rest) here = sym (place_head here rest) in
          let a : (step_at runs here).found ≡ found_in world.memory (threads t (steps_of world.threads t)) = ap (λ (s : Step). s.found) st in
          let b : found_in world.memory (threads t (steps_of world.threads t)) ≡ found_in world.memory (step_at runs here).want = ap (λ (s : Step). found_in world.memory s.want) (sym st) in
          let c : found_in world.memory (step_at runs here).want ≡ found_in (play threads (take (place (here ∷ rest) here) (t ∷ history)) world).memory (step_at runs here).want =
          ap (λ n. found_in (play threads (take n (t ∷ history)) world).memory (step_at runs here).want) z in
          subst P q (a ∙ b ∙ c)
      go (inr l) ih =
          let z : suc (place rest e) ≡ place (here ∷ rest) e = sym (place_next here e rest (later_back threads initial count within only world g t legal.0 e l).1) in
          ih l ∙ ap (λ n. found_in (play threads (take n (t ∷ history)) world).memory (step_at runs e).want) z
