-- Runs put into one order, in which each read sees the latest write before it. A history gives one.
use Rattle.std.proofs.Common.{◌≡◌, ℕ, suc, ◌-◌, ◌<◌, ◌≤◌, true, List, [], ◌∷◌, length, take, refl, sym, ◌∙◌, ap, subst, arith, inl, inr, ◌⊎◌}
use Rattle.std.specs.Prelude.{slice_index_or, Contains, Some, None}
use Rattle.std.proofs.lemmas.List.{take_all, get_or-map}
use Rattle.replay_model.specs.Steps.{Event, Tag, Cell, Step, word_of, no_cell, has_ended, initial_cells}
use Rattle.replay_model.specs.declared.Want.{Want}
use Rattle.replay_model.specs.Threads.{Threads, StaysWithin, HasOnly}
use Rattle.replay_model.specs.Histories.{World, steps_of, opening, move, keep_all, play, IsLegal}
use Rattle.replay_model.specs.ThreadLogs.{saw}
use Rattle.replay_model.specs.RunLogs.{last_tags}
use Rattle.replay_model.specs.Events.{events_of}
use Rattle.replay_model.specs.Orders.{place}
use Rattle.replay_model.specs.Fitting.{step_at, HasWritten}
use Rattle.replay_model.specs.WholeHistories.{played}
use Rattle.replay_model.proofs.Moves.{opening_steps, found_in-cell}
use Rattle.replay_model.proofs.ThreadLogs.{saw-found}
use Rattle.replay_laws.proofs.Places.{IsOnce}
use Rattle.replay_laws.proofs.Sound.{IsGoing, going_play, going_opening}
use Rattle.replay_laws.proofs.History.{IsLater, events-place, events-later, events-rising, events-once}
use Rattle.replay_laws.proofs.CellAfter.{IsOld, IsNew, cell_after, found_at}

-- whose write stands in a word at a place: nobody has written before, or this event is the latest that has
abbrev pub IsSourceAt : List (List Step) → List Event → ℕ → ℕ → Tag → Type 0
IsSourceAt runs all i word tag =
    ((tag ≡ None) × ((e : Event) (v : ℕ) → HasWritten runs e word v → i ≤ place all e)) ⊎
    ((s : Event) × (v : ℕ) × (tag ≡ Some s) × HasWritten runs s word v × (place all s < i) × ((e : Event) (v : ℕ) → HasWritten runs e word v → place all e < i → place all e ≤ place all s))

-- each step of the runs stands once in the order, those of a thread by rising number; each read saw the latest write; the last tags are those of the latest writes
pub record IsLinear (size : ℕ) (runs : List (List Step)) (all : List Event) (last_tags : List Tag) : Type 0 where
  pub placed : (e : Event) → 1 ≤ e.step → e.step ≤ length (steps_of runs e.thread) → place all e < length all
  pub taken : (e : Event) → Contains all e → (1 ≤ e.step) × (e.step ≤ length (steps_of runs e.thread))
  pub once : IsOnce all
  pub rising : (a b : Event) → 1 ≤ a.step → b.step ≤ length (steps_of runs b.thread) → a.thread ≡ b.thread → a.step < b.step → place all a < place all b
  pub read : (e : Event) (word : ℕ) (tag : Tag) → 1 ≤ e.step → e.step ≤ length (steps_of runs e.thread) → saw word tag (step_at runs e) ≡ true →
      (word < size) × IsSourceAt runs all (place all e) word tag
  pub final : (word : ℕ) → word < size → IsSourceAt runs all (length all) word (slice_index_or last_tags word None)

-- a history has as many events as steps
pub events_of-length : (threads : Threads) (history : List ℕ) (world : World) → length (events_of threads history world) ≡ length history
unfolding events_of
events_of-length threads [] world = refl
events_of-length threads (t ∷ history) world = ap suc (events_of-length threads history (move threads keep_all t world))

module _ (threads : Threads) (initial : List ℕ) (count : ℕ) (history : List ℕ) (within : StaysWithin threads (length initial)) (only : HasOnly threads count)
    (legal : IsLegal threads history (opening initial count)) where
  start : IsGoing threads initial count (opening initial count)
  start = going_opening threads initial count within only

  -- a play from the opening state is sound
  pub going : IsGoing threads initial count (played threads initial count history)
  going = going_play threads initial count within only history (opening initial count) start

  all_later : (e : Event) → 1 ≤ e.step → IsLater (opening initial count) e
  all_later e l = let q = ap length (opening_steps count e.thread) in omega (arith, q)

  opening_tag : (word : ℕ) → word < length initial → (slice_index_or (initial_cells initial) word no_cell).tag ≡ None
  opening_tag word w = ap (λ (c : Cell). c.tag) (get_or-map (λ (value : ℕ). record { value = value; tag = None }) initial word 0 no_cell w)

  -- the cell of each word at each place
  source_at : (i word : ℕ) → i ≤ length history → word < length initial → (tag : Tag) →
      (slice_index_or (play threads (take i history) (opening initial count)).memory word no_cell).tag ≡ tag →
      IsSourceAt (played threads initial count history).threads (events_of threads history (opening initial count)) i word tag
  source_at i word il wl tag is = go (cell_after threads initial count within only history (opening initial count) start legal i word il wl)
    where
      go : IsOld (played threads initial count history).threads (events_of threads history (opening initial count)) (opening initial count) i word (slice_index_or (play threads (take i history) (opening initial count)).memory word no_cell) ⊎
          IsNew (played threads initial count history).threads (events_of threads history (opening initial count)) (opening initial count) i word (slice_index_or (play threads (take i history) (opening initial count)).memory word no_cell) →
          IsSourceAt (played threads initial count history).threads (events_of threads history (opening initial count)) i word tag
      go (inl (same, none)) = inl (sym is ∙ ap (λ (c : Cell). c.tag) same ∙ opening_tag word wl, λ e v hw. none e v (all_later e hw.low) hw)
      go (inr new) = inr (new.event, _, sym is ∙ new.tag, new.written, new.done, λ e v hw d. new.latest e v (all_later e hw.low) hw d)

  step_word : (e : Event) → 1 ≤ e.step → e.step ≤ length (steps_of (played threads initial count history).threads e.thread) →
      word_of (step_at (played threads initial count history).threads e).want < length initial
  step_word e lo hi =
      let s = going.sound.steps e.thread (e.step - 1) (omega arith) in
      subst (λ (x : Want). word_of x < length initial) s.wants (within e.thread (take (e.step - 1) (steps_of (played threads initial count history).threads e.thread)) (ap has_ended s.wants ∙ s.lives))

  event_placed : (e : Event) → 1 ≤ e.step → e.step ≤ length (steps_of (played threads initial count history).threads e.thread) →
      place (events_of threads history (opening initial count)) e < length (events_of threads history (opening initial count))
  event_placed e lo hi = events-place threads initial count within only history (opening initial count) start legal e (all_later e lo) hi

  -- what a reading step found, by the places
  read_at : (e : Event) (word : ℕ) (tag : Tag) → 1 ≤ e.step → e.step ≤ length (steps_of (played threads initial count history).threads e.thread) →
      saw word tag (step_at (played threads initial count history).threads e) ≡ true →
      (word < length initial) × IsSourceAt (played threads initial count history).threads (events_of threads history (opening initial count)) (place (events_of threads history (opening initial count)) e) word tag
  read_at e word tag lo hi s =
      let (cell, fq, wq, tq) = saw-found word tag (word_of (step_at (played threads initial count history).threads e).want) (step_at (played threads initial count history).threads e).found s in
      let wl : word < length initial = subst (λ (x : ℕ). x < length initial) wq (step_word e lo hi) in
      let p = event_placed e lo hi in
      let f = found_at threads initial count within only history (opening initial count) start legal e (all_later e lo) hi in
      let c = found_in-cell (play threads (take (place (events_of threads history (opening initial count)) e) history) (opening initial count)).memory
      (step_at (played threads initial count history).threads e).want cell (sym f ∙ fq) in
      let n = events_of-length threads history (opening initial count) in
      let t : (slice_index_or (play threads (take (place (events_of threads history (opening initial count)) e) history) (opening initial count)).memory word no_cell).tag ≡ tag =
      ap (λ w. (slice_index_or (play threads (take (place (events_of threads history (opening initial count)) e) history) (opening initial count)).memory w no_cell).tag) (sym wq) ∙
      ap (λ (x : Cell). x.tag) (sym c) ∙ tq in
      (wl, source_at (place (events_of threads history (opening initial count)) e) word (omega arith) wl tag t)

  final_at : (word : ℕ) → word < length initial →
      IsSourceAt (played threads initial count history).threads (events_of threads history (opening initial count)) (length (events_of threads history (opening initial count))) word
      (slice_index_or (last_tags (played threads initial count history).memory) word None)
  final_at word w =
      let n = events_of-length threads history (opening initial count) in
      let P : ℕ → Type 0 = λ i. IsSourceAt (played threads initial count history).threads (events_of threads history (opening initial count)) i word
      (slice_index_or (last_tags (played threads initial count history).memory) word None) in
      subst P (sym n) (source_at (length history) word (omega arith) w (slice_index_or (last_tags (played threads initial count history).memory) word None)
      (ap (λ (h : List ℕ). (slice_index_or (play threads h (opening initial count)).memory word no_cell).tag) (take_all (length history) history (omega arith)) ∙
      sym (get_or-map (λ (cell : Cell). cell.tag) (played threads initial count history).memory word no_cell None (let s = going.sound.sized in omega (arith, s, w)))))

  -- a legal history puts its runs into one order
  pub history_linear : IsLinear (length initial) (played threads initial count history).threads (events_of threads history (opening initial count)) (last_tags (played threads initial count history).memory)
  history_linear = record {
    placed = λ e lo hi. event_placed e lo hi;
    taken = λ e c. let (a, b) = events-later threads initial count within only history (opening initial count) start legal e c in (omega arith, b);
    once = events-once threads initial count within only history (opening initial count) start legal;
    rising = λ a b la hb t s. events-rising threads initial count within only history (opening initial count) start legal a b (all_later a la) (all_later b (omega arith)) hb t s;
    read = λ e word tag lo hi s. read_at e word tag lo hi s;
    final = λ word w. final_at word w;
  }
