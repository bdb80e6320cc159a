-- The events of a history, and the places at which they stand.
use Rattle.std.proofs.Common.{◌≡◌, ℕ, zero, suc, ◌+◌, ◌<◌, ◌≤◌, true, false, List, [], ◌∷◌, ◌++◌, length, refl, sym, ◌∙◌, ap, subst, arith, inl, inr, ◌⊎◌}
use Rattle.std.specs.Prelude.{◌≢◌, slice_index_or, Contains}
use Rattle.std.proofs.lemmas.List.{get_or_append_left, get_or_push, length_push, get_or_default}
use Rattle.std.proofs.lemmas.Bool.{cases_eq, cases_lt}
use Rattle.replay_model.specs.Steps.{Event, Step, has_ended}
use Rattle.replay_model.specs.Threads.{Threads, StaysWithin, HasOnly, no_step}
use Rattle.replay_model.specs.Histories.{World, steps_of, step_in, next_event, move, keep_all, play, IsLegal}
use Rattle.replay_model.specs.Events.{events_of}
use Rattle.replay_model.specs.Orders.{place}
use Rattle.replay_model.proofs.Moves.{set_here, move_shape, move_there}
use Rattle.replay_laws.proofs.Places.{IsOnce, place_head, place_next}
use Rattle.replay_laws.proofs.NextSteps.{run_step}
use Rattle.replay_laws.proofs.Sound.{IsGoing, going_move}

-- the event is still to come
abbrev pub IsLater : World → Event → Type 0
IsLater world e = length (steps_of world.threads e.thread) < e.step

module _ (threads : Threads) (initial : List ℕ) (count : ℕ) (within : StaysWithin threads (length initial)) (only : HasOnly threads count) where
  -- who wants a step is one of the threads
  pub is_thread : (world : World) → IsGoing threads initial count world → (t : ℕ) → has_ended (threads t (steps_of world.threads t)) ≡ false → t < length world.threads
  is_thread world g t e = go (cases_lt t count)
    where
      go : (t < count) ⊎ (count ≤ t) → t < length world.threads
      go (inl l) = let c = g.counted in omega arith
      go (inr l) = let no : true ≡ false = sym (only t (steps_of world.threads t) l) ∙ e in cc no

  -- the thread that moves has one step more
  pub moved_here : (world : World) → IsGoing threads initial count world → (t : ℕ) → has_ended (threads t (steps_of world.threads t)) ≡ false →
      steps_of (move threads keep_all t world).threads t ≡ steps_of world.threads t ++ step_in world.memory (threads t (steps_of world.threads t)) ∷ []
  moved_here world g t e =
      ap (λ (x : World). steps_of x.threads t) (move_shape threads keep_all t world (threads t (steps_of world.threads t)) refl e) ∙
      set_here world.threads t (steps_of world.threads t ++ step_in world.memory (threads t (steps_of world.threads t)) ∷ []) (is_thread world g t e)

  -- its length grows by one
  pub moved_length : (world : World) → IsGoing threads initial count world → (t : ℕ) → has_ended (threads t (steps_of world.threads t)) ≡ false →
      length (steps_of (move threads keep_all t world).threads t) ≡ length (steps_of world.threads t) + 1
  moved_length world g t e = ap length (moved_here world g t e) ∙ length_push (steps_of world.threads t) (step_in world.memory (threads t (steps_of world.threads t)))

  -- a step keeps the earlier steps
  pub move_keeps : (world : World) → IsGoing threads initial count world → (t : ℕ) → has_ended (threads t (steps_of world.threads t)) ≡ false → (u : ℕ) →
      (length (steps_of world.threads u) ≤ length (steps_of (move threads keep_all t world).threads u)) ×
      ((k : ℕ) → k < length (steps_of world.threads u) → run_step (move threads keep_all t world).threads u k ≡ run_step world.threads u k)
  move_keeps world g t e u = go (cases_eq u t)
    where
      go : (u ≡ t) ⊎ (u ≡ t → ⊥) → (length (steps_of world.threads u) ≤ length (steps_of (move threads keep_all t world).threads u)) ×
          ((k : ℕ) → k < length (steps_of world.threads u) → run_step (move threads keep_all t world).threads u k ≡ run_step world.threads u k)
      go (inl s) =
          let P : ℕ → Type 0 = λ x. (length (steps_of world.threads x) ≤ length (steps_of (move threads keep_all t world).threads x)) ×
          ((k : ℕ) → k < length (steps_of world.threads x) → run_step (move threads keep_all t world).threads x k ≡ run_step world.threads x k) in
          let h = moved_length world g t e in
          let q : (length (steps_of world.threads t) ≤ length (steps_of (move threads keep_all t world).threads t)) ×
          ((k : ℕ) → k < length (steps_of world.threads t) → run_step (move threads keep_all t world).threads t k ≡ run_step world.threads t k) = (
            omega (arith, h),
            λ k kl. ap (λ (x : List Step). slice_index_or x k no_step) (moved_here world g t e) ∙
                get_or_append_left (steps_of world.threads t) (step_in world.memory (threads t (steps_of world.threads t)) ∷ []) no_step k kl,
          ) in
          subst P (sym s) q
      go (inr n) =
          let m = move_there threads keep_all t u world n in
          let l = ap length m in
          (omega (arith, l), λ k kl. ap (λ (x : List Step). slice_index_or x k no_step) m)

  -- a history keeps the earlier steps
  pub play_keeps : (history : List ℕ) (world : World) → IsGoing threads initial count world → IsLegal threads history world → (u : ℕ) →
      (length (steps_of world.threads u) ≤ length (steps_of (play threads history world).threads u)) ×
      ((k : ℕ) → k < length (steps_of world.threads u) → run_step (play threads history world).threads u k ≡ run_step world.threads u k)
  unfolding play IsLegal
  play_keeps [] world g legal u = (omega arith, λ k kl. refl)
  play_keeps (t ∷ history) world g legal u =
      let (a, b) = move_keeps world g t legal.0 u in
      let (c, d) = play_keeps history (move threads keep_all t world) (going_move threads initial count within only keep_all t world g) legal.1 u in
      (omega arith, λ k kl. d k (omega arith) ∙ b k kl)

  -- the step that the head of the history takes is there at the end
  pub head_step : (t : ℕ) (history : List ℕ) (world : World) → IsGoing threads initial count world → IsLegal threads (t ∷ history) world →
      (length (steps_of world.threads t) < length (steps_of (play threads (t ∷ history) world).threads t)) ×
      (run_step (play threads (t ∷ history) world).threads t (length (steps_of world.threads t)) ≡ step_in world.memory (threads t (steps_of world.threads t)))
  unfolding play IsLegal
  head_step t history world g legal =
      let h = moved_length world g t legal.0 in
      let (c, d) = play_keeps history (move threads keep_all t world) (going_move threads initial count within only keep_all t world g) legal.1 t in (
        omega (arith, h, c),
        d (length (steps_of world.threads t)) (omega (arith, h)) ∙ ap (λ (x : List Step). slice_index_or x (length (steps_of world.threads t)) no_step) (moved_here world g t legal.0) ∙
            get_or_push (steps_of world.threads t) (step_in world.memory (threads t (steps_of world.threads t))) no_step (length (steps_of world.threads t)) refl,
      )

  -- what is to come is the next step, or comes after it
  pub later_split : (world : World) → IsGoing threads initial count world → (t : ℕ) → has_ended (threads t (steps_of world.threads t)) ≡ false → (e : Event) → IsLater world e →
      (next_event t world ≡ e) ⊎ IsLater (move threads keep_all t world) e
  later_split world g t h e later = go (cases_eq e.thread t)
    where
      go : (e.thread ≡ t) ⊎ (e.thread ≡ t → ⊥) → (next_event t world ≡ e) ⊎ IsLater (move threads keep_all t world) e
      go (inr n) = let l = ap length (move_there threads keep_all t e.thread world n) in inr (omega (arith, l))
      go (inl s) = near (cases_eq e.step (length (steps_of world.threads t) + 1))
        where
          near : (e.step ≡ length (steps_of world.threads t) + 1) ⊎ (e.step ≡ length (steps_of world.threads t) + 1 → ⊥) → (next_event t world ≡ e) ⊎ IsLater (move threads keep_all t world) e
          near (inl q) = inl (λ j. record { thread = sym s j; step = sym q j })
          near (inr n) =
              let l : length (steps_of world.threads t) < e.step = subst (λ (x : ℕ). length (steps_of world.threads x) < e.step) s later in
              let m = moved_length world g t h in
              let ne : e.step ≢ length (steps_of world.threads t) + 1 = n in
              let r : length (steps_of (move threads keep_all t world).threads t) < e.step = omega (arith, m) in
              inr (subst (λ (x : ℕ). length (steps_of (move threads keep_all t world).threads x) < e.step) (sym s) r)

  -- what comes after a step was to come before it, and is another
  pub later_back : (world : World) → IsGoing threads initial count world → (t : ℕ) → has_ended (threads t (steps_of world.threads t)) ≡ false → (e : Event) → IsLater (move threads keep_all t world) e →
      IsLater world e × (next_event t world ≢ e)
  later_back world g t h e later =
      let (a, b) = move_keeps world g t h e.thread in (
        omega arith,
        λ q.
            let l : length (steps_of (move threads keep_all t world).threads t) < length (steps_of world.threads t) + 1 = subst (IsLater (move threads keep_all t world)) (sym q) later in
            let m = moved_length world g t h in
            omega (arith, m, l),
      )

  -- the events of a history are those that come and are among the steps at its end
  pub events-place : (history : List ℕ) (world : World) → IsGoing threads initial count world → IsLegal threads history world → (e : Event) → IsLater world e →
      e.step ≤ length (steps_of (play threads history world).threads e.thread) → place (events_of threads history world) e < length (events_of threads history world)
  unfolding play events_of IsLegal
  events-place [] world g legal e later h = absurd (omega arith)
  events-place (t ∷ history) world g legal e later h =
      go (later_split world g t legal.0 e later) (λ l. events-place history (move threads keep_all t world) (going_move threads initial count within only keep_all t world g) legal.1 e l h)
    where
      go : (next_event t world ≡ e) ⊎ IsLater (move threads keep_all t world) e →
          (IsLater (move threads keep_all t world) e → place (events_of threads history (move threads keep_all t world)) e < length (events_of threads history (move threads keep_all t world))) →
          place (next_event t world ∷ events_of threads history (move threads keep_all t world)) e < suc (length (events_of threads history (move threads keep_all t world)))
      go (inl q) ih = let p = place_head (next_event t world) (events_of threads history (move threads keep_all t world)) in
          let p2 : place (next_event t world ∷ events_of threads history (move threads keep_all t world)) e ≡ 0 = subst (λ (x : Event). place (next_event t world ∷ events_of threads history (move threads keep_all t world)) x ≡ 0) q p in
          omega (arith, p2)
      go (inr l) ih = let p = place_next (next_event t world) e (events_of threads history (move threads keep_all t world)) (later_back world g t legal.0 e l).1 in let i = ih l in omega (arith, p, i)

  -- the events of a history were to come, and are among its steps at the end
  pub events-later : (history : List ℕ) (world : World) → IsGoing threads initial count world → IsLegal threads history world → (e : Event) → Contains (events_of threads history world) e →
      IsLater world e × (e.step ≤ length (steps_of (play threads history world).threads e.thread))
  unfolding play events_of IsLegal
  events-later [] world g legal e (k, l, h) = absurd (omega (arith, l))
  events-later (t ∷ history) world g legal e (zero, l, h) =
      let P : Event → Type 0 = λ x. IsLater world x × (x.step ≤ length (steps_of (play threads history (move threads keep_all t world)).threads x.thread)) in
      let (a, b) = play_keeps history (move threads keep_all t world) (going_move threads initial count within only keep_all t world g) legal.1 t in
      let m = moved_length world g t legal.0 in
      subst P h (omega arith, omega (arith, m))
  events-later (t ∷ history) world g legal e (suc k, l, h) =
      let (a, b) = events-later history (move threads keep_all t world) (going_move threads initial count within only keep_all t world g) legal.1 e (k, omega arith, h) in
      ((later_back world g t legal.0 e a).0, b)

  -- events of one thread stand by rising number
  pub events-rising : (history : List ℕ) (world : World) → IsGoing threads initial count world → IsLegal threads history world → (a b : Event) → IsLater world a → IsLater world b →
      b.step ≤ length (steps_of (play threads history world).threads b.thread) → a.thread ≡ b.thread → a.step < b.step →
      place (events_of threads history world) a < place (events_of threads history world) b
  unfolding play events_of IsLegal
  events-rising [] world g legal a b la lb h t s = absurd (omega arith)
  events-rising (u ∷ history) world g legal a b la lb h t s =
      go (later_split world g u legal.0 a la) (later_split world g u legal.0 b lb)
      (λ la lb. events-rising history (move threads keep_all u world) (going_move threads initial count within only keep_all u world g) legal.1 a b la lb h t s)
    where
      later : List Event
      later = events_of threads history (move threads keep_all u world)

      go : (next_event u world ≡ a) ⊎ IsLater (move threads keep_all u world) a → (next_event u world ≡ b) ⊎ IsLater (move threads keep_all u world) b →
          (IsLater (move threads keep_all u world) a → IsLater (move threads keep_all u world) b → place later a < place later b) →
          place (next_event u world ∷ later) a < place (next_event u world ∷ later) b
      go (inl q) (inl r) ih = absurd (let z : a.step ≡ b.step = ap (λ (x : Event). x.step) (sym q ∙ r) in omega arith)
      go (inl q) (inr l) ih =
          let p : place (next_event u world ∷ later) a ≡ 0 = subst (λ (x : Event). place (next_event u world ∷ later) x ≡ 0) q (place_head (next_event u world) later) in
          let n = place_next (next_event u world) b later (later_back world g u legal.0 b l).1 in
          omega (arith, p, n)
      go (inr l) (inl r) ih =
          absurd (let bt : u ≡ b.thread = ap (λ (x : Event). x.thread) r in
          let bs : length (steps_of world.threads u) + 1 ≡ b.step = ap (λ (x : Event). x.step) r in
          let m = moved_length world g u legal.0 in
          let lu : length (steps_of (move threads keep_all u world).threads u) < a.step = subst (λ (x : ℕ). length (steps_of (move threads keep_all u world).threads x) < a.step) (t ∙ sym bt) l in
          omega (arith, m, lu, bs))
      go (inr l) (inr r) ih =
          let p = place_next (next_event u world) a later (later_back world g u legal.0 a l).1 in
          let q = place_next (next_event u world) b later (later_back world g u legal.0 b r).1 in
          let i = ih l r in omega (arith, p, q, i)

  -- each event stands once
  pub events-once : (history : List ℕ) (world : World) → IsGoing threads initial count world → IsLegal threads history world → IsOnce (events_of threads history world)
  unfolding events_of IsLegal
  events-once [] world g legal i j d ij jl = absurd (omega arith)
  events-once (t ∷ history) world g legal i zero d ij jl = absurd (omega arith)
  events-once (t ∷ history) world g legal zero (suc j) d ij jl = λ q.
      let c : Contains (events_of threads history (move threads keep_all t world)) (next_event t world) = (
        j,
        omega arith,
        get_or_default (events_of threads history (move threads keep_all t world)) j (next_event t world) d (omega arith) ∙ sym q,
      ) in
      let (a, b) = events-later history (move threads keep_all t world) (going_move threads initial count within only keep_all t world g) legal.1 (next_event t world) c in
      (later_back world g t legal.0 (next_event t world) a).1 refl
  events-once (t ∷ history) world g legal (suc i) (suc j) d ij jl =
      events-once history (move threads keep_all t world) (going_move threads initial count within only keep_all t world g) legal.1 i j d (omega arith) (omega arith)
