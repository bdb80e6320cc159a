-- Plays of histories one after another, and the histories that turns make.
use Rattle.std.proofs.Common.{◌≡◌, ℕ, zero, suc, ◌+◌, ◌<◌, ◌≤◌, Bool, true, false, cond, List, [], ◌∷◌, ◌++◌, length, refl, sym, ◌∙◌, ap, subst, arith, inl, inr, ◌⊎◌, append_assoc, length-set}
use Rattle.std.specs.Prelude.{Option, Some, None}
use Rattle.std.proofs.lemmas.Bool.{cases_Bool, cases_lt}
use Rattle.replay_model.specs.Steps.{Event, Cell, word_of, wrote, found_in, put, has_ended}
use Rattle.replay_model.specs.Threads.{Threads, HasOnly}
use Rattle.replay_model.specs.Histories.{World, steps_of, next_event, wanted, move, keep_all, play, IsLegal, IsWhole, history_of}
use Rattle.replay_model.specs.Events.{events_of}
use Rattle.replay_model.specs.SkipPlay.{moves, turn, turns}
use Rattle.replay_model.proofs.Moves.{move_shape, move_ended, move_count}

-- no thread wants a step any more
abbrev pub HaveEnded : Threads → World → Type 0
HaveEnded threads world = (t : ℕ) → has_ended (wanted threads t world) ≡ true

pub play-append : (threads : Threads) (xs ys : List ℕ) (world : World) → play threads (xs ++ ys) world ≡ play threads ys (play threads xs world)
unfolding play
play-append threads [] ys world = refl
play-append threads (t ∷ xs) ys world = play-append threads xs ys (move threads keep_all t world)

-- the state after one more turn
pub play-push : (threads : Threads) (xs : List ℕ) (t : ℕ) (world : World) → play threads (xs ++ t ∷ []) world ≡ move threads keep_all t (play threads xs world)
unfolding play
play-push threads xs t world = play-append threads xs (t ∷ []) world

-- a play changes no thread's place
pub play_count : (threads : Threads) (xs : List ℕ) (world : World) → length (play threads xs world).threads ≡ length world.threads
unfolding play
play_count threads [] world = refl
play_count threads (t ∷ xs) world = play_count threads xs (move threads keep_all t world) ∙ move_count threads keep_all t world

pub legal-append : (threads : Threads) (xs ys : List ℕ) (world : World) → IsLegal threads xs world → IsLegal threads ys (play threads xs world) → IsLegal threads (xs ++ ys) world
unfolding play IsLegal
legal-append threads [] ys world p q = q
legal-append threads (t ∷ xs) ys world p q = (p.0, legal-append threads xs ys (move threads keep_all t world) p.1 q)

-- one more step of a thread that wants one
pub legal-push : (threads : Threads) (xs : List ℕ) (t : ℕ) (world : World) → IsLegal threads xs world → has_ended (wanted threads t (play threads xs world)) ≡ false → IsLegal threads (xs ++ t ∷ []) world
unfolding IsLegal
legal-push threads xs t world p h = legal-append threads xs (t ∷ []) world p (h, tt)

pub history_of-append : (threads : Threads) (xs ys : List ℕ) (world : World) →
    history_of threads (xs ++ ys) world ≡ history_of threads xs world ++ history_of threads ys (play threads xs world)
unfolding play history_of
history_of-append threads [] ys world = refl
history_of-append threads (t ∷ xs) ys world =
    ap (λ (h : List ℕ). cond (has_ended (wanted threads t world)) [] (t ∷ []) ++ h) (history_of-append threads xs ys (move threads keep_all t world)) ∙
    sym (append_assoc (cond (has_ended (wanted threads t world)) [] (t ∷ [])) (history_of threads xs (move threads keep_all t world)) (history_of threads ys (play threads xs (move threads keep_all t world))))

-- turns lead where their history leads
pub play-history_of : (threads : Threads) (turns : List ℕ) (world : World) → play threads (history_of threads turns world) world ≡ play threads turns world
unfolding play history_of
play-history_of threads [] world = refl
play-history_of threads (t ∷ turns) world = go (play-history_of threads turns (move threads keep_all t world)) (cases_Bool (has_ended (wanted threads t world)))
  where
    rest : List ℕ
    rest = history_of threads turns (move threads keep_all t world)

    go : play threads rest (move threads keep_all t world) ≡ play threads turns (move threads keep_all t world) →
        (has_ended (wanted threads t world) ≡ true) ⊎ (has_ended (wanted threads t world) ≡ false) →
        play threads (cond (has_ended (wanted threads t world)) [] (t ∷ []) ++ rest) world ≡ play threads turns (move threads keep_all t world)
    go ih (inl e) =
        ap (λ (b : Bool). play threads (cond b [] (t ∷ []) ++ rest) world) e ∙
        ap (λ (w : World). play threads rest w) (sym (move_ended threads keep_all t world e)) ∙ ih
    go ih (inr e) = ap (λ (b : Bool). play threads (cond b [] (t ∷ []) ++ rest) world) e ∙ ih

-- the history of turns is legal
pub history_of-legal : (threads : Threads) (turns : List ℕ) (world : World) → IsLegal threads (history_of threads turns world) world
unfolding IsLegal history_of
history_of-legal threads [] world = tt
history_of-legal threads (t ∷ turns) world = go (history_of-legal threads turns (move threads keep_all t world)) (cases_Bool (has_ended (wanted threads t world)))
  where
    rest : List ℕ
    rest = history_of threads turns (move threads keep_all t world)

    go : IsLegal threads rest (move threads keep_all t world) → (has_ended (wanted threads t world) ≡ true) ⊎ (has_ended (wanted threads t world) ≡ false) →
        IsLegal threads (cond (has_ended (wanted threads t world)) [] (t ∷ []) ++ rest) world
    go ih (inl e) =
        let P : Bool → Type 0 = λ b. IsLegal threads (cond b [] (t ∷ []) ++ rest) world in
        let Q : World → Type 0 = λ w. IsLegal threads rest w in
        subst P (sym e) (subst Q (move_ended threads keep_all t world e) ih)
    go ih (inr e) =
        let P : Bool → Type 0 = λ b. IsLegal threads (cond b [] (t ∷ []) ++ rest) world in
        subst P (sym e) (e, ih)

-- where every thread has ended, turns change nothing
pub history_of-ended : (threads : Threads) (turns : List ℕ) (world : World) → HaveEnded threads world → history_of threads turns world ≡ []
unfolding history_of
history_of-ended threads [] world h = refl
history_of-ended threads (t ∷ turns) world h =
    ap (λ (b : Bool). cond b [] (t ∷ []) ++ history_of threads turns (move threads keep_all t world)) (h t) ∙
    ap (λ (w : World). history_of threads turns w) (move_ended threads keep_all t world (h t)) ∙ history_of-ended threads turns world h

-- threads past the count have ended too
pub ended-whole : (threads : Threads) (count : ℕ) (world : World) → HasOnly threads count → length world.threads ≡ count → IsWhole threads world → HaveEnded threads world
ended-whole threads count world only c whole t = go (cases_lt t (length world.threads))
  where
    go : (t < length world.threads) ⊎ (length world.threads ≤ t) → has_ended (wanted threads t world) ≡ true
    go (inl l) = whole t l
    go (inr l) = only t (steps_of world.threads t) (omega arith)

-- a write changes no word's place
pub length-put : (memory : List Cell) (word : ℕ) (event : Event) (value : Option ℕ) → length (put memory word event value) ≡ length memory
length-put memory word event None = refl
length-put memory word event (Some value) = length-set memory word _

pub move_memory : (threads : Threads) (t : ℕ) (world : World) → length (move threads keep_all t world).memory ≡ length world.memory
move_memory threads t world = go (cases_Bool (has_ended (wanted threads t world)))
  where
    go : (has_ended (wanted threads t world) ≡ true) ⊎ (has_ended (wanted threads t world) ≡ false) → length (move threads keep_all t world).memory ≡ length world.memory
    go (inl e) = ap (λ (w : World). length w.memory) (move_ended threads keep_all t world e)
    go (inr e) =
        ap (λ (w : World). length w.memory) (move_shape threads keep_all t world (wanted threads t world) refl e) ∙
        length-put world.memory (word_of (wanted threads t world)) (next_event t world) (wrote (wanted threads t world) (found_in world.memory (wanted threads t world)))

pub play_memory : (threads : Threads) (xs : List ℕ) (world : World) → length (play threads xs world).memory ≡ length world.memory
unfolding play
play_memory threads [] world = refl
play_memory threads (t ∷ xs) world = play_memory threads xs (move threads keep_all t world) ∙ move_memory threads t world

-- one more step has the next event of its thread
pub events-push : (threads : Threads) (history : List ℕ) (t : ℕ) (world : World) → events_of threads (history ++ t ∷ []) world ≡ events_of threads history world ++ next_event t (play threads history world) ∷ []
unfolding play events_of
events-push threads [] t world = refl
events-push threads (u ∷ history) t world = ap (λ (x : List Event). next_event u world ∷ x) (events-push threads history t (move threads keep_all u world))

-- one more step of a thread in a skip play
pub moves-push : (threads : Threads) (keep : Event → Bool) (n t : ℕ) (world : World) → moves threads keep (suc n) t world ≡ move threads keep t (moves threads keep n t world)
unfolding moves
moves-push threads keep zero t world = refl
moves-push threads keep (suc n) t world = moves-push threads keep n t (move threads keep t world)

pub moves-add : (threads : Threads) (keep : Event → Bool) (m n t : ℕ) (world : World) → moves threads keep (m + n) t world ≡ moves threads keep n t (moves threads keep m t world)
unfolding moves
moves-add threads keep zero n t world = let z : 0 + n ≡ n = omega arith in ap (λ k. moves threads keep k t world) z
moves-add threads keep (suc m) n t world =
    let z : suc m + n ≡ suc (m + n) = omega arith in
    ap (λ k. moves threads keep k t world) z ∙ moves-add threads keep m n t (move threads keep t world)

-- one more turn
pub turns-push : (threads : Threads) (keep : Event → Bool) (order : List Event) (event : Event) (world : World) →
    turns threads keep (order ++ event ∷ []) world ≡ turn threads keep event (turns threads keep order world)
unfolding turns
turns-push threads keep [] event world = refl
turns-push threads keep (e ∷ order) event world = turns-push threads keep order event (turn threads keep e world)
