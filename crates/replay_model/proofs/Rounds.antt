-- Turns in rounds: every thread goes on until it has ended.
use Rattle.std.proofs.Common.{◌≡◌, ℕ, zero, suc, ◌+◌, ◌<◌, ◌≤◌, Bool, true, false, cond, List, [], ◌∷◌, ◌++◌, length, refl, sym, ◌∙◌, ap, subst, arith, inl, inr, ◌⊎◌, append_assoc}
use Rattle.std.specs.List.{range_with_len}
use Rattle.std.proofs.lemmas.List.{append-nil}
use Rattle.std.proofs.lemmas.Bool.{cases_Bool, cases_eq}
use Rattle.replay_model.specs.Steps.{Step, has_ended}
use Rattle.replay_model.specs.Threads.{Threads, HasOnly, EndsWithin}
use Rattle.replay_model.specs.Histories.{World, steps_of, wanted, move, keep_all, play, IsWhole, history_of, round_turns}
use Rattle.replay_model.proofs.Moves.{move_ended, move_here, move_there, move_count}
use Rattle.replay_model.proofs.Plays.{HaveEnded, play-append, play_count, history_of-append, history_of-ended, ended-whole}

-- so many rounds, and then more
pub round_turns-append : (count m n : ℕ) → round_turns count (m + n) ≡ round_turns count m ++ round_turns count n
unfolding round_turns
round_turns-append count zero n = let z : 0 + n ≡ n = omega arith in ap (round_turns count) z
round_turns-append count (suc m) n =
    let z : suc m + n ≡ suc (m + n) = omega arith in
    ap (round_turns count) z ∙ ap (λ (x : List ℕ). range_with_len 0 count ++ x) (round_turns-append count m n) ∙
    sym (append_assoc (range_with_len 0 count) (round_turns count m) (round_turns count n))

-- one more round
pub round_turns-more : (count n : ℕ) → round_turns count (n + 1) ≡ round_turns count n ++ range_with_len 0 count
unfolding round_turns
round_turns-more count n = round_turns-append count n 1 ∙ ap (λ (x : List ℕ). round_turns count n ++ x) (append-nil (range_with_len 0 count))

-- thread t has ended, or has taken so many steps
abbrev pub HasCome : Threads → ℕ → ℕ → World → Type 0
HasCome threads n t world = (has_ended (wanted threads t world) ≡ true) ⊎ (n ≤ length (steps_of world.threads t))

-- a turn of another thread, or of its own, takes nothing away
pub come_on : (threads : Threads) (n t u : ℕ) (world : World) → u < length world.threads → HasCome threads n t world → HasCome threads n t (move threads keep_all u world)
come_on threads n t u world l h = go (cases_Bool (has_ended (wanted threads u world))) (cases_eq t u)
  where
    go : (has_ended (wanted threads u world) ≡ true) ⊎ (has_ended (wanted threads u world) ≡ false) → (t ≡ u) ⊎ (t ≡ u → ⊥) → HasCome threads n t (move threads keep_all u world)
    go (inl e) q = let P : World → Type 0 = λ w. HasCome threads n t w in subst P (sym (move_ended threads keep_all u world e)) h
    go (inr e) (inr d) =
        let P : List Step → Type 0 = λ s. (has_ended (threads t s) ≡ true) ⊎ (n ≤ length s) in
        subst P (sym (move_there threads keep_all u t world d)) h
    go (inr e) (inl q) = own q h
      where
        own : t ≡ u → HasCome threads n t world → HasCome threads n t (move threads keep_all u world)
        own q (inl x) = absurd (let y : has_ended (wanted threads u world) ≡ true = subst (λ (v : ℕ). has_ended (wanted threads v world) ≡ true) q x in let no : true ≡ false = sym y ∙ e in cc no)
        own q (inr x) =
            let m = move_here threads keep_all u world (wanted threads u world) l refl e in
            let y : n ≤ length (steps_of world.threads u) = subst (λ (v : ℕ). n ≤ length (steps_of world.threads v)) q x in
            let z : n ≤ length (steps_of (move threads keep_all u world).threads u) = omega (arith, m, y) in
            inr (subst (λ (v : ℕ). n ≤ length (steps_of (move threads keep_all u world).threads v)) (sym q) z)

-- its own turn takes a thread on
pub come_further : (threads : Threads) (n t : ℕ) (world : World) → t < length world.threads → HasCome threads n t world → HasCome threads (n + 1) t (move threads keep_all t world)
come_further threads n t world l h = go (cases_Bool (has_ended (wanted threads t world))) h
  where
    go : (has_ended (wanted threads t world) ≡ true) ⊎ (has_ended (wanted threads t world) ≡ false) → HasCome threads n t world → HasCome threads (n + 1) t (move threads keep_all t world)
    go (inl e) x = let P : World → Type 0 = λ w. has_ended (wanted threads t w) ≡ true in inl (subst P (sym (move_ended threads keep_all t world e)) e)
    go (inr e) (inl x) = absurd (let no : true ≡ false = sym x ∙ e in cc no)
    go (inr e) (inr x) = let m = move_here threads keep_all t world (wanted threads t world) l refl e in inr (omega (arith, m, x))

-- turns of threads that are there take nothing away
pub range_on : (threads : Threads) (n t a k : ℕ) (world : World) → a + k ≤ length world.threads → HasCome threads n t world → HasCome threads n t (play threads (range_with_len a k) world)
unfolding play
range_on threads n t a zero world l h = h
range_on threads n t a (suc k) world l h =
    range_on threads n t (a + 1) k (move threads keep_all a world) (let c = move_count threads keep_all a world in omega (arith, c, l)) (come_on threads n t a world (omega arith) h)

-- a round takes each of its threads on
pub range_further : (threads : Threads) (n t a k : ℕ) (world : World) → a + k ≤ length world.threads → a ≤ t → t < a + k → HasCome threads n t world →
    HasCome threads (n + 1) t (play threads (range_with_len a k) world)
unfolding play
range_further threads n t a zero world l lo hi h = absurd (omega arith)
range_further threads n t a (suc k) world l lo hi h = go (cases_eq t a) (range_further threads n t (a + 1) k (move threads keep_all a world))
  where
    room : (a + 1) + k ≤ length (move threads keep_all a world).threads
    room = let c = move_count threads keep_all a world in omega (arith, c, l)

    go : (t ≡ a) ⊎ (t ≡ a → ⊥) →
        ((a + 1) + k ≤ length (move threads keep_all a world).threads → a + 1 ≤ t → t < (a + 1) + k → HasCome threads n t (move threads keep_all a world) →
        HasCome threads (n + 1) t (play threads (range_with_len (a + 1) k) (move threads keep_all a world))) →
        HasCome threads (n + 1) t (play threads (range_with_len (a + 1) k) (move threads keep_all a world))
    go (inl e) ih =
        let P : ℕ → Type 0 = λ u. HasCome threads (n + 1) t (move threads keep_all u world) in
        range_on threads (n + 1) t (a + 1) k (move threads keep_all a world) room (subst P e (come_further threads n t world (omega arith) h))
    go (inr d) ih = ih room (omega arith) (omega arith) (come_on threads n t a world (omega arith) h)

pub rounds_further : (threads : Threads) (n t count rounds : ℕ) (world : World) → count ≡ length world.threads → t < count → HasCome threads n t world →
    HasCome threads (n + rounds) t (play threads (round_turns count rounds) world)
unfolding play round_turns
rounds_further threads n t count zero world c l h = let z : n ≡ n + 0 = omega arith in subst (λ (m : ℕ). HasCome threads m t world) z h
rounds_further threads n t count (suc rounds) world c l h =
    let after : World = play threads (range_with_len 0 count) world in
    let z : (n + 1) + rounds ≡ n + suc rounds = omega arith in
    let P : World → Type 0 = λ w. HasCome threads (n + suc rounds) t w in
    let Q : ℕ → Type 0 = λ m. HasCome threads m t (play threads (round_turns count rounds) (play threads (range_with_len 0 count) world)) in
    subst P (sym (play-append threads (range_with_len 0 count) (round_turns count rounds) world))
    (subst Q z (rounds_further threads (n + 1) t count rounds (play threads (range_with_len 0 count) world) (c ∙ sym (play_count threads (range_with_len 0 count) world)) l
    (range_further threads n t 0 count world (omega arith) (omega arith) (omega arith) h)))

-- after as many rounds as a thread may take steps, every thread has ended
pub rounds_whole : (threads : Threads) (bound count : ℕ) (world : World) → EndsWithin threads bound → count ≡ length world.threads → IsWhole threads (play threads (round_turns count bound) world)
rounds_whole threads bound count world ends c t l =
    go (rounds_further threads 0 t count bound world c (let k = play_count threads (round_turns count bound) world in omega (arith, k, l)) (inr (omega arith)))
  where
    go : HasCome threads (0 + bound) t (play threads (round_turns count bound) world) → has_ended (wanted threads t (play threads (round_turns count bound) world)) ≡ true
    go (inl e) = e
    go (inr m) = ends t (steps_of (play threads (round_turns count bound) world).threads t) (omega arith)

-- where a round adds no step, each of its threads has ended
pub idle_range : (threads : Threads) (a k t : ℕ) (world : World) → history_of threads (range_with_len a k) world ≡ [] → a ≤ t → t < a + k → has_ended (wanted threads t world) ≡ true
unfolding history_of
idle_range threads a zero t world h lo hi = absurd (omega arith)
idle_range threads a (suc k) t world h lo hi = go (cases_Bool (has_ended (wanted threads a world))) (idle_range threads (a + 1) k t (move threads keep_all a world)) (cases_eq t a)
  where
    rest : List ℕ
    rest = history_of threads (range_with_len (a + 1) k) (move threads keep_all a world)

    go : (has_ended (wanted threads a world) ≡ true) ⊎ (has_ended (wanted threads a world) ≡ false) →
        (history_of threads (range_with_len (a + 1) k) (move threads keep_all a world) ≡ [] → a + 1 ≤ t → t < (a + 1) + k → has_ended (wanted threads t (move threads keep_all a world)) ≡ true) →
        (t ≡ a) ⊎ (t ≡ a → ⊥) → has_ended (wanted threads t world) ≡ true
    go (inl e) ih (inl q) = subst (λ (u : ℕ). has_ended (wanted threads u world) ≡ true) (sym q) e
    go (inl e) ih (inr d) =
        let none : rest ≡ [] = ap (λ (b : Bool). cond b [] (a ∷ []) ++ rest) (sym e) ∙ h in
        let P : World → Type 0 = λ w. has_ended (wanted threads t w) ≡ true in
        subst P (move_ended threads keep_all a world e) (ih none (omega arith) (omega arith))
    go (inr e) ih q = absurd (let no : a ∷ rest ≡ [] = ap (λ (b : Bool). cond b [] (a ∷ []) ++ rest) (sym e) ∙ h in cc no)

-- after a round that added no step, more rounds add none
pub rounds_idle : (threads : Threads) (count n m : ℕ) (world : World) → HasOnly threads count → count ≡ length world.threads →
    history_of threads (range_with_len 0 count) (play threads (round_turns count n) world) ≡ [] →
    history_of threads (round_turns count (n + m)) world ≡ history_of threads (round_turns count n) world
rounds_idle threads count n m world only c h =
    let after : World = play threads (round_turns count n) world in
    let ended : HaveEnded threads (play threads (round_turns count n) world) = ended-whole threads count (play threads (round_turns count n) world) only
    (play_count threads (round_turns count n) world ∙ sym c)
    (λ t l. idle_range threads 0 count t (play threads (round_turns count n) world) h (omega arith) (let k = play_count threads (round_turns count n) world in omega (arith, k, l))) in
    ap (λ (x : List ℕ). history_of threads x world) (round_turns-append count n m) ∙
    history_of-append threads (round_turns count n) (round_turns count m) world ∙
    ap (λ (x : List ℕ). history_of threads (round_turns count n) world ++ x) (history_of-ended threads (round_turns count m) (play threads (round_turns count n) world) ended) ∙
    append-nil (history_of threads (round_turns count n) world)
