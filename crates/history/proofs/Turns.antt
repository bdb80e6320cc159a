-- Turns of a plain machine, one after another.
use Rattle.std.proofs.Common.{◌≡◌, ℕ, zero, suc, ◌+◌, ◌-◌, ◌<◌, ◌≤◌, Bool, true, false, cond, List, [], ◌∷◌, ◌++◌, length, refl, sym, ◌∙◌, ap, subst, arith, append_assoc}
use Rattle.std.specs.List.{range_with_len}
use Rattle.std.proofs.lemmas.List.{append-nil}
use Rattle.replay_model.specs.Steps.{has_ended}
use Rattle.replay_model.specs.Threads.{Threads}
use Rattle.replay_model.specs.declared.End.{End}
use Rattle.replay_model.specs.Histories.{World, IsWhole, play, history_of, round_turns}
use Rattle.replay_model.proofs.Plays.{play-append, play-history_of, history_of-append}
use Rattle.replay_model.proofs.Rounds.{round_turns-append, round_turns-more, rounds_idle, rounds_whole}
use Rattle.machine.specs.Runs.{start_of, rounds_of}
use Rattle.machine.proofs.Runs.{has_only, ends_within}
use Rattle.history.specs.declared.plain.Stepped.{Stepped}
use Rattle.history.specs.declared.plain.Stepped.TheVariants.{Took, Ended}
use Rattle.history.specs.Played.{Played, threads_in, world_of, wanted_by, steps_in, after_turns, HasBegun, IsOver}
use Rattle.history.specs.Stepping.{IsStep}
use Rattle.history.proofs.Playing.{threads_count}

-- numbers from a on, and then more
pub range-append : (a m n : ℕ) → range_with_len a (m + n) ≡ range_with_len a m ++ range_with_len (a + m) n
range-append a zero n = let z : 0 + n ≡ n = omega arith in let y : a ≡ a + 0 = omega arith in ap (range_with_len a) z ∙ ap (λ (x : ℕ). range_with_len x n) y
range-append a (suc m) n =
    let z : suc m + n ≡ suc (m + n) = omega arith in
    let y : (a + 1) + m ≡ a + suc m = omega arith in
    ap (range_with_len a) z ∙ ap (λ (x : List ℕ). a ∷ x) (range-append (a + 1) m n) ∙ ap (λ (x : ℕ). a ∷ (range_with_len (a + 1) m ++ range_with_len x n)) y

pub range-more : (n : ℕ) → range_with_len 0 (n + 1) ≡ range_with_len 0 n ++ n ∷ []
range-more n = let z : 0 + n ≡ n = omega arith in range-append 0 n 1 ∙ ap (λ (x : ℕ). range_with_len 0 n ++ x ∷ []) z

-- the world after turns
pub world-turns : (played : Played) (turns : List ℕ) → world_of (after_turns played turns) ≡ play (threads_in played) turns (world_of played)
world-turns played turns =
    play-append (threads_in played) played.taken (steps_in played turns) (start_of played.program) ∙ play-history_of (threads_in played) turns (world_of played)

-- turns one after another
pub steps_in-append : (played : Played) (xs ys : List ℕ) → steps_in played (xs ++ ys) ≡ steps_in played xs ++ steps_in (after_turns played xs) ys
steps_in-append played xs ys =
    history_of-append (threads_in played) xs ys (world_of played) ∙ ap (λ (w : World). steps_in played xs ++ history_of (threads_in played) ys w) (sym (world-turns played xs))

pub after_turns-append : (played : Played) (xs ys : List ℕ) → after_turns played (xs ++ ys) ≡ after_turns (after_turns played xs) ys
after_turns-append played xs ys =
    ap (λ (l : List ℕ). record played { taken = played.taken ++ l }) (steps_in-append played xs ys) ∙
    ap (λ (l : List ℕ). record played { taken = l }) (sym (append_assoc played.taken (steps_in played xs) (steps_in (after_turns played xs) ys)))

-- turns that take no step change nothing
pub after_turns-none : (played : Played) (turns : List ℕ) → steps_in played turns ≡ [] → after_turns played turns ≡ played
after_turns-none played turns h = ap (λ (l : List ℕ). record played { taken = l }) (ap (λ (l : List ℕ). played.taken ++ l) h ∙ append-nil played.taken)

-- no turns yet
pub after_turns-nil : (played : Played) → played ≡ after_turns played []
unfolding history_of
after_turns-nil played = ap (λ (l : List ℕ). record played { taken = l }) (sym (append-nil played.taken))

pub steps_in-nil : (played : Played) → steps_in played [] ≡ []
unfolding history_of
steps_in-nil played = refl

-- one turn of a thread
steps_in-one : (played : Played) (t : ℕ) (b : Bool) → has_ended (wanted_by played t) ≡ b → steps_in played (t ∷ []) ≡ cond b [] (t ∷ [])
unfolding history_of
steps_in-one played t b h = append-nil (cond (has_ended (wanted_by played t)) [] (t ∷ [])) ∙ ap (λ (x : Bool). cond x [] (t ∷ [])) h

-- a step that was taken is a turn
pub step-turn : (old : Played) (t : ℕ) (stepped : Stepped) (new : Played) → IsStep old t stepped new → new ≡ after_turns old (t ∷ [])
step-turn old t (Took access) new h = h.2 ∙ ap (λ (l : List ℕ). record old { taken = old.taken ++ l }) (sym (steps_in-one old t false h.0))
step-turn old t (Ended end) new h = h.1 ∙ sym (after_turns-none old (t ∷ []) (steps_in-one old t true (ap has_ended h.0)))

-- the turn of a thread that has ended takes no step
pub step-idle : (old : Played) (t : ℕ) (e : End) (new : Played) → IsStep old t (Ended e) new → steps_in old (t ∷ []) ≡ []
step-idle old t e new h = steps_in-one old t true (ap has_ended h.0)

-- the state after the turns of so many threads of a round, and whether one of them took a step
pub record IsInRound (start : Played) (t : ℕ) (went : Bool) (now : Played) : Type 0 where
  pub turns : now ≡ after_turns start (range_with_len 0 t)
  pub idle : went ≡ false → steps_in start (range_with_len 0 t) ≡ []

pub round-begins : (start : Played) → IsInRound start 0 false start
round-begins start = record { turns = after_turns-nil start; idle = λ h. steps_in-nil start }

-- after one more turn
pub round-more : (start old new : Played) (t : ℕ) (went turned now : Bool) → IsInRound start t went old → new ≡ after_turns old (t ∷ []) → (turned ≡ false → steps_in old (t ∷ []) ≡ []) →
    (now ≡ false → (went ≡ false) × (turned ≡ false)) → IsInRound start (t + 1) now new
round-more start old new t went turned now is turn quiet both = record {
  turns =
      turn ∙ ap (λ (p : Played). after_turns p (t ∷ [])) is.turns ∙ sym (after_turns-append start (range_with_len 0 t) (t ∷ [])) ∙ ap (after_turns start) (sym (range-more t));
  idle = λ h.
      ap (steps_in start) (range-more t) ∙ steps_in-append start (range_with_len 0 t) (t ∷ []) ∙
      ap (λ (l : List ℕ). l ++ steps_in (after_turns start (range_with_len 0 t)) (t ∷ [])) (is.idle (both h).0) ∙
      ap (λ (p : Played). steps_in p (t ∷ [])) (sym is.turns) ∙ quiet (both h).1;
}

-- the first of some turns were had
pub begun-first : (old : Played) (xs ys turns : List ℕ) (new : Played) → turns ≡ xs ++ ys → new ≡ after_turns old xs → HasBegun old turns new
begun-first old xs ys turns new e h = record { first = steps_in old xs; rest = steps_in (after_turns old xs) ys; split = ap (steps_in old) e ∙ steps_in-append old xs ys; left = h }

-- a round that stopped at a thread
pub round-begun : (start old new : Played) (t : ℕ) (went : Bool) (count : ℕ) → IsInRound start t went old → t ≤ count → new ≡ old → HasBegun start (range_with_len 0 count) new
round-begun start old new t went count is l same =
    let z : t + (count - t) ≡ count = omega arith in
    begun-first start (range_with_len 0 t) (range_with_len (0 + t) (count - t)) (range_with_len 0 count) new (ap (range_with_len 0) (sym z) ∙ range-append 0 t (count - t)) (same ∙ is.turns)

-- some turns were had, and others begun
pub begun-later : (old mid : Played) (xs ys zs turns : List ℕ) (new : Played) → turns ≡ xs ++ (ys ++ zs) → mid ≡ after_turns old xs → HasBegun mid ys new → HasBegun old turns new
begun-later old mid xs ys zs turns new e m begun =
    let P : Played → Type 0 = λ p. HasBegun p ys new in
    go (subst P m begun)
  where
    go : HasBegun (after_turns old xs) ys new → HasBegun old turns new
    go b = record {
      first = steps_in old xs ++ b.first;
      rest = b.rest ++ steps_in (after_turns (after_turns old xs) ys) zs;
      split =
          ap (steps_in old) e ∙ steps_in-append old xs (ys ++ zs) ∙
          ap (λ (l : List ℕ). steps_in old xs ++ l) (
          steps_in-append (after_turns old xs) ys zs ∙ ap (λ (l : List ℕ). l ++ steps_in (after_turns (after_turns old xs) ys) zs) b.split ∙
          append_assoc b.first b.rest (steps_in (after_turns (after_turns old xs) ys) zs)
          ) ∙
          sym (append_assoc (steps_in old xs) b.first (b.rest ++ steps_in (after_turns (after_turns old xs) ys) zs));
      left = b.left ∙ ap (λ (l : List ℕ). record old { taken = l }) (append_assoc old.taken (steps_in old xs) b.first);
    }

-- the turns of all threads in rounds
abbrev pub all_rounds : Played → List ℕ
all_rounds played = round_turns (length played.program.threads) played.limits.steps

-- a round at whose end no thread took a step was the last
pub rounds-last : (start mid : Played) (n : ℕ) → n ≤ start.limits.steps → mid ≡ after_turns start (round_turns (length start.program.threads) n) →
    steps_in mid (range_with_len 0 (length start.program.threads)) ≡ [] → mid ≡ after_turns start (all_rounds start)
rounds-last start mid n l m idle =
    let k : n + (start.limits.steps - n) ≡ start.limits.steps = omega arith in
    let count : ℕ = length start.program.threads in
    let w : world_of mid ≡ play (threads_in start) (round_turns (length start.program.threads) n) (world_of start) = ap world_of m ∙ world-turns start (round_turns (length start.program.threads) n) in
    let same : threads_in mid ≡ threads_in start = ap threads_in m in
    let none : history_of (threads_in start) (range_with_len 0 (length start.program.threads)) (play (threads_in start) (round_turns (length start.program.threads) n) (world_of start)) ≡ [] =
    ap (λ (x : World). history_of (threads_in start) (range_with_len 0 (length start.program.threads)) x) (sym w) ∙
    ap (λ (x : Threads). history_of x (range_with_len 0 (length start.program.threads)) (world_of mid)) (sym same) ∙ idle in
    let e = rounds_idle (threads_in start) (length start.program.threads) n (start.limits.steps - n) (world_of start) (has_only start.program start.limits start.inputs) (sym (threads_count start)) none in
    m ∙ ap (λ (l : List ℕ). record start { taken = start.taken ++ l }) (sym e) ∙ ap (λ (x : ℕ). after_turns start (round_turns (length start.program.threads) x)) k

pub rounds-stop : (start mid new : Played) (n : ℕ) → n ≤ start.limits.steps → mid ≡ after_turns start (round_turns (length start.program.threads) n) →
    new ≡ after_turns mid (range_with_len 0 (length mid.program.threads)) → steps_in mid (range_with_len 0 (length mid.program.threads)) ≡ [] → new ≡ after_turns start (all_rounds start)
rounds-stop start mid new n l m h idle =
    let c : length mid.program.threads ≡ length start.program.threads = ap (λ (p : Played). length p.program.threads) m in
    h ∙ after_turns-none mid (range_with_len 0 (length mid.program.threads)) idle ∙
    rounds-last start mid n l m (ap (λ (k : ℕ). steps_in mid (range_with_len 0 k)) (sym c) ∙ idle)

-- a round that stopped
pub rounds-begun : (start mid new : Played) (n : ℕ) → n < start.limits.steps → mid ≡ after_turns start (round_turns (length start.program.threads) n) →
    HasBegun mid (range_with_len 0 (length mid.program.threads)) new → HasBegun start (all_rounds start) new
rounds-begun start mid new n l m begun =
    let z : (n + 1) + (start.limits.steps - (n + 1)) ≡ start.limits.steps = omega arith in
    let c : length mid.program.threads ≡ length start.program.threads = ap (λ (p : Played). length p.program.threads) m in
    let P : ℕ → Type 0 = λ k. HasBegun mid (range_with_len 0 k) new in
    begun-later start mid (round_turns (length start.program.threads) n) (range_with_len 0 (length start.program.threads)) (round_turns (length start.program.threads) (start.limits.steps - (n + 1)))
    (all_rounds start) new
    (ap (round_turns (length start.program.threads)) (sym z) ∙ round_turns-append (length start.program.threads) (n + 1) (start.limits.steps - (n + 1)) ∙
    ap (λ (l : List ℕ). l ++ round_turns (length start.program.threads) (start.limits.steps - (n + 1))) (round_turns-more (length start.program.threads) n) ∙
    append_assoc (round_turns (length start.program.threads) n) (range_with_len 0 (length start.program.threads)) (round_turns (length start.program.threads) (start.limits.steps - (n + 1)))) m (subst P c begun)

-- before any round, and after one more
pub rounds-none : (start : Played) → start ≡ after_turns start (round_turns (length start.program.threads) 0)
unfolding round_turns
rounds-none start = after_turns-nil start

pub rounds-more : (start mid new : Played) (n : ℕ) → mid ≡ after_turns start (round_turns (length start.program.threads) n) →
    new ≡ after_turns mid (range_with_len 0 (length mid.program.threads)) → new ≡ after_turns start (round_turns (length start.program.threads) (n + 1))
rounds-more start mid new n m h =
    h ∙ ap (λ (p : Played). after_turns p (range_with_len 0 (length p.program.threads))) m ∙
    sym (after_turns-append start (round_turns (length start.program.threads) n) (range_with_len 0 (length start.program.threads))) ∙
    ap (after_turns start) (sym (round_turns-more (length start.program.threads) n))

-- after all rounds every thread has ended
pub rounds-over : (start new : Played) → new ≡ after_turns start (all_rounds start) → IsOver new
rounds-over start new h =
    subst IsOver (sym h) (subst (λ (w : World). IsWhole (threads_in start) w) (sym (world-turns start (all_rounds start)))
    (rounds_whole (threads_in start) start.limits.steps (length start.program.threads) (world_of start) (ends_within start.program start.limits start.inputs) (sym (threads_count start))))

-- from the start, all rounds are the history of the program
pub rounds-opening : (old new : Played) → new ≡ after_turns old (all_rounds old) → old.taken ≡ [] → new.taken ≡ rounds_of old.program old.limits old.inputs
unfolding play
rounds-opening old new h none =
    ap (λ (p : Played). p.taken) h ∙
    ap (λ (l : List ℕ). l ++ history_of (threads_in old) (all_rounds old) (play (threads_in old) l (start_of old.program))) none
