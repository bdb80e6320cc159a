-- All threads: after the turn of one of them, and while each runs to its end.
use Rattle.std.proofs.Common.{◌≡◌, ℕ, suc, ◌+◌, ◌<◌, List, [], ◌∷◌, ◌++◌, length, refl, sym, ◌∙◌, ap, subst, arith}
use Rattle.std.specs.Prelude.{IfSome, slice_index_or, slice_set}
use Rattle.std.proofs.lemmas.List.{length-set, get_or_default, length_push, length-replicate, length-map}
use Rattle.replay_model.specs.Steps.{Step, initial_cells}
use Rattle.replay_model.specs.Histories.{World, steps_of, opening}
use Rattle.replay_model.specs.Logs.{Log}
use Rattle.replay_model.specs.Events.{keeps}
use Rattle.replay_model.specs.SkipPlay.{moves, finish, turns}
use Rattle.replay_model.proofs.Moves.{opening_steps}
use Rattle.replay_model.proofs.Plays.{turns-push}
use Rattle.replay_laws.proofs.Endings.{moves_there}
use Rattle.machine.specs.Programs.{ProgramValue}
use Rattle.machine.specs.Laws.{taken_in}
use Rattle.machine.specs.Runs.{state_after}
use Rattle.running_thread.specs.declared.thread.RunningThread.{RunningThread}
use Rattle.running_thread.proofs.Lists.{each-set, each-push}
use Rattle.replayer.specs.declared.words.ReplayWords.{ReplayWords}
use Rattle.replayer.specs.Replays.{Replaying, unplayed, after_turn, threads_by, world_of}
use Rattle.replayer.specs.KeptSteps.{AreLeft}
use Rattle.replayer.specs.Words.{left_of}
use Rattle.replayer.specs.Seats.{IsSeat, IsAt, IsShown, IsReplaying, AreFresh, AreAllLeft, HasRunOut, turned, run_out}
use Rattle.replayer.proofs.Noting.{none_noted}
use Rattle.replayer.proofs.Running.{turned-is}

-- one thread of those shown
pub shown-at : (p : ProgramValue) (log : Log) (world : World) (shared : ReplayWords) (seats : List RunningThread) (t : ℕ) (seat : RunningThread) → IsShown p log world shared seats → t < length seats → seat ≡ slice_index_or seats t seat →
    IsAt p log world t shared seat
shown-at p log world shared seats t seat is l at = record {
  are = is.are;
  seated = subst (IsSeat p log t (steps_of world.threads t)) (sym at) (is.each t seat l);
}

-- thread t moved, and all others stand as they were
pub shown-moved : (p : ProgramValue) (log : Log) (world : World) (shared after : ReplayWords) (seats : List RunningThread) (n t : ℕ) (seat : RunningThread) → IsShown p log world shared seats → t < length seats →
    IsAt p log (moves (threads_by p log) (keeps log) n t world) t after seat → IsShown p log (moves (threads_by p log) (keeps log) n t world) after (slice_set seats t seat)
shown-moved p log world shared after seats n t seat is l at = record {
  are = at.are;
  seated = length-set seats t seat ∙ is.seated;
  each = each-set (λ u. IsSeat p log u (steps_of (moves (threads_by p log) (keeps log) n t world).threads u)) seats seat t l at.seated
      (λ u d ne ul. subst (λ (s : List Step). IsSeat p log u s (slice_index_or seats u d)) (sym (moves_there (threads_by p log) (keeps log) n t u world ne)) (is.each u d ul));
}

-- the same after a turn
pub shown-turned : (p : ProgramValue) (log : Log) (world : World) (shared after : ReplayWords) (seats : List RunningThread) (t step : ℕ) (seat : RunningThread) → IsShown p log world shared seats → t < length seats →
    IsAt p log (turned p log t step world) t after seat → IsShown p log (turned p log t step world) after (slice_set seats t seat)
shown-turned p log world shared after seats t step seat is l at =
    let same = turned-is p log t step _ world refl in
    let P : World → Type 0 = λ w. IsShown p log w after (slice_set seats t seat) in
    let Q : World → Type 0 = λ w. IsAt p log w t after seat in
    subst P (sym same) (shown-moved p log world shared after seats _ t seat is l (subst Q same at))

-- the world after one more turn
pub world-turned : (r : Replaying) (t step : ℕ) → world_of (after_turn r (record { thread = t; step = step })) ≡ turned r.program r.log t step (world_of r)
world-turned r t step = turns-push (threads_by r.program r.log) (keeps r.log) r.turns (record { thread = t; step = step }) (opening r.program.words (length r.log.threads))

-- the replay after a turn
pub replaying-turned : (r : Replaying) (shared after : ReplayWords) (seats : List RunningThread) (t step : ℕ) (seat : RunningThread) → IsReplaying r shared seats → t < length seats →
    IsAt r.program r.log (turned r.program r.log t step (world_of r)) t after seat → IsReplaying (after_turn r (record { thread = t; step = step })) after (slice_set seats t seat)
replaying-turned r shared after seats t step seat is l at = record {
  threads = is.threads;
  words = is.words;
  shown =
      let P : World → Type 0 = λ w. IsShown r.program r.log w after (slice_set seats t seat) in
      subst P (sym (world-turned r t step)) (shown-turned r.program r.log (world_of r) shared after seats t step seat is.shown l at);
}

-- ---- the opening state

-- one more thread at its start
pub fresh-push : (p : ProgramValue) (log : Log) (count : ℕ) (seats : List RunningThread) (new : RunningThread) → AreFresh p log count seats → IsSeat p log count [] new → AreFresh p log (count + 1) (seats ++ new ∷ [])
fresh-push p log count seats new is here = record {
  counted = length_push seats new ∙ ap (λ (n : ℕ). n + 1) is.counted;
  each = each-push (λ t. IsSeat p log t []) seats new count is.counted here is.each;
}

pub fresh-none : (p : ProgramValue) (log : Log) → AreFresh p log 0 []
fresh-none p log = record { counted = refl; each = λ t seat l. absurd (omega arith) }

-- the opening state is that of no turn
pub replaying-start : (p : ProgramValue) (log : Log) (shared : ReplayWords) (seats : List RunningThread) → length p.threads ≡ length log.threads → length p.words ≡ length log.last_tags → shared.cells.items ≡ initial_cells p.words →
    AreAllLeft log (length p.threads) shared.kept.items → IfSome shared.notes (λ writes. writes.items ≡ []) → AreFresh p log (length p.threads) seats → IsReplaying (unplayed p log) shared seats
unfolding turns
replaying-start p log shared seats threads words memory named unnoted fresh = record {
  threads = threads;
  words = words;
  shown = record {
    are = record {
      memory = memory;
      sized = ap length memory ∙ length-map p.words _;
      counted = length-replicate {A = List Step} (length log.threads) [] ∙ sym threads;
      all = named.counted;
      left = λ t l.
          let P : List Step → Type 0 = λ s. AreLeft log t (length s) (left_of shared t) in
          subst P (sym (opening_steps (length log.threads) t)) (named.each t l);
      noted = none_noted p.words (length log.threads) shared.notes unnoted;
    };
    seated = fresh.counted;
    each = λ t seat l.
        let P : List Step → Type 0 = λ s. IsSeat p log t s (slice_index_or seats t seat) in
        subst P (sym (opening_steps (length log.threads) t)) (fresh.each t seat (let c = fresh.counted in omega (arith, c, l)));
  };
}

-- one more thread whose steps are named
pub left-push : (log : Log) (count : ℕ) (kept : List (List ℕ)) (steps : List ℕ) → AreAllLeft log count kept → AreLeft log count 0 steps → AreAllLeft log (count + 1) (kept ++ steps ∷ [])
left-push log count kept steps is here = record {
  counted = length_push kept steps ∙ ap (λ (n : ℕ). n + 1) is.counted;
  each = λ t l. each-push (λ u. AreLeft log u 0) kept steps count is.counted here (λ u d ul. subst (AreLeft log u 0) (get_or_default kept u [] d (let c = is.counted in omega (arith, c, ul))) (is.each u ul)) t [] l;
}

pub left-none : (log : Log) → AreAllLeft log 0 []
left-none log = record { counted = refl; each = λ t l. absurd (omega arith) }

-- ---- each thread runs to its end

-- the first n threads have run to their ends
pub record IsRunningOut (p : ProgramValue) (log : Log) (n : ℕ) (shared_then shared : ReplayWords) (seats_then seats : List RunningThread) : Type 0 where
  pub counted : length seats ≡ length seats_then
  pub shown : (world : World) → IsShown p log world shared_then seats_then → IsShown p log (run_out p log n world) shared seats
  pub settled : (world : World) → IsShown p log world shared_then seats_then → (t : ℕ) (seat : RunningThread) → t < n →
      (slice_index_or seats t seat).core ≡ state_after p log.limits (taken_in log) t (steps_of (run_out p log n world).threads t)

-- none has
pub out-start : (p : ProgramValue) (log : Log) (shared : ReplayWords) (seats : List RunningThread) → IsRunningOut p log 0 shared shared seats seats
unfolding finish
out-start p log shared seats = record { counted = refl; shown = λ world is. is; settled = λ world is t seat l. absurd (omega arith) }

-- one more has
pub out-more : (p : ProgramValue) (log : Log) (n : ℕ) (shared_then shared after : ReplayWords) (seats_then seats : List RunningThread) (old new : RunningThread) → IsRunningOut p log n shared_then shared seats_then seats → n < length seats →
    old ≡ slice_index_or seats n old → ((world : World) → IsAt p log world old.core.thread shared old → HasRunOut p log old.core.thread world after new) → IsRunningOut p log (n + 1) shared_then after seats_then (slice_set seats n new)
unfolding finish
out-more p log n shared_then shared after seats_then seats old new is l at ran = record {
  counted = length-set seats n new ∙ is.counted;
  shown = λ world then.
      let P : ℕ → Type 0 = λ m. IsShown p log (run_out p log m world) after (slice_set seats n new) in
      subst P next (shown-moved p log (run_out p log n world) shared after seats log.limits.steps n new (is.shown world then) l (here world then).at);
  settled = λ world then t seat tl.
      let P : ℕ → Type 0 = λ m. (slice_index_or (slice_set seats n new) t seat).core ≡ state_after p log.limits (taken_in log) t (steps_of (run_out p log m world).threads t) in
      let all = each-set (λ u (s : RunningThread). u < n + 1 → s.core ≡ state_after p log.limits (taken_in log) u (steps_of (run_out p log (suc n) world).threads u)) seats new n l (λ un. (here world then).settled)
      (λ u d ne ul un. is.settled world then u d (omega (arith, ne, un)) ∙ ap (state_after p log.limits (taken_in log) u) (sym (moves_there (threads_by p log) (keeps log) log.limits.steps n u (run_out p log n world) ne))) in
      subst P next (all t seat (let k = length-set seats n new in omega (arith, k, l, tl)) tl);
}
  where
    next : suc n ≡ n + 1
    next = omega arith

    here : (world : World) → IsShown p log world shared_then seats_then → HasRunOut p log n (run_out p log n world) after new
    here world then =
        let there = shown-at p log (run_out p log n world) shared seats n old (is.shown world then) l at in
        let P : ℕ → Type 0 = λ t. IsAt p log (run_out p log n world) t shared old in
        let Q : ℕ → Type 0 = λ t. HasRunOut p log t (run_out p log n world) after new in
        subst Q there.seated.own (ran (run_out p log n world) (subst P (sym there.seated.own) there))
