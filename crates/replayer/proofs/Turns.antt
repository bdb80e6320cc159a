-- A turn of a replay, from what its calls say.
use Rattle.std.proofs.Common.{◌≡◌, ℕ, ◌<◌, List, [], ◌∷◌, ◌++◌, length, sym, ◌∙◌, ap, subst, arith, inr}
use Rattle.std.specs.Prelude.{Option, Some, None, slice_index_or, slice_set}
use Rattle.replay_model.specs.declared.End.{End}
use Rattle.replay_model.specs.Steps.{Event}
use Rattle.replay_model.specs.Histories.{World}
use Rattle.std.proofs.lemmas.List.{get_or-set_same}
use Rattle.running_thread.specs.declared.thread.RunningThread.{RunningThread}
use Rattle.replayer.specs.declared.words.ReplayWords.{ReplayWords}
use Rattle.replayer.specs.declared.replay.Turned.TheVariants.{Done, Short}
use Rattle.replayer.specs.Replays.{Replaying, after_turn, threads_by, world_of, IsTurned, HasBegun}
use Rattle.replayer.specs.Seats.{IsAt, IsReplaying, IsEndBefore, HasRun, HasStopped, turned}
use Rattle.replayer.proofs.Ending.{shown-at, world-turned, replaying-turned}

-- a replay, and the thread whose turn it is
pub record Begins (r : Replaying) (shared : ReplayWords) (seats : List RunningThread) (event : Event) (place : ℕ) (old : RunningThread) : Type 0 where
  pub is : IsReplaying r shared seats
  pub there : event.thread < length r.program.threads
  pub at : place ≡ event.thread
  pub old_is : old ≡ slice_index_or seats place old

module _ (r : Replaying) (shared : ReplayWords) (seats : List RunningThread) (event : Event) (place : ℕ) (old : RunningThread) (b : Begins r shared seats event place old) where
  in-seats : place < length seats
  in-seats = let n = b.is.shown.seated in let h = b.there in let e = b.at in omega (arith, n, h, e)

  placed : IsAt r.program r.log (world_of r) place shared old
  placed = shown-at r.program r.log (world_of r) shared seats place old b.is.shown in-seats b.old_is

  thread-is : old.core.thread ≡ event.thread
  thread-is = placed.seated.own ∙ b.at

  -- where the thread stands
  pub stands : IsAt r.program r.log (world_of r) old.core.thread shared old
  stands = subst (λ (t : ℕ). IsAt r.program r.log (world_of r) t shared old) (sym placed.seated.own) placed

  -- the state after a turn up to a step, with what was written back
  pub after-turn : (after : ReplayWords) (new : RunningThread) (step : ℕ) (turns : List Event) → IsAt r.program r.log (turned r.program r.log old.core.thread step (world_of r)) old.core.thread after new →
      turns ≡ r.turns ++ record { thread = event.thread; step = step } ∷ [] → IsReplaying (record r { turns = turns }) after (slice_set seats place new)
  after-turn after new step turns at m =
      let P : ℕ → Type 0 = λ t. IsAt r.program r.log (turned r.program r.log t step (world_of r)) t after new in
      let Q : ℕ → Type 0 = λ t. IsReplaying (after_turn r (record { thread = event.thread; step = step })) after (slice_set seats t new) in
      let R : List Event → Type 0 = λ l. IsReplaying (record r { turns = l }) after (slice_set seats place new) in
      let l : event.thread < length seats = (let n = b.is.shown.seated in let h = b.there in omega (arith, n, h)) in
      subst R (sym m) (subst Q (sym b.at) (replaying-turned r shared after seats event.thread step new b.is l (subst P thread-is at)))

  -- the world after it
  world-after : (step : ℕ) (turns : List Event) → turns ≡ r.turns ++ record { thread = event.thread; step = step } ∷ [] → world_of (record r { turns = turns }) ≡ turned r.program r.log event.thread step (world_of r)
  world-after step turns m = ap (λ (l : List Event). world_of (record r { turns = l })) m ∙ world-turned r event.thread step

  ended-by : (end : Option End) (after : ReplayWords) (new : RunningThread) (turns : List Event) → HasRun r.program r.log old.core.thread event.step (world_of r) end after new → turns ≡ r.turns ++ event ∷ [] →
      IsEndBefore (threads_by r.program r.log) event.thread event.step (world_of (record r { turns = turns })) end
  ended-by end after new turns run m =
      let P : ℕ → Type 0 = λ t. IsEndBefore (threads_by r.program r.log) t event.step (turned r.program r.log t event.step (world_of r)) end in
      let Q : World → Type 0 = λ w. IsEndBefore (threads_by r.program r.log) event.thread event.step w end in
      subst Q (sym (world-after event.step turns m)) (subst P thread-is run.ended)

  -- the thread has taken the step
  pub turned-done : (end : Option End) (after : ReplayWords) (new : RunningThread) (turns : List Event) → HasRun r.program r.log old.core.thread event.step (world_of r) end after new → end ≡ None → turns ≡ r.turns ++ event ∷ [] →
      IsTurned (record r { turns = turns }) event Done
  turned-done end after new turns run none m = subst (IsEndBefore (threads_by r.program r.log) event.thread event.step (world_of (record r { turns = turns }))) none (ended-by end after new turns run m)

  -- it has ended before
  pub turned-short : (o : Option End) (end : End) (after : ReplayWords) (new : RunningThread) (turns : List Event) → HasRun r.program r.log old.core.thread event.step (world_of r) o after new → o ≡ Some end → turns ≡ r.turns ++ event ∷ [] →
      IsTurned (record r { turns = turns }) event (Short end)
  turned-short o end after new turns run some m = subst (IsEndBefore (threads_by r.program r.log) event.thread event.step (world_of (record r { turns = turns }))) some (ended-by o after new turns run m)

  -- the step to which it came
  pub step-is : (new mid : RunningThread) (step : ℕ) → mid ≡ slice_index_or (slice_set seats place new) place mid → step ≡ mid.core.steps → step ≡ new.core.steps
  step-is new mid step m s = s ∙ ap (λ (x : RunningThread). x.core.steps) (m ∙ get_or-set_same seats place new mid in-seats)

  -- it was stopped before
  pub begun : (seen : Replaying) (after : ReplayWords) (new mid : RunningThread) (step : ℕ) (turns : List Event) → r ≡ seen → HasStopped r.program r.log old.core.thread event.step (world_of r) after new →
      mid ≡ slice_index_or (slice_set seats place new) place mid → step ≡ mid.core.steps → turns ≡ r.turns ++ record { thread = event.thread; step = step } ∷ [] → HasBegun seen event (record r { turns = turns })
  begun seen after new mid step turns view stopped m s t =
      let P : Replaying → Type 0 = λ x. HasBegun x event (record r { turns = turns }) in
      subst P view (record {
        earlier = inr (step, (let f = stopped.before in omega (arith, at, f)), ap (λ (l : List Event). record r { turns = l }) t);
        again =
            world-turned (record r { turns = turns }) event.thread event.step ∙ ap (turned r.program r.log event.thread event.step) (world-after step turns t) ∙ back ∙ sym (world-turned r event.thread event.step);
      })
    where
      at : step ≡ new.core.steps
      at = step-is new mid step m s

      back : turned r.program r.log event.thread event.step (turned r.program r.log event.thread step (world_of r)) ≡ turned r.program r.log event.thread event.step (world_of r)
      back =
          let P : ℕ → Type 0 = λ t. turned r.program r.log t event.step (turned r.program r.log t step (world_of r)) ≡ turned r.program r.log t event.step (world_of r) in
          let Q : ℕ → Type 0 = λ n. turned r.program r.log old.core.thread event.step (turned r.program r.log old.core.thread n (world_of r)) ≡ turned r.program r.log old.core.thread event.step (world_of r) in
          subst P thread-is (subst Q (sym at) stopped.again)

-- the facts of a turn, as its calls give them
pub begins : (seen r : Replaying) (shared : ReplayWords) (seats : List RunningThread) (event : Event) (place : ℕ) (old : RunningThread) → r ≡ seen → IsReplaying r shared seats → event.thread < length seen.program.threads → place ≡ event.thread →
    old ≡ slice_index_or seats place old → Begins r shared seats event place old
begins seen r shared seats event place old view is l p at = record {
  is = is;
  there = subst (λ (x : Replaying). event.thread < length x.program.threads) (sym view) l;
  at = p;
  old_is = at;
}
